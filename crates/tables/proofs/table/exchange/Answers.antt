use Rattle.std.proofs.Common.{◌≡◌, ℕ, ◌+◌, ◌-◌, ◌*◌, ◌++◌, take, drop, ap, subst, mul-add, arith}
use Rattle.tables.proofs.Chunks.{turned}
use Rattle.tables.proofs.table.exchange.Goals as goal

pub returns : goal.returns
returns c =
    let w : ℕ = c.width-width.result in
    let s = mul-add w c.args.n c.args.m in
    let z : w * (c.args.n + c.args.m) - 0 ≡ w * c.args.n + w * c.args.m = omega arith in
    let t = turned c.args.slots.now _ c.rotate_left.new.self (w * c.args.n) (w * c.args.m) (ap (λ k. take k c.args.slots.now) z) c.rotate_left.ensures.after in
    rw z (subst (λ v. c.rotate_left.new.self ++ drop (w * c.args.n + w * c.args.m) c.args.slots.now ≡ take (v * c.args.m) (drop (v * c.args.n) c.args.slots.now) ++ (take (v * c.args.n) c.args.slots.now ++ drop (v * (c.args.n + c.args.m)) c.args.slots.now)) c.width-width.ensures (rw s t))
