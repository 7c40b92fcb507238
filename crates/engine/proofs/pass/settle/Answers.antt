use Rattle.std.proofs.Common.{◌≡◌, ℕ, ◌+◌, ◌*◌, length, drop, sym, ap, ◌∙◌, subst, zero-add, mul-add, arith, length-drop}
use Rattle.cycles.specs.Reading.{cache}
use Rattle.tables.specs.Best.{told}
use Rattle.tables.specs.Showing.{Shows, width}
use Rattle.tables.specs.Tables.{dedup}
use Rattle.engine.proofs.Behind.{behind_is, behind_back, behind_front}
use Rattle.engine.proofs.Branches.{shows_dedup}
use Rattle.engine.proofs.pass.settle.Goals as goal

pub gather-requires : goal.gather-requires
gather-requires c =
    let w : ℕ = width (cache c.args.cache) in
    let e = behind_is c.args.keep c.args.slots.now c.width.ensures c.requires (omega arith) in
    let z : 0 + c.args.count ≡ c.args.count = zero-add c.args.count in
    record { order = omega arith; fits = rw (e, z) (omega (arith, length-drop (w * c.args.keep) c.args.slots.now, mul-add w c.args.keep c.args.count, c.requires)) }

pub returns : goal.returns
returns c =
    let g = cache c.args.cache in
    let w : ℕ = width g in
    let e = behind_is c.args.keep c.args.slots.now c.width.ensures c.requires (omega arith) in
    let l : length c.gather.new.slots ≡ length (drop (w * c.args.keep) c.args.slots.now) = c.gather.auto.slots ∙ ap length e in
    let back = behind_back c.args.keep c.args.slots.now c.width.ensures c.requires (omega arith) c.gather.new.slots l in
    record {
      kept = behind_front c.args.keep c.args.slots.now c.width.ensures c.requires (omega arith) c.gather.new.slots l;
      shows = λ a s T m. subst (λ z. Shows g a s c.gather.result z (dedup told.best T)) (sym back) (shows_dedup g a s c.args.count c.gather.result _ c.gather.new.slots T c.gather.ensures.shows (subst (λ z. Shows g a s c.args.count z T) (sym e) m));
      few = omega (arith, c.gather.ensures.few);
    }
