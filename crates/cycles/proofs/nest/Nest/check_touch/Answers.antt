use Rattle.std.proofs.Common.{◌+◌, length, get_or, drop, leb, sym, ap, ◌∙◌, arith, length-append}
use Rattle.std.proofs.lemmas.List.Quantifiers.{position-Some}
use Rattle.std.proofs.lemmas.Bool.{leb-true}
use Rattle.cycles.proofs.Limits.{behind, step_at, touch_keeps, small_at, small_unless}
use Rattle.cycles.proofs.nest.Nest.check_touch.Goals as goal

pub returns-then-base-ge-LIMIT : goal.returns-then-base-ge-LIMIT
returns-then-base-ge-LIMIT c d us ws b =
    rw c.at.ensures ((behind us ws 1 _ (ap (λ xs. get_or xs 1 0) b), c.if-base-ge-LIMIT.true), (λ p r e o s. let k = touch_keeps ws c.args.self.loops d _ _ b p r e o in omega arith), omega (arith, ap length b))

pub returns-then-steps-self : goal.returns-then-steps-self
returns-then-steps-self c d us ws b =
    rw c.at-then-steps-self.ensures ((behind us ws 2 _ (ap (λ xs. get_or xs 2 0) b), c.if-steps-self.true), (λ p r e o s. let k = touch_keeps ws c.args.self.loops d _ _ b p r e o in omega arith), omega (arith, ap length b))

pub returns-in-Some : goal.returns-in-Some
returns-in-Some c d us ws b =
    let ks = c.args.steps.now in
    let i = c.in-Some.i in
    let found = position-Some (λ s. leb 65536 s) ks i 0 (sym c.in-Some.ensures) in
    let large = leb-true 65536 (get_or ks i 0) found.1 in
    rw c.at-in-Some.ensures ((behind us ws (3 + i) _ (ap (λ xs. get_or xs (3 + i) 0) b ∙ step_at _ _ ks (drop (3 + length ks) ws) i found.0), large), (λ p r e o s. let k = touch_keeps ws c.args.self.loops d _ _ b p r e o in omega (arith, small_at ks i found.0 k.2)), omega (arith, found.0, ap length b, length-append ks (drop (3 + length ks) ws)))

pub returns-in-None : goal.returns-in-None
returns-in-None c d = (c.if-base-ge-LIMIT.false, c.if-steps-self.false, small_unless c.args.steps.now (sym c.in-None.ensures))
