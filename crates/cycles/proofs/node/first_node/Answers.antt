use Rattle.std.proofs.Common.{arith, length-drop, length-take, tests, ltb-false, eqb-true}
use Rattle.cycles.proofs.Fronts.{missing, work_cut, loop_cut, touch_cut, unknown}
use Rattle.cycles.proofs.node.first_node.Goals as goal

pub returns-then-count-rest : goal.returns-then-count-rest
returns-then-count-rest c =
    touch_cut _ (omega (arith, tests, eqb-true)) (omega (arith, tests, ltb-false)) (λ h. omega (arith, simp (length-take, length-drop) at c.if-count-rest.true))

pub returns-in-empty : goal.returns-in-empty
returns-in-empty c = missing _ (omega (arith, tests))

pub returns-in-0-2 : goal.returns-in-0-2
returns-in-0-2 c = work_cut _ (omega (arith, tests, eqb-true)) (omega (arith, tests, ltb-false))

pub returns-in-4-2 : goal.returns-in-4-2
returns-in-4-2 c = loop_cut _ (omega (arith, tests, eqb-true)) (omega (arith, tests, ltb-false))

pub returns-in-len1-up : goal.returns-in-len1-up
returns-in-len1-up c = unknown _ (grind (arith, tests))

pub returns-in-1-2 : goal.returns-in-1-2
returns-in-1-2 c = touch_cut _ (grind (arith, tests)) (omega (arith, tests, ltb-false)) (λ h. grind (arith, tests))
