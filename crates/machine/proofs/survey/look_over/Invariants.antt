use Rattle.std.proofs.Common.{◌≡◌, ℕ, ◌-◌, ◌≤◌, List, ◌++◌, length, drop}
use Rattle.cycles.specs.Code.{P}
use Rattle.cycles.specs.Rows.{row}
use Rattle.machine.proofs.Surveys.{Pending}
use Rattle.machine.proofs.survey.look_over.Given as goal

abbrev pub invariant-loop-pending : goal.invariant-loop-pending
invariant-loop-pending l =
    (l.at ≤ length l.words) × ((p : P) (rest : List ℕ) → drop l.start l.words ≡ row p ++ rest → Pending l.words l.start l.at l.quiet l.pending p rest)

abbrev pub decreases-loop-pending : goal.decreases-loop-pending
decreases-loop-pending l = length l.words - l.at
