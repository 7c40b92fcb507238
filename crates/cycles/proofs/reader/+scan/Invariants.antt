use Rattle.std.proofs.Common.{◌-◌, ◌≤◌, length}
use Rattle.cycles.proofs.Along.{Along}
use Rattle.cycles.proofs.reader.+scan.Given as goal

abbrev pub decreases-scan : goal.decreases-scan
decreases-scan l = length l.words.now - l.start

abbrev pub invariant-loop-end : goal.invariant-loop-end
invariant-loop-end l = Along l.words l.nest.loops l.nest.depth l.start l.at l.load.amount × (l.start ≤ l.at) × (l.load.place ≤ l.at)

abbrev pub decreases-loop-end : goal.decreases-loop-end
decreases-loop-end l = length l.words - l.at
