use Rattle.std.proofs.Common.{◌≡◌, ◌+◌, ◌-◌, ◌≤◌, length, take, drop}
use Rattle.tables.specs.Slots.{Absent}
use Rattle.tables.proofs.table.find.Given as goal

abbrev pub invariant-words : goal.invariant-words
invariant-words l = (l.j ≤ l.cells) × (l.here ≤ l.want) × (take l.j (drop l.here l.slots) ≡ take l.j (drop l.want l.slots))

abbrev pub decreases-words : goal.decreases-words
decreases-words l = l.cells - l.j

abbrev pub invariant-states : goal.invariant-states
invariant-states l = (l.k ≤ l.m) × (l.want + l.cells ≤ length l.slots) × Absent l.slots l.width l.k (take l.cells (drop l.want l.slots))

abbrev pub decreases-states : goal.decreases-states
decreases-states l = l.m - l.k
