use Rattle.std.proofs.Common.{◌≡◌, ◌++◌, map, drop}
use Rattle.trails.specs.Trails.{Lies, bit, full, record_of}
use Rattle.trails.proofs.telling.Telling.tell.Given as goal

abbrev pub invariant-loop-at : goal.invariant-loop-at
invariant-loop-at l =
    (l.at ≡ l.rest.recorded) × Lies l.store (full l.rest.recorded) l.rest.parent
    × (map bit (record_of l.store l.rest) ++ drop l.at l.out ≡ map bit (record_of l.store l.fn.self) ++ drop l.count l.initial.out)
