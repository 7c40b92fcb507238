use Rattle.cycles.specs.Reading.{cache}
use Rattle.tables.proofs.Applying.{Applied}
use Rattle.tables.proofs.table.change_all.Given as goal

abbrev pub invariant-loop-k : goal.invariant-loop-k
invariant-loop-k g l = Applied (cache l.cache) l.n l.k (g.C.Change.makes l.change (cache l.cache)) l.initial.slots l.slots
