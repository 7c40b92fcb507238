use Rattle.cycles.specs.Reading.{cache}
use Rattle.tables.proofs.Joining.{Gathered}
use Rattle.tables.proofs.table.gather.Given as goal

abbrev pub invariant-loop-k : goal.invariant-loop-k
invariant-loop-k l = Gathered (cache l.cache) l.m l.from l.count l.k l.all l.initial.slots l.slots
