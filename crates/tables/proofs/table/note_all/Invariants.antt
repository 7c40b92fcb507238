use Rattle.cycles.specs.Reading.{cache}
use Rattle.tables.specs.Showing.{firsts_of}
use Rattle.tables.proofs.Applying.{Noted}
use Rattle.tables.proofs.table.note_all.Given as goal

abbrev pub invariant-loop-j : goal.invariant-loop-j
invariant-loop-j l = Noted (cache l.cache) (firsts_of l.firsts) l.n l.j l.choice l.initial.store l.store l.initial.slots l.slots
