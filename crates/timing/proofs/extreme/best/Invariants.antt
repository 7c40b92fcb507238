use Rattle.std.proofs.Common.{◌<◌}
use Rattle.cycles.specs.Reading.{cache}
use Rattle.timing.specs.Retelling.{told_at}
use Rattle.timing.proofs.Orders.{Champion}
use Rattle.timing.proofs.extreme.best.Given as goal

abbrev pub invariant-loop-k : goal.invariant-loop-k
invariant-loop-k l = (l.best < l.k) × Champion l.extreme (λ j. told_at (cache l.cache) l.extreme j l.slots) l.best l.k
