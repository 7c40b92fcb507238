use Rattle.std.proofs.Common.{◌≡◌}
use Rattle.trails.specs.Stores.{nodes}
use Rattle.trails.specs.Trails.{Sound}
use Rattle.trails.proofs.trail.tests.played.Given as goal

abbrev pub invariant-loop-number : goal.invariant-loop-number
invariant-loop-number l = (l.nodes.words.ghost_name ≡ l.initial.nodes.words.ghost_name) × (l.telling.count ≡ l.number) × Sound l.first.0 (nodes l.nodes) l.telling
