use Rattle.std.proofs.Common.{rules, subst}
use Rattle.trails.specs.Trails.{Lies, full}
use Rattle.trails.proofs.Fronts.{sound_within}
use Rattle.trails.proofs.trail.tests.played.Goals as goal

pub returns-clause-lies : goal.returns-clause-lies
returns-clause-lies c =
    let s = sound_within c.args.first.0 c.loop-number.nodes.top c.loop-number.nodes.words.now c.loop-number.telling c.loop-number.invariant.2 in
    let t = c.loop-number.telling in
    subst (λ z. Lies z (full t.recorded) t.parent) (search rules) s.lies
