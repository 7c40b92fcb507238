use Rattle.std.proofs.Common.{sym, ◌∙◌}
use Rattle.listing.proofs.Counts.{line_here}
use Rattle.listing.proofs.marks.Marks.line_of.Goals as goal

pub returns-then-before-eq0-clause-value : goal.returns-then-before-eq0-clause-value
returns-then-before-eq0-clause-value c =
    sym (line_here c.loop-newline.newlines c.loop-newline.before _ _ _ c.in-Some.ensures.steps c.if-newline.false c.if-before-eq0.true) ∙ c.loop-newline.invariant.1
