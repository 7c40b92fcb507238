use Rattle.std.proofs.Common.{rules, tests, ◌∙◌}
use Rattle.std.proofs.lemmas.Iterator.Consumers.{YieldsList-at, YieldsList-from_filter, YieldsList-from_first, count_from_yields_List}
use Rattle.listing.specs.Packed.{ahead, marks_of}
use Rattle.listing.proofs.Counts.{newlines_kept}
use Rattle.listing.proofs.marks.Marks.newlines.Goals as goal

pub returns-clause-value : goal.returns-clause-value
returns-clause-value c =
    count_from_yields_List c.filter.result c.count.result c.count.ensures.ran
    (YieldsList-from_filter _ (λ b. b) (YieldsList-at c.filter.ensures.source (YieldsList-from_first (λ x. x) ahead (marks_of c.args.self.now) c.iter.ensures)) c.filter.ensures.closure (λ x r q k. search (rules, tests)))
    ∙ newlines_kept (marks_of c.args.self.now)
