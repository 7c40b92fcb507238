use Rattle.std.proofs.Common.{◌+◌, subst}
use Rattle.trails.specs.Trails.{telling_of}
use Rattle.tables.specs.declared.slot.Extreme.TheVariants.{Shortest}
use Rattle.tables.specs.Showing.{Put, better_of}
use Rattle.tables.proofs.Overs.{retold}
use Rattle.tables.proofs.slot.improve.Goals as goal

pub returns : goal.returns
returns c =
    let p = c.keep_better.ensures in
    let q = subst (λ z. Put (c.args.cells + 7) c.keep_better.new.slot c.keep_better-2.new.slot (better_of Shortest (telling_of z) c.args.short)) p.behind c.keep_better-2.ensures in
    retold c.args.cells c.args.slot.now c.keep_better.new.slot c.keep_better-2.new.slot _ _ p q
