use Rattle.std.proofs.Common.{◌+◌, subst}
use Rattle.trails.specs.Trails.{telling_of}
use Rattle.tables.specs.Showing.{Put, later}
use Rattle.tables.proofs.Overs.{retold}
use Rattle.tables.proofs.slot.spend.Goals as goal

pub returns : goal.returns
returns c =
    let p = c.add_cycles.ensures in
    let q = subst (λ z. Put (c.args.cells + 7) c.add_cycles.new.slot c.add_cycles-2.new.slot (later c.args.cycles (telling_of z))) p.behind c.add_cycles-2.ensures in
    retold c.args.cells c.args.slot.now c.add_cycles.new.slot c.add_cycles-2.new.slot _ _ p q
