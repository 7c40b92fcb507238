use Rattle.std.proofs.Common.{◌*◌, ◌≤◌, length, arith}
use Rattle.cycles.specs.Reading.{cache}
use Rattle.tables.specs.Showing.{width}
use Rattle.tables.proofs.Applying.{applied_more, applied_all}
use Rattle.tables.proofs.table.change_all.Goals as goal

pub loop-k-preserved : goal.loop-k-preserved
loop-k-preserved g c =
    let h : width (cache c.args.cache) * c.args.n ≤ length c.loop-k.slots = omega (arith, c.requires.fits) in
    applied_more c.width-width.ensures c.loop-k-test.true h c.apply.auto.slot c.apply.ensures c.loop-k.invariant

pub returns : goal.returns
returns g c = applied_all (omega arith) c.loop-k.invariant
