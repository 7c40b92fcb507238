use Rattle.std.proofs.Common.{arith}
use Rattle.cycles.specs.Code.{Cache}
use Rattle.cycles.specs.Reading.{cache}
use Rattle.tables.proofs.Joining.{joined_at, at_rest, joined_behind, behind_rest}
use Rattle.tables.proofs.table.join.Goals as goal

pub returns-in-Some : goal.returns-in-Some
returns-in-Some c =
    let g : Cache = cache c.args.cache in
    let f = c.in-Some.ensures in
    record {
      shows = joined_at g c.args.slots.now c.args.m c.args.i c.requires.order c.requires.fits c.in-Some.found.0 c.width-width.result c.cells-cells.result c.improve.new.slot c.telling_at-long.result c.telling_at-short.result c.width-width.ensures c.cells-cells.ensures f c.improve.auto.slot c.telling_at-long.ensures c.telling_at-short.ensures c.improve.ensures;
      few = (omega arith, omega arith);
      rest = at_rest g c.args.slots.now c.args.m c.args.i c.requires.order c.requires.fits c.in-Some.found.0 c.width-width.result c.cells-cells.result c.improve.new.slot c.telling_at-long.result c.telling_at-short.result c.width-width.ensures c.cells-cells.ensures f c.improve.auto.slot;
    }

pub returns-in-None : goal.returns-in-None
returns-in-None c =
    let g : Cache = cache c.args.cache in
    record {
      shows = joined_behind g c.args.slots.now c.args.m c.args.i c.requires.order c.requires.fits c.move_slot.new.slots c.move_slot.ensures c.in-None.ensures;
      few = (omega arith, omega arith);
      rest = behind_rest g c.args.slots.now c.args.m c.args.i c.requires.order c.requires.fits c.move_slot.new.slots c.move_slot.ensures;
    }
