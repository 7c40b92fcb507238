use Rattle.std.proofs.Common.{◌*◌, arith, below_more}
use Rattle.tables.proofs.Chunks.{begins_not, begins_more}
use Rattle.tables.proofs.table.find.Goals as goal

pub words-preserved : goal.words-preserved
words-preserved c =
    let (h, u, e) = c.words.invariant in
    (omega arith, u, begins_more c.args.slots.now (c.width-width.result * c.states.k) (c.width-width.result * c.args.i) c.cells-cells.result c.states.invariant.1 c.words.j (omega arith) u e c.if-slots-here.false)

pub states-preserved : goal.states-preserved
states-preserved c =
    let (l, h, a) = c.states.invariant in
    (omega arith, h, below_more _ _ a (begins_not c.args.slots.now (c.width-width.result * c.states.k) (c.width-width.result * c.args.i) c.cells-cells.result h c.words.j (omega arith) c.if-slots-here.true))
