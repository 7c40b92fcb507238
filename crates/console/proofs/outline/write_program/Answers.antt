use Rattle.std.proofs.Common.{arith}
use Rattle.cycles.proofs.Fits.{fits}
use Rattle.console.proofs.outline.write_program.Goals as goal

pub slice_bounds-rest-count : goal.slice_bounds-rest-count
slice_bounds-rest-count g c = omega (arith, fits c.loop-task.rest.now c.in-Ok.node c.in-Ok.ensures, c.size.ensures)

pub slice_bounds-rest-start : goal.slice_bounds-rest-start
slice_bounds-rest-start g c = omega (arith, fits c.loop-task.rest.now c.in-Ok.node c.in-Ok.ensures, c.size.ensures)
