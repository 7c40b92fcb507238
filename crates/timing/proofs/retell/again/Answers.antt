use Rattle.std.proofs.Common.{rules}
use Rattle.timing.proofs.Passes.{fits_done, done_holds}
use Rattle.timing.proofs.retell.again.Goals as goal

pub unwrap-requires : goal.unwrap-requires
unwrap-requires c = let t = fits_done c.tabulate.result c.requires.1 c.tabulate.ensures in rw t.1 (search rules)

pub returns : goal.returns
returns c = done_holds (rw c.unwrap.ensures at c.tabulate.ensures)
