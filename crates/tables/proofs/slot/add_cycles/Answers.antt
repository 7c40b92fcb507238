use Rattle.tables.proofs.Overs.{added}
use Rattle.tables.proofs.slot.add_cycles.Goals as goal

pub returns : goal.returns
returns c = rw (c.halves.ensures.low, c.halves.ensures.high, c.joined.ensures, c.from.ensures) (added c.args.slot.now c.args.at c.args.cycles c.requires.fits)
