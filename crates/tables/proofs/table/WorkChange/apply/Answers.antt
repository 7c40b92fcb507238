use Rattle.std.proofs.Common.{◌+◌, drop, subst, arith}
use Rattle.cycles.specs.Reading.{cache}
use Rattle.trails.specs.Trails.{telling_of}
use Rattle.tables.specs.Showing.{Retold, later}
use Rattle.tables.proofs.Matching.{shown_spent}
use Rattle.tables.proofs.table.WorkChange.apply.Goals as goal

pub returns : goal.returns
returns c a s e m =
    let r = subst (λ v. Retold v c.args.slot.now c.spend.new.slot (later c.args.self.now.cycles (telling_of (drop v c.args.slot.now))) (later c.args.self.now.cycles (telling_of (drop (v + 7) c.args.slot.now)))) c.cells.ensures c.spend.ensures in
    shown_spent (cache c.args.cache) a s c.args.slot.now c.spend.new.slot c.args.self.now.cycles e (omega (arith, c.requires.fits)) c.spend.auto.slot r m
