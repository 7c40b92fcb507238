use Rattle.std.proofs.Common.{◌*◌, ◌≤◌, length, arith}
use Rattle.cycles.specs.Code.{Cache}
use Rattle.cycles.specs.Reading.{cache}
use Rattle.trails.specs.Stores.{nodes}
use Rattle.tables.specs.Showing.{firsts_of, width}
use Rattle.tables.proofs.Applying.{noted_more, noted_all, notable, part, part_is}
use Rattle.tables.proofs.table.note_all.Goals as goal

pub note_slot-requires : goal.note_slot-requires
note_slot-requires c =
    let g : Cache = cache c.args.cache in
    let h : width g * c.args.n ≤ length c.loop-j.slots = omega (arith, c.requires.fits) in
    let i = part_is g c.args.n c.loop-j.j c.width-width.result c.loop-j.slots c.width-width.ensures c.loop-j-test.true h c.args.slots.now c.loop-j.invariant.rest in
    let (s, t) = notable g (firsts_of c.args.firsts) c.args.n c.loop-j.j (nodes c.args.store.now) (nodes c.loop-j.store) c.args.slots.now (part c.width-width.result c.loop-j.j c.loop-j.slots) c.loop-j-test.true c.loop-j.invariant.grown.keeps i c.requires.showing in
    record { fits = omega arith; long = s; short = t }

pub loop-j-preserved : goal.loop-j-preserved
loop-j-preserved c =
    let h : width (cache c.args.cache) * c.args.n ≤ length c.loop-j.slots = omega (arith, c.requires.fits) in
    let o = c.note_slot.ensures in
    noted_more c.width-width.ensures c.loop-j-test.true h c.note_slot.auto.slot o.grown o.shows c.loop-j.invariant

pub returns-clause-shows : goal.returns-clause-shows
returns-clause-shows c = noted_all (omega arith) c.loop-j.invariant
