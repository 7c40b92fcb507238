use Rattle.std.proofs.Common.{◌+◌, drop, ap, ◌∙◌}
use Rattle.cycles.specs.Reading.{cache}
use Rattle.trails.specs.Stores.{nodes}
use Rattle.trails.specs.Trails.{telling_of}
use Rattle.trails.proofs.Fronts.{grown_on}
use Rattle.tables.specs.Showing.{firsts_of}
use Rattle.tables.proofs.Matching.{shown_note, matches_kept, matches_as}
use Rattle.tables.proofs.slot.note_slot.Goals as goal

pub note_at-requires-2-clause-notable : goal.note_at-requires-2-clause-notable
note_at-requires-2-clause-notable c =
    let o = c.note_at.ensures in
    let n = c.requires.short in
    let m = matches_kept c.args.firsts.short.0 (nodes c.args.store.now) (nodes c.note_at.new.store) _ n.v o.grown.keeps n.matches in
    let e = ap telling_of o.put.behind ∙ ap (λ k. telling_of (drop (k + 7) c.args.slot.now)) c.cells-cells.ensures in
    record { v = n.v; matches = matches_as c.args.firsts.short.0 (nodes c.note_at.new.store) _ _ n.v e m; counts = n.counts }

pub returns-clause-grown : goal.returns-clause-grown
returns-clause-grown c = grown_on _ _ _ c.note_at.ensures.grown c.note_at-2.ensures.grown

pub returns-clause-shows : goal.returns-clause-shows
returns-clause-shows c e m =
    let o = c.note_at.ensures in
    let p = c.note_at-2.ensures in
    shown_note (cache c.args.cache) (firsts_of c.args.firsts) c.args.slot.now c.note_at.new.slot c.note_at-2.new.slot c.cells-cells.result c.cells-cells.ensures c.requires.fits c.note_at.auto.slot c.note_at-2.auto.slot (nodes c.args.store.now) (nodes c.note_at.new.store) (nodes c.note_at-2.new.store) c.args.choice e o.put p.put o.grown.keeps p.grown.keeps o.matches p.matches m
