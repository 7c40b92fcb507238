use Rattle.std.proofs.Common.{◌≡◌, length, sym}
use Rattle.std.proofs.lemmas.List.{length-take-le}
use Rattle.trails.specs.Stores.{nodes}
use Rattle.trails.proofs.Noting.{Noted, added_noted, shelved_noted}
use Rattle.trails.proofs.telling.Telling.note.Goals.{then-not-head_has_room+else-not-is_shelvable, else-not-head_has_room}
use Rattle.trails.proofs.telling.Telling.note.Goals as goal

-- a choice that goes into the head, or into a new head behind the full one
noted : (c : goal.After-add) → Noted c.args.first.0 (nodes c.args.store.now) (nodes c.if-not-head_has_room.store) c.args.self.now c.add.new.self c.args.choice
noted c =
    let a = c.args.first.0 in
    let s = nodes c.args.store.now in
    let t = c.args.self.now in
    let place : c.args.store.now.top ≡ length s = sym (length-take-le c.args.store.now.top c.args.store.now.words.now c.args.store.now.within) in
    elim c.if-not-head_has_room.branch [
      | then-not-head_has_room+else-not-is_shelvable w ↦
          let f = w.if-not-head_has_room.ensures in
          rw (c.add.ensures, w.self-is, w.store-is, w.shelve.ensures.telling, w.shelve.ensures.pushed) (shelved_noted a s c.args.store.now.top t c.args.choice place c.requires.sound c.if-not-whole.ensures f.0 f.1 w.if-not-is_shelvable.ensures.2)
      | else-not-head_has_room w ↦ rw (c.add.ensures, w.self-is, w.store-is) (added_noted a s t c.args.choice c.requires.sound c.if-not-whole.ensures w.if-not-head_has_room.ensures)
    ]

pub returns-clause-sound : goal.returns-clause-sound
returns-clause-sound c = (noted c).sound

pub returns-clause-tells : goal.returns-clause-tells
returns-clause-tells c = (noted c).tells
