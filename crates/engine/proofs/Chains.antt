-- How a pass goes on through a chain of twos, and what it makes of one work, touch or nothing.
use Rattle.std.proofs.Common.{◌≡◌, ℕ, ◌+◌, ◌*◌, ◌<◌, ◌≤◌, max, List, ◌++◌, length, drop, Some, None, Ok, Option, sym, refl, ap, ◌∙◌, subst, arith, length-append}
use Rattle.cycles.specs.declared.node.Node.TheVariants.{Seq}
use Rattle.cycles.specs.Code.{P, Cache}
use Rattle.cycles.specs.Reading.{Begins}
use Rattle.cycles.specs.Rows.{row, amount}
use Rattle.machine.proofs.Times.{Quick}
use Rattle.trails.specs.declared.store.Store.{Store}
use Rattle.trails.specs.Stores.{Grown, nodes}
use Rattle.trails.proofs.Fronts.{grown_none, grown_on}
use Rattle.tables.specs.Best.{Both, Table, Room, told}
use Rattle.tables.specs.Showing.{Shows, Spendable, width}
use Rattle.tables.specs.Tables.{run, need}
use Rattle.tables.proofs.Applying.{has_at}
use Rattle.tables.proofs.Chunks.{length_chunks, chunk_at, up_to}
use Rattle.tables.proofs.Eaches.{each_length, each_with, each_at}
use Rattle.tables.proofs.Matching.{shown_kept}
use Rattle.tables.proofs.Rooms.{room_less, room_run}
use Rattle.engine.specs.declared.pass.Point.{Point}
use Rattle.engine.specs.Passing.{Fit, Task, Ready, Ran, Came, Goes}
use Rattle.engine.proofs.Parts.{is_seq}

abbrev pub point : ℕ → ℕ → Point
point at count = record { at = at; count = count }

-- what was shown with a store is shown with the store that it has grown to
pub shows_grown : {c : Cache} {a : Both ℕ} {s s' : Store} (n : ℕ) (xs : List ℕ) {T : Table} → Grown s s' → Shows c a (nodes s) n xs T → Shows c a (nodes s') n xs T
shows_grown {c} {a} {s} {s'} n xs g h = each_with (λ ws e m. shown_kept c a (nodes s) (nodes s') ws e g.keeps m) h

pub shows_count : (c : Cache) (a : Both ℕ) (s : List ℕ) (n : ℕ) (xs : List ℕ) (T : Table) → Shows c a s n xs T → n ≡ length T
shows_count c a s n xs T h = sym (length_chunks (width c) n xs) ∙ each_length h

-- a pass over p and T that began at f is at g, with a program and a table before it that lead to the same
pub record Onward (c : Cache) (a : Both ℕ) (rs ws : List ℕ) (loops slots : ℕ) (p : P) (T : Table) (f g : Point) (st : Store) (ys : List ℕ) (st' : Store) : Type 0 where
  pub task : Task c a ws loops g ys st'
  pub ends : f.at + length (row p) ≡ g.at + length (row task.p)
  pub grown : Grown st st'
  pub runs : run told c p rs T ≡ run told c task.p rs task.T
  pub wide : need told c task.p rs task.T ≤ need told c p rs T
  pub enough : need told c p rs T ≤ max slots (need told c task.p rs task.T)
  pub room : Room (amount p) T → Room (amount task.p) task.T

pub onward_start : {c : Cache} {a : Both ℕ} {rs ws : List ℕ} {loops slots : ℕ} {f : Point} {xs : List ℕ} {st : Store} (k : Task c a ws loops f xs st) → Onward c a rs ws loops slots k.p k.T f f st xs st
onward_start {st = st} k = record { task = k; ends = refl; grown = grown_none st; runs = refl; wide = omega arith; enough = omega arith; room = λ r. r }

-- slots that show tellings with room for one work or touch
pub spendable : {c : Cache} {a : Both ℕ} {s : List ℕ} (n : ℕ) (xs : List ℕ) {T : Table} → Shows c a s n xs T → Room 1 T → Spendable c n xs
spendable {c} n xs m r j less =
    let p = each_at m (chunk_at (width c) j n xs less) in
    let (x, y) = r p.y (has_at p.at) in
    (omega (arith, p.rel.long.time, x.0), omega (arith, p.rel.short.time, y.0))

module _ {c : Cache} {a : Both ℕ} {rs ws : List ℕ} {loops slots : ℕ} {p : P} {T : Table} {f g : Point} {st : Store} {ys : List ℕ} {st' : Store} (o : Onward c a rs ws loops slots p T f g st ys st') where
  pub onward_end : (zs : List ℕ) (st'' : Store) (r : Option Point) → Came c a rs o.task.p o.task.T g slots zs st' st'' r → Came c a rs p T f slots zs st st'' r
  onward_end zs st'' None m = (omega (arith, m.0, o.wide), grown_on st st' st'' o.grown m.1)
  onward_end zs st'' (Some t) m =
      record {
        ends = omega (arith, m.ends, o.ends);
        grown = grown_on st st' st'' o.grown m.grown;
        count = m.count;
        enough = omega (arith, m.enough, o.enough);
        shows = subst (λ U. Shows c a (nodes st'') t.count zs U) (sym o.runs) m.shows;
      }

  room_on : Room (amount p + 0) T → Room (amount o.task.p) o.task.T
  room_on r = o.room (room_less _ _ T (omega arith) r)

  -- one work or touch at g can be spent in each slot
  pub spends : (q : P) → o.task.p ≡ q → amount q ≡ 1 → Room (amount p + 0) T → Spendable c g.count ys
  spends q e n r = spendable g.count ys o.task.shows (subst (λ m. Room m o.task.T) (ap amount e ∙ n) (room_on r))

  -- the program at g is ready
  pub ready_on : Room (amount p + 0) T → g.count ≤ slots → width c * slots ≤ length ys → Ready c a ws loops g slots 0 ys st'
  ready_on r h l = record { task = o.task; room = room_less _ _ o.task.T (omega arith) (room_on r); count = h; lent = l }

  -- and so is the first of two
  pub ready_first : Begins (drop g.at ws) (Ok Seq) → Room (amount p + 0) T → g.count ≤ slots → width c * slots ≤ length ys → Ready c a ws loops (point (g.at + 1) g.count) slots 0 ys st'
  ready_first n r h l =
      let k = o.task in
      let (x, y, e, u, v) = is_seq k.fit n in
      record {
        task = record { p = x; rest = row y ++ k.rest; T = k.T; fit = u; shows = k.shows };
        room = room_less (amount x + 0) (amount k.p) k.T (omega (arith, ap amount e)) (room_on r);
        count = h;
        lent = l;
      }

  -- what the first of two comes to
  module _ (n : Begins (drop g.at ws) (Ok Seq)) (zs : List ℕ) (st'' : Store) where
    pub onward_seq : (t : Point) → Quick c → Goes c a rs ws loops (point (g.at + 1) g.count) slots ys zs st' st'' (Some t) → Onward c a rs ws loops slots p T f t st zs st''
    onward_seq t quick came =
        let k = o.task in
        let (x, y, e, u, v) = is_seq k.fit n in
        let m = came (record { p = x; rest = row y ++ k.rest; T = k.T; fit = u; shows = k.shows }) in
        let w = ap (λ z. need told c z rs k.T) e in
        record {
          task = record { p = y; rest = k.rest; T = run told c x rs k.T; fit = subst (λ z. Fit ws loops z y k.rest) (sym m.ends) v; shows = m.shows };
          ends = omega (arith, o.ends, m.ends, ap (λ z. length (row z)) e, length-append (row x) (row y));
          grown = grown_on st st' st'' o.grown m.grown;
          runs = o.runs ∙ ap (λ z. run told c z rs k.T) e;
          wide = omega (arith, o.wide, w);
          enough = omega (arith, o.enough, w, m.enough);
          room = λ r. room_run c x rs loops (amount y) k.T quick u.fine (subst (λ z. Room (amount z) k.T) e (o.room r));
        }

    -- where the second of two begins
    pub second_at : (t : Point) → Goes c a rs ws loops (point (g.at + 1) g.count) slots ys zs st' st'' (Some t) → (t.count ≤ slots) × (g.at < t.at) × (t.at ≤ length ws)
    second_at t came =
        let k = o.task in
        let (x, y, e, u, v) = is_seq k.fit n in
        let m = came (record { p = x; rest = row y ++ k.rest; T = k.T; fit = u; shows = k.shows }) in
        (m.count, omega (arith, m.ends), omega (arith, m.ends, v.within))

    pub seq_crowded : Goes c a rs ws loops (point (g.at + 1) g.count) slots ys zs st' st'' None → (slots < need told c p rs T) × Grown st st''
    seq_crowded came =
        let k = o.task in
        let (x, y, e, u, v) = is_seq k.fit n in
        let m = came (record { p = x; rest = row y ++ k.rest; T = k.T; fit = u; shows = k.shows }) in
        (omega (arith, o.wide, m.0, ap (λ z. need told c z rs k.T) e), grown_on st st' st'' o.grown m.1)

-- a program without an either, of which it is known what it makes of the table
pub came_plain : {c : Cache} {a : Both ℕ} {rs ws : List ℕ} {loops slots : ℕ} {g : Point} {ys : List ℕ} {st : Store} (q : P) (t : Point) (at : ℕ) (zs : List ℕ) (k : Task c a ws loops g ys st) → t ≡ point at g.count → k.p ≡ q → need told c q rs k.T ≡ 0 → at ≡ g.at + length (row q) → g.count ≤ slots → Shows c a (nodes st) g.count zs (run told c q rs k.T) → Ran c a rs k.p k.T g t slots zs st st
came_plain {c} {a} {rs} {slots = slots} {g} {st = st} q t at zs k i e n l h m =
    subst (λ z. Ran c a rs k.p k.T g z slots zs st st) (sym i) (subst (λ z. Ran c a rs z k.T g (point at g.count) slots zs st st) (sym e) (record { ends = l; grown = grown_none st; count = h; enough = omega (arith, n); shows = m }))

-- so many slots fit where there is room for more
pub slots_fit : (w : ℕ) {n m : ℕ} (xs ys : List ℕ) → n ≤ m → w * m ≤ length xs → length ys ≡ length xs → w * n ≤ length ys
slots_fit w {n} {m} xs ys h l e = omega (arith, up_to w n m h)

-- the same by equal points
pub ready_as : {c : Cache} {a : Both ℕ} {ws : List ℕ} {l : ℕ} {f f' : Point} {slots more : ℕ} {xs : List ℕ} {st : Store} → f' ≡ f → Ready c a ws l f slots more xs st → Ready c a ws l f' slots more xs st
ready_as {c} {a} {ws} {l} {slots = slots} {more} {xs} {st} y r = subst (λ v. Ready c a ws l v slots more xs st) (sym y) r
