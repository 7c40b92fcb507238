-- How a pass goes through an either: a copy of the table for the first branch, what that comes to before the original, the second branch, and both joined.
use Rattle.std.proofs.Common.{◌≡◌, ℕ, ◌+◌, ◌-◌, ◌*◌, ◌<◌, ◌≤◌, max, true, false, List, [], ◌++◌, map, length, take, drop, Ok, sym, ap, ◌∙◌, refl, subst, mul-add, arith, length-append, length-drop}
use Rattle.std.proofs.lemmas.List.{take_at, drop_at, length-take-le}
use Rattle.cycles.specs.declared.node.Node.TheVariants.{Either}
use Rattle.cycles.specs.Code.{P, either, Cache}
use Rattle.cycles.specs.Reading.{Begins}
use Rattle.cycles.specs.Rows.{row, amount}
use Rattle.trails.specs.declared.store.Store.{Store}
use Rattle.trails.specs.Stores.{Grown, nodes}
use Rattle.trails.proofs.Fronts.{grown_none, grown_on}
use Rattle.tables.specs.Best.{Both, Table, Room, told}
use Rattle.tables.specs.Each.{no_more}
use Rattle.tables.specs.Showing.{Shows, width}
use Rattle.tables.specs.Tables.{dedup, gather, chose, run, need}
use Rattle.tables.proofs.Chunks.{chunks_same, up_to}
use Rattle.tables.proofs.Rooms.{room_less, room_dedup}
use Rattle.engine.specs.declared.pass.Point.{Point}
use Rattle.engine.specs.declared.pass.Fork.{Fork}
use Rattle.engine.specs.Passing.{Fit, Task, Ready, Ran, Forked}
use Rattle.engine.proofs.Behind.{behind_room}
use Rattle.engine.proofs.Parts.{is_either}
use Rattle.engine.proofs.Chains.{point, shows_grown, shows_count}

-- slots with the same words show the same
pub shows_same : (c : Cache) (a : Both ℕ) (s : List ℕ) (n : ℕ) (xs ys : List ℕ) (T : Table) → width c * n ≤ length xs → width c * n ≤ length ys → take (width c * n) ys ≡ take (width c * n) xs → Shows c a s n xs T → Shows c a s n ys T
shows_same c a s n xs ys T h l e m = subst (λ z. Rattle.tables.specs.Each.Each (Rattle.tables.specs.Showing.Shown c a s) z T) (chunks_same (width c) n xs ys h l (sym e)) m

-- and so do slots that were copied behind themselves
pub shows_copy : (c : Cache) (a : Both ℕ) (s : List ℕ) (n : ℕ) (xs ys : List ℕ) (T : Table) → width c * n + width c * n ≤ length xs → length ys ≡ length xs → take (width c * n) (drop (width c * n) ys) ≡ take (width c * n) xs → Shows c a s n xs T → Shows c a s n (drop (width c * n) ys) T
shows_copy c a s n xs ys T h l e m = let d = length-drop (width c * n) ys in shows_same c a s n xs (drop (width c * n) ys) T (omega arith) (omega arith) e m

-- a table gathered onto none
pub shows_dedup : (c : Cache) (a : Both ℕ) (s : List ℕ) (n r : ℕ) (xs ys : List ℕ) (T : Table) → ((b : Both ℕ) (u : List ℕ) (V U : Table) → Shows c b u 0 xs V → Shows c b u n (drop (width c * 0) xs) U → Shows c b u r ys (gather told.best V U)) → Shows c a s n xs T → Shows c a s r ys (dedup told.best T)
shows_dedup c a s n r xs ys T f m =
    let z : width c * 0 ≡ 0 = omega arith in
    f a s [] T no_more (subst (λ k. Shows c a s n (drop k xs) T) (sym z) m)

-- how words stand after the parts of n and of m slots are exchanged
module _ (w n m : ℕ) (xs ys : List ℕ) (fits : w * (n + m) ≤ length xs) (is : ys ≡ take (w * m) (drop (w * n) xs) ++ (take (w * n) xs ++ drop (w * (n + m)) xs)) where
  long_back : w * n + w * m ≤ length xs
  long_back = omega (arith, mul-add w n m)

  pub exchanged_front : take (w * m) ys ≡ take (w * m) (drop (w * n) xs)
  exchanged_front =
      let l : length (take (w * m) (drop (w * n) xs)) ≡ w * m = length-take-le (w * m) (drop (w * n) xs) (let d = length-drop (w * n) xs in omega (arith, long_back)) in
      ap (take (w * m)) is ∙ take_at (take (w * m) (drop (w * n) xs)) _ (w * m) l

  pub exchanged_back : take (w * n) (drop (w * m) ys) ≡ take (w * n) xs
  exchanged_back =
      let l : length (take (w * m) (drop (w * n) xs)) ≡ w * m = length-take-le (w * m) (drop (w * n) xs) (let d = length-drop (w * n) xs in omega (arith, long_back)) in
      let i : length (take (w * n) xs) ≡ w * n = length-take-le (w * n) xs (omega (arith, long_back)) in
      ap (λ z. take (w * n) (drop (w * m) z)) is ∙ ap (take (w * n)) (drop_at (take (w * m) (drop (w * n) xs)) (take (w * n) xs ++ drop (w * (n + m)) xs) (w * m) l) ∙ take_at (take (w * n) xs) _ (w * n) i

module _ {c : Cache} {a : Both ℕ} {ws : List ℕ} {loops : ℕ} {f : Point} {xs : List ℕ} {st : Store} (k : Task c a ws loops f xs st) (is : Begins (drop f.at ws) (Ok Either)) where
  -- the table before the either, each state once
  abbrev S : Table
  S = dedup told.best k.T

  abbrev X : P
  X = (is_either k.fit is).0

  abbrev Y : P
  Y = (is_either k.fit is).1

  either_is : k.p ≡ either X Y
  either_is = (is_either k.fit is).2

  -- the first branch's task, on the copies
  abbrev pub task_one : (x₂ : List ℕ) (n : ℕ) → Shows c a (nodes st) n x₂ S → Task c a ws loops (point (f.at + 1) n) x₂ st
  task_one x₂ n m = record { p = X; rest = row Y ++ k.rest; T = S; fit = (is_either k.fit is).3; shows = m }

  room_branch : (q : P) → 1 + amount q ≤ amount (either X Y) → Room (amount k.p + 0) k.T → Room (amount q + 1) S
  room_branch q h r = room_dedup (amount q + 1) k.T (room_less (amount q + 1) (amount k.p + 0) k.T (omega (arith, ap amount either_is)) r)

  pub ready_one : (x₂ : List ℕ) (n free : ℕ) → Shows c a (nodes st) n x₂ S → Room (amount k.p + 0) k.T → n ≤ free → width c * free ≤ length x₂ → Ready c a ws loops (point (f.at + 1) n) free 1 x₂ st
  ready_one x₂ n free m r h l = record { task = task_one x₂ n m; room = room_branch X (omega arith) r; count = h; lent = l }

  module _ (rs : List ℕ) (slots : ℕ) where
    -- the table behind the first branch, each state once
    abbrev F : Table
    F = dedup told.best (run told c X rs (map (chose told true) S))

    need_is : need told c k.p rs k.T ≡ max (length S + length S) (max (length S + need told c X rs (map (chose told true) S)) (length F + need told c Y rs (map (chose told false) S)))
    need_is = ap (λ z. need told c z rs k.T) either_is

    pub crowded_copies : (x₁ : List ℕ) (n : ℕ) → Shows c a (nodes st) n x₁ S → slots < n + n → (slots < need told c k.p rs k.T) × Grown st st
    crowded_copies x₁ n m h = (omega (arith, h, need_is, shows_count c a (nodes st) n x₁ S m), grown_none st)

    pub crowded_first : (x₂ : List ℕ) (n : ℕ) (st₁ : Store) → Shows c a (nodes st) n x₂ S → n ≤ slots → (slots - n < need told c X rs (map (chose told true) S)) × Grown st st₁ → (slots < need told c k.p rs k.T) × Grown st st₁
    crowded_first x₂ n st₁ m h l = (omega (arith, l.0, h, need_is, shows_count c a (nodes st) n x₂ S m), l.1)

    -- the first branch is done on the copies in p₃, the part behind the n slots of x₄; m slots are left of it, and stand before the original in x₅
    pub forked : (x₂ p₃ x₄ x₅ : List ℕ) (st₁ : Store) (n m : ℕ) (t : Point) → Shows c a (nodes st) n x₂ S → n + n ≤ slots → width c * slots ≤ length x₂ → length x₄ ≡ length x₂ → length x₅ ≡ length x₂ → take (width c * n) x₄ ≡ take (width c * n) x₂ → Ran c a rs X (map (chose told true) S) (point (f.at + 1) n) t (slots - n) p₃ st st₁ → ((U : Table) → Shows c a (nodes st₁) t.count p₃ U → Shows c a (nodes st₁) m (drop (width c * n) x₄) (dedup told.best U)) → m ≤ t.count → x₅ ≡ take (width c * m) (drop (width c * n) x₄) ++ (take (width c * n) x₄ ++ drop (width c * (n + m)) x₄) → Forked c a rs ws loops slots k.p k.T f (record { second = point t.at n; first = m }) x₅ st st₁
    forked x₂ p₃ x₄ x₅ st₁ n m t shows twice long l₄ l₅ kept r settled few turned =
        let fy = (is_either k.fit is).4 in
        let len = shows_count c a (nodes st) n x₂ S shows in
        let b = r.count in
        let u = up_to (width c) (n + m) slots (omega arith) in
        let v = up_to (width c) n slots (omega arith) in
        let z = mul-add (width c) n m in
        let d = length-drop (width c * n) x₄ in
        let g = length-drop (width c * m) x₅ in
        let origin = shows_grown n x₄ r.grown (shows_same c a (nodes st) n x₂ x₄ S (omega arith) (omega arith) kept shows) in
        record {
          x = X;
          y = Y;
          rest = k.rest;
          is = either_is;
          fit = subst (λ i. Fit ws loops i Y k.rest) (sym r.ends) fy;
          ends = omega (arith, r.ends, ap (λ q. length (row q)) either_is, length-append (row X) (row Y));
          grown = r.grown;
          fits = omega arith;
          twice = omega (arith, len);
          enough = omega (arith, len, r.enough);
          front = shows_same c a (nodes st₁) m (drop (width c * n) x₄) x₅ F (omega arith) (omega arith) (exchanged_front (width c) n m x₄ x₅ (omega arith) turned) (settled _ r.shows);
          origin = shows_same c a (nodes st₁) n x₄ (drop (width c * m) x₅) S (omega arith) (omega arith) (exchanged_back (width c) n m x₄ x₅ (omega arith) turned) origin;
        }

-- the table, and its copy behind it
pub copies : {c : Cache} {a : Both ℕ} {ws : List ℕ} {loops : ℕ} {f : Point} {xs : List ℕ} {st : Store} (k : Task c a ws loops f xs st) (slots : ℕ) (x₁ x₂ : List ℕ) (n : ℕ) → ((b : Both ℕ) (u : List ℕ) (V U : Table) → Shows c b u 0 xs V → Shows c b u f.count (drop (width c * 0) xs) U → Shows c b u n x₁ (gather told.best V U)) → n + n ≤ slots → width c * slots ≤ length x₁ → length x₂ ≡ length x₁ → take (width c * n) x₂ ≡ take (width c * n) x₁ → take (width c * n) (drop (width c * n) x₂) ≡ take (width c * n) x₁ → Shows c a (nodes st) n x₂ (dedup told.best k.T) × Shows c a (nodes st) n (drop (width c * n) x₂) (dedup told.best k.T)
copies {c} {a} {ws} {loops} {f} {xs} {st} k slots x₁ x₂ n g twice fits l front back =
    let m = shows_dedup c a (nodes st) f.count n xs x₁ k.T g k.shows in
    let u = up_to (width c) (n + n) slots twice in
    let z = mul-add (width c) n n in
    (shows_same c a (nodes st) n x₁ x₂ (dedup told.best k.T) (omega arith) (omega arith) front m, shows_copy c a (nodes st) n x₁ x₂ (dedup told.best k.T) (omega arith) l back m)

-- the second branch, from what stands between the branches
module _ {c : Cache} {a : Both ℕ} {rs ws : List ℕ} {loops slots : ℕ} {p : P} {T : Table} {f : Point} {t : Fork} {ys : List ℕ} {st st' : Store} (o : Forked c a rs ws loops slots p T f t ys st st') where
  abbrev S₂ : Table
  S₂ = dedup told.best T

  abbrev F₂ : Table
  F₂ = dedup told.best (run told c o.x rs (map (chose told true) S₂))

  abbrev pub task_two : Task c a ws loops t.second (drop (width c * t.first) ys) st'
  task_two = record { p = o.y; rest = o.rest; T = S₂; fit = o.fit; shows = o.origin }

  pub ready_two : Room (amount p + 0) T → width c * slots ≤ length ys → Ready c a ws loops t.second (slots - t.first) 1 (drop (width c * t.first) ys) st'
  ready_two r l =
      record {
        task = task_two;
        room = room_dedup (amount o.y + 1) T (room_less (amount o.y + 1) (amount p + 0) T (omega (arith, ap amount o.is)) r);
        count = omega (arith, o.fits);
        lent = behind_room {w = width c} t.first ys refl l (omega (arith, o.fits));
      }

  -- it begins behind the either's own word
  pub second_later : (f.at < t.second.at) × (t.second.at ≤ length ws)
  second_later = (omega (arith, o.ends, ap (λ q. length (row q)) o.is, length-append (row o.x) (row o.y)), o.fit.within)

  need_two : need told c p rs T ≡ max (length S₂ + length S₂) (max (length S₂ + need told c o.x rs (map (chose told true) S₂)) (length F₂ + need told c o.y rs (map (chose told false) S₂)))
  need_two = ap (λ z. need told c z rs T) o.is

  pub crowded_second : (st'' : Store) → (slots - t.first < need told c o.y rs (map (chose told false) S₂)) × Grown st' st'' → (slots < need told c p rs T) × Grown st st''
  crowded_second st'' h = (omega (arith, h.0, o.fits, need_two, shows_count c a (nodes st') t.first ys F₂ o.front), grown_on st st' st'' o.grown h.1)

  pub came_both : (x₆ x₇ : List ℕ) (st'' : Store) (e : Point) (all : ℕ) → width c * slots ≤ length ys → length x₆ ≡ length ys → take (width c * t.first) x₆ ≡ take (width c * t.first) ys → Ran c a rs o.y (map (chose told false) S₂) t.second e (slots - t.first) (drop (width c * t.first) x₆) st' st'' → ((b : Both ℕ) (u : List ℕ) (V U : Table) → Shows c b u t.first x₆ V → Shows c b u e.count (drop (width c * t.first) x₆) U → Shows c b u all x₇ (gather told.best V U)) → all ≤ t.first + e.count → Ran c a rs p T f (point e.at all) slots x₇ st st''
  came_both x₆ x₇ st'' e all long l kept r joins few =
      let h = o.fits in
      let b = r.count in
      let v = up_to (width c) t.first slots (omega arith) in
      let len = shows_count c a (nodes st') t.first ys F₂ o.front in
      let front = shows_grown t.first x₆ r.grown (shows_same c a (nodes st') t.first ys x₆ F₂ (omega arith) (omega arith) kept o.front) in
      record {
        ends = omega (arith, r.ends, o.ends);
        grown = grown_on st st' st'' o.grown r.grown;
        count = omega arith;
        enough = omega (arith, need_two, o.twice, o.enough, r.enough, len);
        shows = subst (λ z. Shows c a (nodes st'') all x₇ (run told c z rs T)) (sym o.is) (joins a (nodes st'') F₂ _ front r.shows);
      }
