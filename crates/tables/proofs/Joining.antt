-- An entry joined to a table, and slots that do so: the slot of its state keeps the better tellings, or it goes behind the others.
use Rattle.std.proofs.Common.{◌≡◌, ℕ, zero, suc, ◌+◌, ◌*◌, ◌<◌, ◌≤◌, true, false, List, [], ◌∷◌, ◌++◌, length, take, drop, set, sym, refl, ap, ◌∙◌, subst, subst₂, ⊎_elim, add_assoc, mul-suc, mul-add, add-one, arith}
use Rattle.std.proofs.lemmas.List.{drop-drop, take-take, take_all, length-take-le, length-drop}
use Rattle.std.proofs.lemmas.Bool.{cases_Bool}
use Rattle.cycles.specs.Code.{Cache, St}
use Rattle.cycles.specs.Plays.{same_s}
use Rattle.machine.specs.Cells.{state_of}
use Rattle.machine.proofs.CellLaws.{sets_take}
use Rattle.machine.proofs.States.{same_s_is, same_s_refl}
use Rattle.machine.proofs.Tidying.{tidy_sets_same}
use Rattle.trails.specs.declared.telling.Telling.{Telling}
use Rattle.trails.specs.Trails.{telling_of}
use Rattle.tables.specs.declared.slot.Extreme.TheVariants.{Longest, Shortest}
use Rattle.tables.specs.Best.{Val, Both, Table, told}
use Rattle.tables.specs.Each.{Each, no_more, also, At, here, there}
use Rattle.tables.specs.Showing.{cells, width, Shown, Shows, Retold, better_of}
use Rattle.tables.specs.Slots.{chunks, chunk, over, Absent, Found}
use Rattle.tables.specs.Tables.{Entry, join, gather}
use Rattle.tables.proofs.Applying.{Rest, part, put_part, part_chunk, put_part_over, part_long}
use Rattle.tables.proofs.Chunks.{fits_below, up_to, length_chunk, length_chunks, chunk_at, chunks_over, chunks_set, drop_beyond}
use Rattle.tables.proofs.Eaches.{take_at_more, each_append, each_at, each_back, each_length, each_set}
use Rattle.tables.proofs.Matching.{shown_improved}
use Rattle.tables.proofs.Overs.{front_telling}

same_s_no : (x y : St) → (x ≡ y → ⊥) → same_s x y ≡ false
same_s_no x y h = ⊎_elim (λ e. absurd (h (same_s_is x y e))) (λ e. e) (cases_Bool (same_s x y))

-- none of the first k entries has the state
abbrev Other : ℕ → St → Table → Type 0
Other k t T = (i : ℕ) (f : Entry (Both Val)) → i < k → At f i T → f.st ≡ t → ⊥

other_first : (k : ℕ) (t : St) (f : Entry (Both Val)) (T : Table) → Other (suc k) t (f ∷ T) → same_s f.st t ≡ false
other_first k t f T h = same_s_no f.st t (h 0 f (omega arith) here)

other_rest : (k : ℕ) (t : St) (f : Entry (Both Val)) (T : Table) → Other (suc k) t (f ∷ T) → Other k t T
other_rest k t f T h i g l a = h (suc i) g (omega arith) (there a)

-- an entry of the same state is replaced, the first such one
join_set : (best : Both Val → Both Val → Both Val) (k : ℕ) (T : Table) (e f : Entry (Both Val)) → At f k T → Other k e.st T → f.st ≡ e.st → join best T e ≡ set T k (record { st = f.st; val = best f.val e.val })
join_set best k [] e f a h is = elim a [ ]
join_set best zero (g ∷ T) e f here h is = let t : same_s f.st e.st ≡ true = rw is (same_s_refl e.st) in rw t
join_set best (suc k) (g ∷ T) e f (there a) h is = rw (other_first k e.st g T h) (ap (λ U. g ∷ U) (join_set best k T e f a (other_rest k e.st g T h) is))

-- or it goes to the end
join_end : (best : Both Val → Both Val → Both Val) (T : Table) (e : Entry (Both Val)) → Other (length T) e.st T → join best T e ≡ T ++ (e ∷ [])
join_end best [] e h = refl
join_end best (g ∷ T) e h = rw (other_first (length T) e.st g T h) (ap (λ U. g ∷ U) (join_end best T e (other_rest (length T) e.st g T h)))

-- slots j and i of some words
module _ (c : Cache) (xs : List ℕ) (i j : ℕ) (h : width c * i + width c ≤ length xs) (l : width c * j + width c ≤ length xs) where
  cells_long : length (take (cells c) (drop (width c * i) xs)) ≡ cells c
  cells_long = let d = length-drop (width c * i) xs in length-take-le (cells c) (drop (width c * i) xs) (omega arith)

  front : (k : ℕ) → take (cells c) (chunk (width c) k xs) ≡ take (cells c) (drop (width c * k) xs)
  front k = take-take (cells c) (width c) (drop (width c * k) xs) (omega arith)

  -- equal states are equal cells
  module _ (a : Both ℕ) (s : List ℕ) (e f : Entry (Both Val)) (m : Shown c a s (chunk (width c) i xs) e) (n : Shown c a s (chunk (width c) j xs) f) where
    same_cells : f.st ≡ e.st → take (length (take (cells c) (drop (width c * i) xs))) (drop (width c * j) xs) ≡ take (cells c) (drop (width c * i) xs)
    same_cells is =
        let p = length_chunk (width c) i xs h in
        let q = length_chunk (width c) j xs l in
        rw cells_long (sym (front j) ∙ tidy_sets_same c.sets c.ways (chunk (width c) j xs) (chunk (width c) i xs) (omega arith) (omega arith) n.tidy m.tidy (n.state ∙ is ∙ sym m.state) ∙ front i)

    same_state : take (length (take (cells c) (drop (width c * i) xs))) (drop (width c * j) xs) ≡ take (cells c) (drop (width c * i) xs) → f.st ≡ e.st
    same_state is =
        let p = length_chunk (width c) i xs h in
        let q = length_chunk (width c) j xs l in
        let t : take (cells c) (chunk (width c) j xs) ≡ take (cells c) (chunk (width c) i xs) = front j ∙ rw cells_long at is ∙ sym (front i) in
        sym n.state ∙ sym (sets_take c.sets c.ways (cells c) (chunk (width c) j xs) (omega arith) (omega arith)) ∙ ap (state_of c) t ∙ sets_take c.sets c.ways (cells c) (chunk (width c) i xs) (omega arith) (omega arith) ∙ m.state

-- the i-th slot, which stands behind the first m, is joined to them
module _ (c : Cache) (xs : List ℕ) (m i : ℕ) (order : m ≤ i) (fits : width c * i + width c ≤ length xs) where
  below : (k : ℕ) → k < m → width c * k + width c ≤ length xs
  below k l = fits_below refl order fits l

  all_fit : width c * m ≤ length xs
  all_fit = let u = up_to (width c) m i order in omega arith

  other : (a : Both ℕ) (s : List ℕ) (T : Table) (e : Entry (Both Val)) (k : ℕ) → k ≤ m → Absent xs (width c) k (take (cells c) (drop (width c * i) xs)) → Shows c a s m xs T → Shown c a s (chunk (width c) i xs) e → Other k e.st T
  other a s T e k le gone r n j f l at is = gone j l (same_cells c xs i j fits (below j (omega arith)) a s e f n (each_back r (chunk_at (width c) j m xs (omega arith)) at) is)

  pub joined_behind : (ys : List ℕ) → ys ≡ over xs (width c * m) (chunk (width c) i xs) → Absent xs (width c) m (take (cells c) (drop (width c * i) xs)) → (a : Both ℕ) (s : List ℕ) (T : Table) (e : Entry (Both Val)) → Shows c a s m xs T → Shown c a s (chunk (width c) i xs) e → Shows c a s (m + 1) ys (join told.best T e)
  joined_behind ys is gone a s T e r n =
      let u = up_to (width c) m i order in
      let l = each_length r in
      let k = length_chunks (width c) m xs in
      let o : Other (length T) e.st T = subst (λ t. Other t e.st T) (sym k ∙ l) (other a s T e m (omega arith) gone r n) in
      let x : chunks (width c) (m + 1) ys ≡ chunks (width c) m xs ++ (chunk (width c) i xs ∷ []) = ap (chunks (width c) (m + 1)) is ∙ chunks_over (width c) xs (chunk (width c) i xs) m (length_chunk (width c) i xs fits) (omega arith) 0 in
      subst₂ (Each (Shown c a s)) (sym x) (sym (join_end told.best T e o)) (each_append r (also n no_more))

  pub behind_rest : (ys : List ℕ) → ys ≡ over xs (width c * m) (chunk (width c) i xs) → drop (width c * i + width c) ys ≡ drop (width c * i + width c) xs
  behind_rest ys is =
      let u = up_to (width c) m i order in
      let l = length_chunk (width c) i xs fits in
      ap (drop (width c * i + width c)) is ∙ drop_beyond xs (chunk (width c) i xs) (width c * m) (width c * i + width c) (omega arith) (omega arith)

  -- the tellings of the i-th slot, from all the words
  telling_in : (v : ℕ) → v + 7 ≤ width c → telling_of (drop (width c * i + v) xs) ≡ telling_of (drop v (chunk (width c) i xs))
  telling_in v le = ap telling_of (sym (drop-drop v (width c * i) xs)) ∙ sym (front_telling v (width c) (drop (width c * i) xs) (chunk (width c) i xs) le (take-take (width c) (width c) (drop (width c * i) xs) (omega arith)))

  -- by a width w and cells v that the code computes
  module _ (k w v : ℕ) (new : List ℕ) (t u : Telling) (wide : w ≡ width c) (is : v ≡ cells c) (found : Found xs (width c) m (take (cells c) (drop (width c * i) xs)) k) (long : length new ≡ length (part w k xs)) where
    abbrev less : k < m
    less = found.within

    new_slot : t ≡ telling_of (drop (w * i + v) xs) → u ≡ telling_of (drop (w * i + v + 7) xs) → Retold v (part w k xs) new (better_of Longest (telling_of (drop v (part w k xs))) t) (better_of Shortest (telling_of (drop (v + 7) (part w k xs))) u)
        → Retold (cells c) (chunk (width c) k xs) new (better_of Longest (telling_of (drop (cells c) (chunk (width c) k xs))) (telling_of (drop (cells c) (chunk (width c) i xs)))) (better_of Shortest (telling_of (drop (cells c + 7) (chunk (width c) k xs))) (telling_of (drop (cells c + 7) (chunk (width c) i xs))))
    new_slot p q r =
        let x : t ≡ telling_of (drop (cells c) (chunk (width c) i xs)) = p ∙ rw (wide, is) (telling_in (cells c) (omega arith)) in
        let y : u ≡ telling_of (drop (cells c + 7) (chunk (width c) i xs)) = q ∙ rw (wide, is, add_assoc) (telling_in (cells c + 7) (omega arith)) in
        let z : Retold (cells c) (chunk (width c) k xs) new (better_of Longest (telling_of (drop (cells c) (chunk (width c) k xs))) t) (better_of Shortest (telling_of (drop (cells c + 7) (chunk (width c) k xs))) u) = subst₂ (λ j ws. Retold j ws new (better_of Longest (telling_of (drop j ws)) t) (better_of Shortest (telling_of (drop (j + 7) ws)) u)) is (part_chunk c m k w xs wide less all_fit) r in
        subst₂ (λ a b. Retold (cells c) (chunk (width c) k xs) new (better_of Longest (telling_of (drop (cells c) (chunk (width c) k xs))) a) (better_of Shortest (telling_of (drop (cells c + 7) (chunk (width c) k xs))) b)) x y z

    pub joined_at : t ≡ telling_of (drop (w * i + v) xs) → u ≡ telling_of (drop (w * i + v + 7) xs) → Retold v (part w k xs) new (better_of Longest (telling_of (drop v (part w k xs))) t) (better_of Shortest (telling_of (drop (v + 7) (part w k xs))) u) → (a : Both ℕ) (s : List ℕ) (T : Table) (e : Entry (Both Val)) → Shows c a s m xs T → Shown c a s (chunk (width c) i xs) e → Shows c a s m (put_part w k xs new) (join told.best T e)
    joined_at p q r a s T e x n =
        let g = length_chunk (width c) k xs (below k less) in
        let l : length new ≡ length (chunk (width c) k xs) = long ∙ ap length (part_chunk c m k w xs wide less all_fit) in
        let f = each_at x (chunk_at (width c) k m xs less) in
        let y = same_state c xs i k fits (below k less) a s e f.y n f.rel found.here in
        let z = shown_improved c a s (chunk (width c) k xs) new (chunk (width c) i xs) f.y e (omega arith) l (new_slot p q r) f.rel n in
        let o = put_part_over c m k w xs wide less all_fit new long in
        let d = ap (chunks (width c) m) o ∙ chunks_set (width c) xs new k (l ∙ g) (below k less) m less in
        subst₂ (Each (Shown c a s)) (sym d) (sym (join_set told.best k T e f.y f.at (other a s T e k (omega arith) found.before x n) y)) (each_set new _ k z x)

    pub at_rest : drop (width c * i + width c) (put_part w k xs new) ≡ drop (width c * i + width c) xs
    at_rest =
        let b = up_to (width c) k i (omega arith) in
        let l = long ∙ part_long c m k w xs wide less all_fit in
        ap (drop (width c * i + width c)) (put_part_over c m k w xs wide less all_fit new long) ∙ drop_beyond xs new (width c * k) (width c * i + width c) (omega arith) (omega arith)

-- one entry more is gathered
gather_push : (best : Both Val → Both Val → Both Val) (U T : Table) (e : Entry (Both Val)) → gather best T (U ++ (e ∷ [])) ≡ join best (gather best T U) e
gather_push best [] T e = refl
gather_push best (f ∷ U) T e = gather_push best U (join best T f) e

-- k slots from one on are gathered into the first m, of which there are then all
pub record Gathered (c : Cache) (m from count k all : ℕ) (xs ys : List ℕ) : Type 0 where
  pub few : all ≤ m + k
  pub rest : Rest (width c) (from + k) xs ys
  pub shows : (a : Both ℕ) (s : List ℕ) (T U : Table) → Shows c a s m xs T → Shows c a s count (drop (width c * from) xs) U → Shows c a s all ys (gather told.best T (take k U))

chunk_of : (w from k : ℕ) (xs ys : List ℕ) → Rest w (from + k) xs ys → chunk w k (drop (w * from) xs) ≡ chunk w (from + k) ys
chunk_of w from k xs ys e = let q = mul-add w from k in ap (take w) (drop-drop (w * k) (w * from) xs ∙ rw (← q) (sym e))

pub gathered_more : {c : Cache} {m from count k all last : ℕ} {xs ys zs : List ℕ} → k < count → last ≤ all + 1 → drop (width c * (from + k) + width c) zs ≡ drop (width c * (from + k) + width c) ys → ((a : Both ℕ) (s : List ℕ) (T : Table) (e : Entry (Both Val)) → Shows c a s all ys T → Shown c a s (chunk (width c) (from + k) ys) e → Shows c a s last zs (join told.best T e)) → Gathered c m from count k all xs ys → Gathered c m from count (k + 1) last xs zs
gathered_more {c = c} {from = from} {count = count} {k = k} {last = last} {xs = xs} {ys = ys} {zs = zs} less le r h p =
    let f = p.few in
    let q : width c * (from + (k + 1)) ≡ width c * (from + k) + width c = omega (arith, mul-suc (width c) (from + k), add-one k) in
    record {
      few = omega arith;
      rest = rw q (r ∙ sym (drop-drop (width c) (width c * (from + k)) ys) ∙ ap (drop (width c)) p.rest ∙ drop-drop (width c) (width c * (from + k)) xs);
      shows = λ a s T U x y.
          let u = each_at y (chunk_at (width c) k count (drop (width c * from) xs) less) in
          let g : gather told.best T (take (k + 1) U) ≡ join told.best (gather told.best T (take k U)) u.y = rw (add-one, take_at_more u.at) (gather_push told.best (take k U) T u.y) in
          subst (Shows c a s last zs) (sym g) (h a s (gather told.best T (take k U)) u.y (p.shows a s T U x y) (subst (λ ws. Shown c a s ws u.y) (chunk_of (width c) from k xs ys p.rest) u.rel));
    }

pub gathered_all : {c : Cache} {m from count k all : ℕ} {xs ys : List ℕ} → count ≤ k → Gathered c m from count k all xs ys → (a : Both ℕ) (s : List ℕ) (T U : Table) → Shows c a s m xs T → Shows c a s count (drop (width c * from) xs) U → Shows c a s all ys (gather told.best T U)
gathered_all {c = c} {from = from} {count = count} {k = k} {all = all} {xs = xs} {ys = ys} h p a s T U x y =
    let l = each_length y in
    let n = length_chunks (width c) count (drop (width c * from) xs) in
    subst (λ V. Shows c a s all ys (gather told.best T V)) (take_all k U (omega arith)) (p.shows a s T U x y)
