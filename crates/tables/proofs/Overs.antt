-- Words written over others, and tellings among them.
use Rattle.std.proofs.Common.{◌≡◌, ℕ, ◌+◌, ◌*◌, ◌/◌, ◌%◌, ◌<◌, ◌≤◌, List, [], ◌∷◌, ◌++◌, length, get_or, take, drop, set, sym, ap, ◌∙◌, append_assoc, add-one, arith}
use borrow.Rule.Slice.PartMut.{put_mid}
use Rattle.std.proofs.lemmas.List.Edits.{sets-eq}
use Rattle.std.proofs.lemmas.List.{drop-drop, drop_at, take_at, length-take-le, drop_more, take-take, get_or-drop, get_or-take}
use Rattle.trails.specs.declared.telling.Telling.{Telling}
use Rattle.trails.specs.Trails.{telling_of, telling_words}
use Rattle.trails.proofs.Words.{telling_words_of}
use Rattle.tables.specs.Showing.{later, Put, Retold}
use Rattle.tables.specs.Slots.{over}
use Rattle.tables.proofs.Chunks.{drop_beyond}

pub over_take : (xs us : List ℕ) (a : ℕ) → a ≤ length xs → take a (over xs a us) ≡ take a xs
over_take xs us a h = take_at (take a xs) _ a (length-take-le a xs h)

pub over_at : (xs us : List ℕ) (a : ℕ) → a ≤ length xs → drop a (over xs a us) ≡ us ++ drop (a + length us) xs
over_at xs us a h = drop_at (take a xs) _ a (length-take-le a xs h)

pub pair_over : (xs : List ℕ) (a x y : ℕ) → a + 2 ≤ length xs → set (set xs a x) (a + 1) y ≡ over xs a (x ∷ (y ∷ []))
pair_over xs a x y h = rw add-one (sets-eq (x ∷ (y ∷ [])) xs a h ∙ append_assoc (take a xs) (x ∷ (y ∷ [])) (drop (a + 2) xs))

two_words : (xs : List ℕ) (a : ℕ) → a + 2 ≤ length xs → drop a xs ≡ get_or xs a 0 ∷ (get_or xs (a + 1) 0 ∷ drop (a + 2) xs)
two_words xs a h =
    let e : a + 1 + 1 ≡ a + 2 = omega arith in
    drop_more xs a 0 (omega arith) ∙ ap (λ t. get_or xs a 0 ∷ t) (drop_more xs (a + 1) 0 (omega arith) ∙ rw e)

-- cycles added to the time, which is the first two words
module _ (xs : List ℕ) (a n : ℕ) (h : a + 7 ≤ length xs) where
  abbrev time : ℕ
  time = get_or xs a 0 + 4294967296 * get_or xs (a + 1) 0 + n

  abbrev halves : List ℕ
  halves = time % 4294967296 ∷ (time / 4294967296 ∷ [])

  new_is : set (set xs a (time % 4294967296)) (a + 1) (time / 4294967296) ≡ over xs a halves
  new_is = pair_over xs a (time % 4294967296) (time / 4294967296) (omega arith)

  pub added : Put a xs (set (set xs a (time % 4294967296)) (a + 1) (time / 4294967296)) (later n (telling_of (drop a xs)))
  added =
      let e : drop a (over xs a halves) ≡ time % 4294967296 ∷ (time / 4294967296 ∷ drop (a + 2) xs) = over_at xs halves a (omega arith) in
      let d : time % 4294967296 + 4294967296 * (time / 4294967296) ≡ time = omega arith in
      record {
        before = ap (take a) new_is ∙ over_take xs halves a (omega arith);
        telling = ap (λ t. telling_of (drop a t)) new_is ∙ rw (e, two_words xs a (omega arith), d);
        behind = ap (drop (a + 7)) new_is ∙ drop_beyond xs halves a (a + 7) (omega arith) (omega arith);
      }

-- a telling written where another stood
pub put : (xs us : List ℕ) (a m : ℕ) (t : Telling) → a + 7 ≤ length xs → m ≡ 7 → us ≡ telling_words t → Put a xs (put_mid a m xs us) t
put xs us a m t h wide is =
    let e : put_mid a m xs us ≡ over xs a (telling_words t) = rw (wide, is, drop-drop) in
    record {
      before = ap (take a) e ∙ over_take xs (telling_words t) a (omega arith);
      telling = ap (λ z. telling_of (drop a z)) e ∙ rw (over_at xs (telling_words t) a (omega arith)) (telling_words_of t (drop (a + 7) xs));
      behind = ap (drop (a + 7)) e ∙ drop_beyond xs (telling_words t) a (a + 7) (omega arith) (omega arith);
    }

-- a telling is its first seven words
pub front_telling : (w m : ℕ) (xs ys : List ℕ) → w + 7 ≤ m → take m ys ≡ take m xs → telling_of (drop w ys) ≡ telling_of (drop w xs)
front_telling w m xs ys h d = rw (word 0 (omega arith), word 1 (omega arith), word 2 (omega arith), word 3 (omega arith), word 4 (omega arith), word 5 (omega arith), word 6 (omega arith))
  where
    word : (i : ℕ) → i < 7 → get_or (drop w ys) i 0 ≡ get_or (drop w xs) i 0
    word i l = get_or-drop w ys i 0 ∙ sym (get_or-take m ys (w + i) 0 (omega arith)) ∙ ap (λ t. get_or t (w + i) 0) d ∙ get_or-take m xs (w + i) 0 (omega arith) ∙ sym (get_or-drop w xs i 0)

-- both tellings of a slot changed, one after the other
pub retold : (w : ℕ) (ws xs ys : List ℕ) (t u : Telling) → Put w ws xs t → Put (w + 7) xs ys u → Retold w ws ys t u
retold w ws xs ys t u p q =
    record {
      same = sym (take-take w (w + 7) ys (omega arith)) ∙ ap (take w) q.before ∙ take-take w (w + 7) xs (omega arith) ∙ p.before;
      longest = front_telling w (w + 7) xs ys (omega arith) q.before ∙ p.telling;
      shortest = q.telling;
    }
