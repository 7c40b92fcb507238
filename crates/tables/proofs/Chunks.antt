-- Slots of lent words: the k-th, the first ones, and one that is written.
use Rattle.std.proofs.Common.{◌≡◌, ℕ, zero, suc, ◌+◌, ◌-◌, ◌*◌, ◌<◌, ◌≤◌, List, [], ◌∷◌, ◌++◌, length, get_or, take, drop, set, sym, refl, ap, ◌∙◌, subst, append_assoc, suc-add, mul-le-mul_left, zero-add, mul-suc, arith, length-append, length-drop, length-take}
use borrow.Rule.Slice.PartMut.{put_mid}
use Rattle.std.proofs.lemmas.List.{drop-drop, take-append-drop, length-take-le, drop_at, take_at, take-append-le, drop-append-le, take-take, take_more_same, get_or-take, get_or-drop, set_at, drop-take}
use Rattle.tables.specs.Slots.{chunks, chunk, over}
use Rattle.tables.specs.Each.{At, here, there}

-- the k-th of n slots lies within the words
pub within : (s k n len : ℕ) → k < n → s * n ≤ len → s * k + s ≤ len
within s k n len h l =
    let e = mul-suc s k in
    let m : s * suc k ≤ s * n = mul-le-mul_left s (let q : suc k ≤ n = omega arith in q) in
    omega arith

pub up_to : (s m i : ℕ) → m ≤ i → s * m ≤ s * i
up_to s m i h = mul-le-mul_left s h

-- the same with a width w that the code computes
pub fits_to : {w s m i len : ℕ} → w ≡ s → m ≤ i → s * i + s ≤ len → w * m + w ≤ len
fits_to {s = s} {m = m} {i = i} e h l = let u = up_to s m i h in rw e (omega arith)

pub fits_below : {w s m i k len : ℕ} → w ≡ s → m ≤ i → s * i + s ≤ len → k < m → w * k + w ≤ len
fits_below e h l less = fits_to e (omega arith) l

pub length_chunk : (s k : ℕ) (xs : List ℕ) → s * k + s ≤ length xs → length (chunk s k xs) ≡ s
length_chunk s k xs h = simp (length-take, length-drop) (omega arith)

pub length_chunks : (s n : ℕ) (xs : List ℕ) → length (chunks s n xs) ≡ n
length_chunks s zero xs = refl
length_chunks s (suc n) xs = ap suc (length_chunks s n (drop s xs))

pub chunks_split : (s m n : ℕ) (xs : List ℕ) → chunks s (m + n) xs ≡ chunks s m xs ++ chunks s n (drop (s * m) xs)
chunks_split s zero n xs = rw zero-add (let z : s * 0 ≡ 0 = omega arith in rw z)
chunks_split s (suc m) n xs =
    let q = mul-suc s m in
    let e : s * suc m ≡ s + s * m = omega arith in
    rw (suc-add, e, ← drop-drop) (ap (λ t. take s xs ∷ t) (chunks_split s m n (drop s xs)))

pub chunks_front : (s n : ℕ) (xs ys : List ℕ) → s * n ≤ length xs → chunks s n (xs ++ ys) ≡ chunks s n xs
chunks_front s zero xs ys h = refl
chunks_front s (suc n) xs ys h =
    let q = mul-suc s n in
    let a : take s (xs ++ ys) ≡ take s xs = take-append-le s xs ys (omega arith) in
    let b : drop s (xs ++ ys) ≡ drop s xs ++ ys = drop-append-le s xs ys (omega arith) in
    let l = length-drop s xs in
    rw (a, b) (ap (λ t. take s xs ∷ t) (chunks_front s n (drop s xs) ys (omega arith)))

pub chunks_take : (s n k : ℕ) (xs : List ℕ) → s * n ≤ k → k ≤ length xs → chunks s n (take k xs) ≡ chunks s n xs
chunks_take s n k xs h l =
    let e : length (take k xs) ≡ k = length-take-le k xs l in
    sym (chunks_front s n (take k xs) (drop k xs) (omega arith)) ∙ ap (chunks s n) (take-append-drop k xs)

-- words with the same front have the same slots there
pub chunks_same : (s n : ℕ) (xs ys : List ℕ) → s * n ≤ length xs → s * n ≤ length ys → take (s * n) xs ≡ take (s * n) ys → chunks s n xs ≡ chunks s n ys
chunks_same s n xs ys h l e =
    sym (chunks_take s n (s * n) xs (omega arith) h) ∙ ap (chunks s n) e ∙ chunks_take s n (s * n) ys (omega arith) l

pub chunks_at : (s k r : ℕ) (xs : List ℕ) → chunks s (k + suc r) xs ≡ chunks s k xs ++ (chunk s k xs ∷ chunks s r (drop (s * k + s) xs))
chunks_at s k r xs = chunks_split s k (suc r) xs ∙ rw drop-drop

at_behind : {A : Type 0} (xs : List A) (y : A) (ys : List A) → At y (length xs) (xs ++ (y ∷ ys))
at_behind [] y ys = here
at_behind (x ∷ xs) y ys = there (at_behind xs y ys)

pub chunk_at : (s k n : ℕ) (xs : List ℕ) → k < n → At (chunk s k xs) k (chunks s n xs)
chunk_at s k n xs h =
    let e : n ≡ k + suc (n - k - 1) = omega arith in
    let l = length_chunks s k xs in
    subst (λ t. At (chunk s k xs) k t) (sym (ap (λ m. chunks s m xs) e ∙ chunks_at s k (n - k - 1) xs)) (subst (λ m. At (chunk s k xs) m (chunks s k xs ++ (chunk s k xs ∷ chunks s (n - k - 1) (drop (s * k + s) xs)))) l (at_behind (chunks s k xs) (chunk s k xs) _))

-- a slot written over the k-th
module _ (s : ℕ) (xs new : List ℕ) (k : ℕ) (long : length new ≡ s) (h : s * k + s ≤ length xs) where
  drop_over : drop (s * k) (over xs (s * k) new) ≡ new ++ drop (s * k + s) xs
  drop_over = rw long (drop_at (take (s * k) xs) _ (s * k) (length-take-le (s * k) xs (omega arith)))

  pub chunks_over : (r : ℕ) → chunks s (k + suc r) (over xs (s * k) new) ≡ chunks s k xs ++ (new ∷ chunks s r (drop (s * k + s) xs))
  chunks_over r =
      let l : length (take (s * k) xs) ≡ s * k = length-take-le (s * k) xs (omega arith) in
      let f : chunks s k (over xs (s * k) new) ≡ chunks s k xs = chunks_front s k (take (s * k) xs) _ (omega arith) ∙ chunks_take s k (s * k) xs (omega arith) (omega arith) in
      let a : take s (new ++ drop (s * k + s) xs) ≡ new = take_at new _ s long in
      let b : drop s (new ++ drop (s * k + s) xs) ≡ drop (s * k + s) xs = drop_at new _ s long in
      chunks_split s k (suc r) (over xs (s * k) new) ∙ rw (f, drop_over, a, b)

  pub chunks_set : (n : ℕ) → k < n → chunks s n (over xs (s * k) new) ≡ set (chunks s n xs) k new
  chunks_set n l =
      let e : n ≡ k + suc (n - k - 1) = omega arith in
      rw (e, chunks_over, chunks_at) (sym (set_at (chunks s k xs) _ _ new k (length_chunks s k xs)))

  -- as a part of the words that was lent on
  pub put_over : (m : ℕ) → m ≡ s → put_mid (s * k) m xs new ≡ over xs (s * k) new
  put_over m e = rw (e, long, drop-drop)

-- words that two places begin with
module _ (xs : List ℕ) (a b w : ℕ) (h : b + w ≤ length xs) where
  front_long : length (take w (drop b xs)) ≡ w
  front_long = simp (length-take, length-drop) (omega arith)

  pub begins : (j : ℕ) → j ≡ w → take j (drop a xs) ≡ take j (drop b xs) → take (length (take w (drop b xs))) (drop a xs) ≡ take w (drop b xs)
  begins j e s = rw front_long (rw e at s)

  pub begins_not : (j : ℕ) → j < w → (get_or xs (a + j) 0 ≡ get_or xs (b + j) 0 → ⊥) → take (length (take w (drop b xs))) (drop a xs) ≡ take w (drop b xs) → ⊥
  begins_not j l ne s =
      let t : take w (drop a xs) ≡ take w (drop b xs) = rw front_long at s in
      ne (sym (get_or-drop a xs j 0) ∙ sym (get_or-take w (drop a xs) j 0 l) ∙ ap (λ z. get_or z j 0) t ∙ get_or-take w (drop b xs) j 0 l ∙ get_or-drop b xs j 0)

  -- one word more
  pub begins_more : (j : ℕ) → j < w → a ≤ b → take j (drop a xs) ≡ take j (drop b xs) → get_or xs (a + j) 0 ≡ get_or xs (b + j) 0 → take (j + 1) (drop a xs) ≡ take (j + 1) (drop b xs)
  begins_more j l le s e =
      let m = length-drop a xs in
      let n = length-drop b xs in
      take_more_same (drop a xs) (drop b xs) j 0 (omega arith) (omega arith) s (get_or-drop a xs j 0 ∙ e ∙ sym (get_or-drop b xs j 0))

-- words that are rotated, and what lies behind them
pub turned : (xs part last : List ℕ) (a b : ℕ) → part ≡ take (a + b) xs → last ≡ drop a part ++ take a part → last ++ drop (a + b) xs ≡ take b (drop a xs) ++ (take a xs ++ drop (a + b) xs)
turned xs part last a b p l =
    let e : last ≡ take b (drop a xs) ++ take a xs = l ∙ rw (p, drop-take) (ap (λ s. take b (drop a xs) ++ s) (take-take a (a + b) xs (omega arith))) in
    rw (e, append_assoc)

-- beyond words that are written
pub drop_beyond : (xs new : List ℕ) (a n : ℕ) → a + length new ≤ n → a + length new ≤ length xs → drop n (over xs a new) ≡ drop n xs
drop_beyond xs new a n h l =
    let q : length (take a xs ++ new) ≡ a + length new = simp (length-append, length-take) (omega arith) in
    let j : n ≡ (a + length new) + (n - (a + length new)) = omega arith in
    let d : drop (a + length new) (over xs a new) ≡ drop (a + length new) xs = rw (← append_assoc) (drop_at (take a xs ++ new) (drop (a + length new) xs) (a + length new) q) in
    rw j (sym (drop-drop (n - (a + length new)) (a + length new) (over xs a new)) ∙ ap (drop (n - (a + length new))) d ∙ drop-drop (n - (a + length new)) (a + length new) xs)
