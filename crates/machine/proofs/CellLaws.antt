-- The cells of a cache, set by set.
use Rattle.std.proofs.Common.{◌≡◌, ℕ, zero, suc, ◌+◌, ◌-◌, ◌*◌, ◌<◌, ◌≤◌, Bool, true, false, List, [], ◌∷◌, ◌++◌, length, take, drop, replicate, inl, inr, sym, refl, ap, ◌∙◌, mul-le-mul_right, suc-mul, suc-add, zero-add, zero-mul, arith}
use mathlib.Core.Option.{some}
use borrow.Rule.Slice.PartMut.{put_mid}
use Rattle.std.proofs.lemmas.List.{drop-drop, drop_at, take_at, length-take-le, take_all, length-drop, take-append-le, drop-append-le, take-append-drop, drop-replicate, append_assoc}
use Rattle.std.proofs.lemmas.Bool.{cases_Bool}
use Rattle.std.proofs.lemmas.Slice.{drop-put_mid}
use Rattle.cycles.specs.Code.{pick, opt, nth, put, without, among, St, Cache, empty, after, cost, line_of, set_of, lines_at}
use Rattle.machine.specs.Cells.{lines_of, sets_of, state_of, touched_set, is_hit, outcome_in, outcome_of}
use Rattle.machine.specs.declared.cache.Outcome.{Outcome}
use Rattle.machine.proofs.WayLaws.{lines_clear}

pub length_sets : (n w : ℕ) (xs : List ℕ) → length (sets_of n w xs) ≡ n
unfolding sets_of
length_sets zero w xs = refl
length_sets (suc n) w xs = ap suc (length_sets n w (drop w xs))

-- the first sets, and those behind them
pub sets_split : (m n w : ℕ) (xs : List ℕ) → sets_of (m + n) w xs ≡ sets_of m w xs ++ sets_of n w (drop (m * w) xs)
unfolding sets_of
sets_split zero n w xs = rw (zero-add, zero-mul)
sets_split (suc m) n w xs =
    let e : suc m * w ≡ w + m * w = omega (arith, suc-mul m w) in
    rw (suc-add, e, ← drop-drop) (ap (λ t. lines_of (take w xs) ∷ t) (sets_split m n w (drop w xs)))

-- words behind the cells do not matter
pub sets_front : (n w : ℕ) (xs ys : List ℕ) → n * w ≤ length xs → sets_of n w (xs ++ ys) ≡ sets_of n w xs
unfolding sets_of
sets_front zero w xs ys h = refl
sets_front (suc n) w xs ys h =
    let q = suc-mul n w in
    let a : take w (xs ++ ys) ≡ take w xs = take-append-le w xs ys (omega arith) in
    let b : drop w (xs ++ ys) ≡ drop w xs ++ ys = drop-append-le w xs ys (omega arith) in
    let l = length-drop w xs in
    rw (a, b) (ap (λ t. lines_of (take w xs) ∷ t) (sets_front n w (drop w xs) ys (omega arith)))

pub sets_take : (n w k : ℕ) (xs : List ℕ) → n * w ≤ k → k ≤ length xs → sets_of n w (take k xs) ≡ sets_of n w xs
sets_take n w k xs h l =
    let e : length (take k xs) ≡ k = length-take-le k xs l in
    sym (sets_front n w (take k xs) (drop k xs) (omega arith)) ∙ ap (sets_of n w) (take-append-drop k xs)

-- cells that are all 0 are the empty cache
pub sets_clear : (n w m : ℕ) → sets_of n w (replicate m 0) ≡ replicate n []
unfolding sets_of
sets_clear zero w m = refl
sets_clear (suc n) w m = rw (lines_clear w m, drop-replicate {X = ℕ} w m 0) (ap (λ t. [] ∷ t) (sets_clear n w (m - w)))

pub state_clear : (c : Cache) (m : ℕ) → state_of c (replicate m 0) ≡ empty c
state_clear c m = sets_clear c.sets c.ways m

-- one set
pub nth_sets : (n w k : ℕ) (xs : List ℕ) → k < n → nth (sets_of n w xs) k ≡ some (lines_of (take w (drop (k * w) xs)))
unfolding sets_of
nth_sets zero w k xs h = absurd (omega arith)
nth_sets (suc n) w zero xs h = rw zero-mul
nth_sets (suc n) w (suc k) xs h =
    let e : suc k * w ≡ w + k * w = omega (arith, suc-mul k w) in
    rw (e, ← drop-drop) (nth_sets n w k (drop w xs) (omega arith))

-- the k-th set lies within the cells
pub within : (n w k : ℕ) → k < n → k * w + w ≤ n * w
within n w k h =
    let m : suc k * w ≤ n * w = mul-le-mul_right w (let q : suc k ≤ n = omega arith in q) in
    omega (arith, suc-mul k w)

pub take_plus : (w m : ℕ) (xs : List ℕ) → take (w + m) xs ≡ take w xs ++ take m (drop w xs)
take_plus zero m xs = rw zero-add
take_plus (suc w) m [] = rw suc-add (sym (take_all m [] (omega arith)))
take_plus (suc w) m (x ∷ xs) = rw suc-add (ap (λ t. x ∷ t) (take_plus w m xs))

-- a part behind the first w words, put in place
pub behind_first : (w m : ℕ) (xs ys : List ℕ) → put_mid (w + m) w xs ys ≡ take w xs ++ put_mid m w (drop w xs) ys
behind_first w m xs ys =
    let t : take (w + m) xs ≡ take w xs ++ take m (drop w xs) = take_plus w m xs in
    rw (t, ← drop-drop m w xs, append_assoc)

-- one set's part replaced
pub sets_put : (n w k : ℕ) (xs ys : List ℕ) → k < n → n * w ≤ length xs → length ys ≡ w → sets_of n w (put_mid (k * w) w xs ys) ≡ put (sets_of n w xs) k (lines_of ys)
unfolding sets_of
sets_put zero w k xs ys h l e = absurd (omega arith)
sets_put (suc n) w zero xs ys h l e = rw (zero-mul, take_at ys (drop w xs) w e, drop_at ys (drop w xs) w e)
sets_put (suc n) w (suc k) xs ys h l e =
    let q = suc-mul n w in
    let i : suc k * w ≡ w + k * w = omega (arith, suc-mul k w) in
    let b = within n w k (omega arith) in
    let d = length-drop w xs in
    let f : length (take w xs) ≡ w = length-take-le w xs (omega arith) in
    rw (i, behind_first w (k * w) xs ys, take_at (take w xs) (put_mid (k * w) w (drop w xs) ys) w f, drop_at (take w xs) (put_mid (k * w) w (drop w xs) ys) w f) (ap (λ t. lines_of (take w xs) ∷ t) (sets_put n w k (drop w xs) ys (omega arith) (omega arith) e))

-- one set put in place, and each other as it was
pub nth_put : (s : St) (k : ℕ) (ls : List ℕ) → k < length s → nth (put s k ls) k ≡ some ls
nth_put [] k ls h = absurd (omega arith)
nth_put (l ∷ s) zero ls h = refl
nth_put (l ∷ s) (suc k) ls h = nth_put s k ls (omega arith)

pub nth_other : (s : St) (k j : ℕ) (ls : List ℕ) → (j ≡ k → ⊥) → nth (put s k ls) j ≡ nth s j
nth_other [] k j ls h = refl
nth_other (l ∷ s) zero zero ls h = absurd (h refl)
nth_other (l ∷ s) zero (suc j) ls h = refl
nth_other (l ∷ s) (suc k) zero ls h = refl
nth_other (l ∷ s) (suc k) (suc j) ls h = nth_other s k j ls (λ e. h (ap suc e))

pub put_same : (s : St) (k : ℕ) (ls : List ℕ) → nth s k ≡ some ls → put s k ls ≡ s
put_same [] k ls e = refl
put_same (l ∷ s) zero ls e = ap (λ t. t ∷ s) (let q : ls ≡ l = cc in q)
put_same (l ∷ s) (suc k) ls e = ap (λ t. l ∷ t) (put_same s k ls e)

-- a set that is written as it was is as it was
put_pick : (s : St) (k : ℕ) (ls new came : List ℕ) (hit used : Bool) → put s k ls ≡ s → put s k (pick hit (pick used new ls) came) ≡ pick hit (pick used (put s k new) s) (put s k came)
put_pick s k ls new came true true e = refl
put_pick s k ls new came true false e = e
put_pick s k ls new came false used e = refl

hit_of : (w l : ℕ) (ls : List ℕ) → is_hit (outcome_in w l ls) ≡ among l ls
hit_of w l ls = elim (cases_Bool (among l ls)) [ inl e ↦ rw e | inr e ↦ rw e ]

-- a touch of an address, whose set's ways are the m words in the middle of the cells xs
module _ (c : Cache) (xs : List ℕ) (a m : ℕ) (in_sets : set_of c a < c.sets) (fit : c.sets * c.ways ≤ length xs) (wide : m ≡ c.ways) where
  abbrev from : ℕ
  from = set_of c a * c.ways

  abbrev part : List ℕ
  part = take m (drop from xs)

  nth_part : nth (state_of c xs) (set_of c a) ≡ some (lines_of part)
  nth_part = rw wide (nth_sets c.sets c.ways (set_of c a) xs in_sets)

  at_part : lines_at c (state_of c xs) a ≡ lines_of part
  at_part = ap (λ o. opt o [] (λ l. l)) nth_part

  long_part : length part ≡ c.ways
  long_part =
      let b = within c.sets c.ways (set_of c a) in_sets in
      let d = length-drop from xs in
      length-take-le m (drop from xs) (omega arith) ∙ wide

  pub outcome_at : (o : Outcome) → o ≡ outcome_in (length part) (line_of c a) (lines_of part) → o ≡ outcome_of c (state_of c xs) a
  outcome_at o e = e ∙ ap (λ w. outcome_in w (line_of c a) (lines_of part)) long_part ∙ ap (outcome_in c.ways (line_of c a)) (sym at_part)

  pub hit_at : (o : Outcome) → o ≡ outcome_in (length part) (line_of c a) (lines_of part) → pick (is_hit o) c.hit c.miss ≡ cost c (state_of c xs) a
  hit_at o e = ap (λ u. pick (is_hit u) c.hit c.miss) (outcome_at o e) ∙ ap (λ b. pick b c.hit c.miss) (hit_of c.ways (line_of c a) (lines_at c (state_of c xs) a))

  module _ (ys : List ℕ) (long : length ys ≡ length part) where
    pub after_at : lines_of ys ≡ touched_set (length part) c.used (line_of c a) (lines_of part) → state_of c (put_mid from m xs ys) ≡ after c (state_of c xs) a
    after_at e =
        let l : ℕ = line_of c a in
        let s : St = state_of c xs in
        let p : sets_of c.sets c.ways (put_mid from m xs ys) ≡ put s (set_of c a) (lines_of ys) = rw wide (sets_put c.sets c.ways (set_of c a) xs ys in_sets fit (long ∙ long_part)) in
        let f : lines_of ys ≡ touched_set c.ways c.used l (lines_of part) = e ∙ ap (λ w. touched_set w c.used l (lines_of part)) long_part in
        let g : after c s a ≡ pick (among l (lines_of part)) (pick c.used (put s (set_of c a) (l ∷ without l (lines_of part))) s) (put s (set_of c a) (take c.ways (l ∷ lines_of part))) = ap (λ ls. pick (among l ls) (pick c.used (put s (set_of c a) (l ∷ without l ls)) s) (put s (set_of c a) (take c.ways (l ∷ ls)))) at_part in
        p ∙ ap (put s (set_of c a)) f ∙ put_pick s (set_of c a) (lines_of part) (l ∷ without l (lines_of part)) (take c.ways (l ∷ lines_of part)) (among l (lines_of part)) c.used (put_same s (set_of c a) (lines_of part) nth_part) ∙ sym g

    pub behind_at : drop (c.sets * c.ways) (put_mid from m xs ys) ≡ drop (c.sets * c.ways) xs
    behind_at =
        let b = within c.sets c.ways (set_of c a) in_sets in
        drop-put_mid from m xs ys (c.sets * c.ways) (omega arith) (omega arith) (long ∙ long_part ∙ sym wide)
