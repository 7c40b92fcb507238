-- Cells in which only empty ways follow an empty one: a touch keeps them so, and equal states are equal cells.
use Rattle.std.proofs.Common.{◌≡◌, ℕ, zero, suc, ◌+◌, ◌-◌, ◌*◌, ◌<◌, ◌≤◌, List, [], ◌∷◌, ◌++◌, length, get_or, take, drop, replicate, sym, refl, ap, ◌∙◌, subst, ap₂, suc-mul, zero-mul, add-one, arith}
use borrow.Rule.Slice.PartMut.{put_mid}
use Rattle.std.proofs.lemmas.List.{drop-drop, drop_at, take_at, take-take, length-take-le, length-drop, drop-replicate}
use Rattle.cycles.specs.Code.{Cache, set_of}
use Rattle.machine.specs.Cells.{lines_of, sets_of, Blank, Tidy, TidySets, TidyCells}
use Rattle.machine.specs.Standings.{Passed}
use Rattle.machine.proofs.CellLaws.{take_plus, within, behind_first}

blank_take : (n : ℕ) (ws : List ℕ) → Blank ws → Blank (take n ws)
unfolding Blank
blank_take zero ws b = tt
blank_take (suc n) [] b = tt
blank_take (suc n) (x ∷ ws) b = (b.0, blank_take n ws b.1)

blank_zeros : (n : ℕ) → Blank (replicate n 0)
unfolding Blank
blank_zeros zero = tt
blank_zeros (suc n) = (refl, blank_zeros n)

blank_same : (xs ys : List ℕ) → length xs ≡ length ys → Blank xs → Blank ys → xs ≡ ys
unfolding Blank
blank_same [] [] h a b = refl
blank_same [] (y ∷ ys) h a b = absurd (omega arith)
blank_same (x ∷ xs) [] h a b = absurd (omega arith)
blank_same (x ∷ xs) (y ∷ ys) h a b = ap₂ ◌∷◌ (a.0 ∙ sym b.0) (blank_same xs ys (omega arith) a.1 b.1)

tidy_take : (n : ℕ) (ws : List ℕ) → Tidy ws → Tidy (take n ws)
unfolding Tidy
tidy_take zero ws t = tt
tidy_take (suc n) [] t = tt
tidy_take (suc n) (zero ∷ ws) t = blank_take n ws t
tidy_take (suc n) (suc l ∷ ws) t = tidy_take n ws t

tidy_zeros : (n : ℕ) → Tidy (replicate n 0)
unfolding Tidy
tidy_zeros zero = tt
tidy_zeros (suc n) = blank_zeros n

-- ways with the same lines are the same
tidy_same : (xs ys : List ℕ) → length xs ≡ length ys → Tidy xs → Tidy ys → lines_of xs ≡ lines_of ys → xs ≡ ys
unfolding Tidy lines_of
tidy_same [] [] h a b e = refl
tidy_same [] (y ∷ ys) h a b e = absurd (omega arith)
tidy_same (x ∷ xs) [] h a b e = absurd (omega arith)
tidy_same (zero ∷ xs) (zero ∷ ys) h a b e = ap (λ t. 0 ∷ t) (blank_same xs ys (omega arith) a b)
tidy_same (zero ∷ xs) (suc m ∷ ys) h a b e = absurd (let z : ◌≡◌ {A = ℕ} 0 1 = cc in omega arith)
tidy_same (suc l ∷ xs) (zero ∷ ys) h a b e = absurd (let z : ◌≡◌ {A = ℕ} 0 1 = cc in omega arith)
tidy_same (suc l ∷ xs) (suc m ∷ ys) h a b e =
    let i : l ≡ m = cc in
    ap₂ (λ k t. suc k ∷ t) i (tidy_same xs ys (omega arith) a b (cc))

-- a line comes in before the others
pub tidy_push : (ws us : List ℕ) (l : ℕ) → us ≡ take (length ws) ((l + 1) ∷ ws) → Tidy ws → Tidy us
unfolding Tidy
tidy_push ws us l f t = subst Tidy (sym (rw add-one at f)) (tidy_take (length ws) (suc l ∷ ws) t)

-- a line goes out from among the taken ways
tidy_out : (ws : List ℕ) (l i : ℕ) → i < length ws → get_or ws i 0 ≡ suc l → length (lines_of (take i ws)) ≡ i → Tidy ws → Tidy (take i ws ++ drop (suc i) ws)
unfolding Tidy lines_of
tidy_out [] l i h e t o = absurd (omega arith)
tidy_out (zero ∷ ws) l zero h e t o = absurd (omega arith)
tidy_out (suc k ∷ ws) l zero h e t o = o
tidy_out (zero ∷ ws) l (suc i) h e t o = absurd (omega arith)
tidy_out (suc k ∷ ws) l (suc i) h e t o = tidy_out ws l i (omega arith) e (omega arith) o

-- it is brought to the front of the ways up to it
pub tidy_renewed : (ws : List ℕ) (l i : ℕ) → i < length ws → get_or ws i 0 ≡ suc l → Passed ws l i → (us : List ℕ) → us ≡ take (length (take (i + 1) ws)) ((l + 1) ∷ take (i + 1) ws) → Tidy ws → Tidy (us ++ drop (i + 1) ws)
unfolding Tidy
tidy_renewed ws l i h e p us f t =
    let k : i + 1 ≡ suc i = add-one i in
    let b : length (take (suc i) ws) ≡ suc i = length-take-le (suc i) ws (omega arith) in
    let q : take i (take (suc i) ws) ≡ take i ws = take-take i (suc i) ws (omega arith) in
    let g : us ≡ suc l ∷ take i ws = (rw (k, add-one) at f) ∙ rw (b, q) in
    rw (g, k) (tidy_out ws l i h e p.taken t)

-- the sets of a cache that is empty
pub tidy_clear : (n w m : ℕ) → TidySets n w (replicate m 0)
unfolding TidySets
tidy_clear zero w m = tt
tidy_clear (suc n) w m = (tidy_take w (replicate m 0) (tidy_zeros m), rw (drop-replicate {X = ℕ} w m 0) (tidy_clear n w (m - w)))

-- one set
pub tidy_at : (n w k : ℕ) (xs : List ℕ) → k < n → TidySets n w xs → Tidy (take w (drop (k * w) xs))
unfolding TidySets
tidy_at zero w k xs h t = absurd (omega arith)
tidy_at (suc n) w zero xs h t = rw zero-mul t.0
tidy_at (suc n) w (suc k) xs h t =
    let e : suc k * w ≡ w + k * w = omega (arith, suc-mul k w) in
    rw (e, ← drop-drop) (tidy_at n w k (drop w xs) (omega arith) t.1)

pub tidy_put : (n w k : ℕ) (xs ys : List ℕ) → k < n → n * w ≤ length xs → length ys ≡ w → Tidy ys → TidySets n w xs → TidySets n w (put_mid (k * w) w xs ys)
unfolding TidySets
tidy_put zero w k xs ys h l e y t = absurd (omega arith)
tidy_put (suc n) w zero xs ys h l e y t = rw (zero-mul, take_at ys (drop w xs) w e, drop_at ys (drop w xs) w e) (y, t.1)
tidy_put (suc n) w (suc k) xs ys h l e y t =
    let q = suc-mul n w in
    let i : suc k * w ≡ w + k * w = omega (arith, suc-mul k w) in
    let b = within n w k (omega arith) in
    let d = length-drop w xs in
    let f : length (take w xs) ≡ w = length-take-le w xs (omega arith) in
    rw (i, behind_first w (k * w) xs ys, take_at (take w xs) (put_mid (k * w) w (drop w xs) ys) w f, drop_at (take w xs) (put_mid (k * w) w (drop w xs) ys) w f) (t.0, tidy_put n w k (drop w xs) ys (omega arith) (omega arith) e y t.1)

-- cells of equal states
pub tidy_sets_same : (n w : ℕ) (xs ys : List ℕ) → n * w ≤ length xs → n * w ≤ length ys → TidySets n w xs → TidySets n w ys → sets_of n w xs ≡ sets_of n w ys → take (n * w) xs ≡ take (n * w) ys
unfolding TidySets sets_of
tidy_sets_same zero w xs ys h l s t e = rw zero-mul
tidy_sets_same (suc n) w xs ys h l s t e =
    let q = suc-mul n w in
    let i : suc n * w ≡ w + n * w = omega arith in
    let d = length-drop w xs in
    let f = length-drop w ys in
    let a : take w xs ≡ take w ys = tidy_same (take w xs) (take w ys) (length-take-le w xs (omega arith) ∙ sym (length-take-le w ys (omega arith))) s.0 t.0 (cc) in
    let b : take (n * w) (drop w xs) ≡ take (n * w) (drop w ys) = tidy_sets_same n w (drop w xs) (drop w ys) (omega arith) (omega arith) s.1 t.1 (cc) in
    rw (i, take_plus w (n * w) xs, take_plus w (n * w) ys, a, b)

-- words behind the cells do not matter
pub tidy_front : (n w : ℕ) (xs ys : List ℕ) → take (n * w) xs ≡ take (n * w) ys → n * w ≤ length xs → n * w ≤ length ys → TidySets n w xs → TidySets n w ys
unfolding TidySets
tidy_front zero w xs ys e h l t = tt
tidy_front (suc n) w xs ys e h l t =
    let q = suc-mul n w in
    let i : suc n * w ≡ w + n * w = omega arith in
    let d = length-drop w xs in
    let f = length-drop w ys in
    let g : take w xs ++ take (n * w) (drop w xs) ≡ take w ys ++ take (n * w) (drop w ys) = sym (take_plus w (n * w) xs) ∙ ap (λ k. take k xs) (sym i) ∙ e ∙ ap (λ k. take k ys) i ∙ take_plus w (n * w) ys in
    let x : length (take w xs) ≡ w = length-take-le w xs (omega arith) in
    let y : length (take w ys) ≡ w = length-take-le w ys (omega arith) in
    let a : take w xs ≡ take w ys = sym (take_at (take w xs) _ w x) ∙ ap (take w) g ∙ take_at (take w ys) _ w y in
    let b : take (n * w) (drop w xs) ≡ take (n * w) (drop w ys) = sym (drop_at (take w xs) _ w x) ∙ ap (drop w) g ∙ drop_at (take w ys) _ w y in
    (subst Tidy a t.0, tidy_front n w (drop w xs) (drop w ys) b (omega arith) (omega arith) t.1)

-- a touch of an address, whose set's ways are the m words in the middle of the cells xs
pub tidy_touched : (c : Cache) (xs : List ℕ) (a m : ℕ) → set_of c a < c.sets → c.sets * c.ways ≤ length xs → m ≡ c.ways → (ys : List ℕ) → length ys ≡ length (take m (drop (set_of c a * c.ways) xs)) → (Tidy (take m (drop (set_of c a * c.ways) xs)) → Tidy ys) → TidyCells c xs → TidyCells c (put_mid (set_of c a * c.ways) m xs ys)
tidy_touched c xs a m in_sets fit wide ys long f t =
    let b = within c.sets c.ways (set_of c a) in_sets in
    let d = length-drop (set_of c a * c.ways) xs in
    let l : length ys ≡ c.ways = long ∙ length-take-le m (drop (set_of c a * c.ways) xs) (omega arith) ∙ wide in
    let y : Tidy ys = f (rw wide (tidy_at c.sets c.ways (set_of c a) xs in_sets t)) in
    rw wide (tidy_put c.sets c.ways (set_of c a) xs ys in_sets fit l y t)
