-- The address of a touch, step by step, and that it fits.
use Rattle.std.proofs.Common.{◌≡◌, ℕ, zero, suc, ◌+◌, ◌*◌, ◌<◌, ◌≤◌, true, ltb, List, [], ◌∷◌, length, get_or, take, drop, refl, mul-le-mul, arith}
use Rattle.std.proofs.lemmas.List.{drop_more, get_or-take, length-take-le}
use Rattle.std.proofs.lemmas.Bool.{and_parts, and_from, ltb-true, lt-ltb}
use Rattle.cycles.specs.Code.{place}
use Rattle.cycles.specs.Rows.{small}
use Rattle.machine.specs.Around.{around, below}

below_take : (m n : ℕ) (xs : List ℕ) → below m xs ≡ true → below m (take n xs) ≡ true
below_take m zero xs h = refl
below_take m (suc n) [] h = refl
below_take m (suc n) (x ∷ xs) h = let a = and_parts (ltb x m) (below m xs) h in and_from _ _ a.0 (below_take m n xs a.1)

pub below_front : (m n x : ℕ) (xs : List ℕ) → x < m → below m xs ≡ true → below m (take n (x ∷ xs)) ≡ true
below_front m n x xs k h = below_take m n (x ∷ xs) (and_from _ _ (lt-ltb x m k) h)

pub below_at : (m : ℕ) (xs : List ℕ) (i : ℕ) → 0 < m → below m xs ≡ true → get_or xs i 0 < m
below_at m [] i z h = z
below_at m (x ∷ xs) zero z h = ltb-true x m (and_parts (ltb x m) (below m xs) h).0
below_at m (x ∷ xs) (suc i) z h = below_at m xs i z (and_parts (ltb x m) (below m xs) h).1

pub small_at : (xs : List ℕ) (i : ℕ) → small xs ≡ true → get_or xs i 0 < 65536
small_at [] i h = omega arith
small_at (x ∷ xs) zero h = ltb-true x 65536 (and_parts (ltb x 65536) (small xs) h).0
small_at (x ∷ xs) (suc i) h = small_at xs i (and_parts (ltb x 65536) (small xs) h).1

pub place_more : (w i d : ℕ) (ks at : List ℕ) → d ≤ length at → i < length ks → i < d → place w (drop i ks) (drop i (around at d)) ≡ place (w + get_or ks i 0 * get_or at i 0) (drop (i + 1) ks) (drop (i + 1) (around at d))
place_more w i d ks at h k m =
    let a = drop_more ks i 0 k in
    let l : i < length (around at d) = omega (arith, length-take-le d at h) in
    let b = drop_more (around at d) i 0 l in
    rw (a, b, get_or-take d at i 0 m)

-- the most that one step adds
pub step_bound : (k r : ℕ) → k < 65536 → r < 4096 → k * r ≤ 268365825
step_bound k r h m = let a : k ≤ 65535 = omega arith in let b : r ≤ 4095 = omega arith in mul-le-mul a b
