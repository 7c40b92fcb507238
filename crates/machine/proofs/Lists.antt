-- Lines of a set, one set of a cache, and the sets side by side.
use Rattle.std.proofs.Common.{◌≡◌, ℕ, zero, suc, ◌≤◌, Bool, true, false, ◌||◌, eqb, List, [], ◌∷◌, length, take, replicate, refl, le_of_suc-le-suc, not-suc-le-zero, arith}
use Rattle.std.proofs.lemmas.Bool.{both_ways, or_parts}
use Rattle.cycles.specs.Code.{pick, opt, nth, put, St, among, without}
use Rattle.cycles.specs.Says.{Front, none_yet, and_so, Fronts, no_sets, a_set}

-- a test taken apart: the goal at both ways, each with its equation
pub by : {A : Type 0} (b : Bool) (P : A → Type 0) (x y : A) → (b ≡ true → P x) → (b ≡ false → P y) → P (pick b x y)
by true P x y f g = f refl
by false P x y f g = g refl

-- one more test before: an implication between what follows
pub or_then : (b x y : Bool) → (x ≡ true → y ≡ true) → (b || x) ≡ true → (b || y) ≡ true
or_then true x y f h = refl
or_then false x y f h = f h

-- what is among the first lines is among all
pub among_front : (x : ℕ) {k l : List ℕ} → Front k l → among x k ≡ true → among x l ≡ true
among_front x none_yet h = absurd (both_ways false refl h)
among_front x (and_so {x = y} {k = k} {l = l} f) h = or_then (eqb x y) (among x k) (among x l) (among_front x f) h

pub front_take : (n : ℕ) {k l : List ℕ} → Front k l → Front (take n k) l
front_take zero f = none_yet
front_take (suc n) none_yet = none_yet
front_take (suc n) (and_so f) = and_so (front_take n f)

pub front_takes : (m n : ℕ) {k l : List ℕ} → m ≤ n → Front k l → Front (take m k) (take n l)
front_takes zero n h f = none_yet
front_takes (suc m) zero h f = absurd (not-suc-le-zero h)
front_takes (suc m) (suc n) h none_yet = none_yet
front_takes (suc m) (suc n) h (and_so f) = and_so (front_takes m n (le_of_suc-le-suc h) f)

-- a line that's among both goes out of both
without_hit : (b : Bool) (y : ℕ) {k l wk wl : List ℕ} → Front k l → Front wk wl → Front (pick b k (y ∷ wk)) (pick b l (y ∷ wl))
without_hit true y f g = f
without_hit false y f g = and_so g

pub front_without : (x : ℕ) {k l : List ℕ} → Front k l → Front (without x k) (without x l)
front_without x none_yet = none_yet
front_without x (and_so {x = y} f) = without_hit (eqb x y) y f (front_without x f)

-- a line that's not among the first goes out behind them
without_miss : (b : Bool) (y : ℕ) {k wl : List ℕ} (l : List ℕ) → b ≡ false → Front k wl → Front (y ∷ k) (pick b l (y ∷ wl))
without_miss true y l e g = absurd (both_ways true e refl)
without_miss false y l e g = and_so g

pub front_behind : (x : ℕ) {k l : List ℕ} → Front k l → among x k ≡ false → Front k (without x l)
front_behind x none_yet h = none_yet
front_behind x (and_so {x = y} {k = k} {l = l} f) h =
    let e = or_parts (eqb x y) (among x k) h in
    without_miss (eqb x y) y l e.0 (front_behind x f e.1)

-- one set, a line used: the narrower's lines stay the first of the wider's
abbrev pub use_line : ℕ → ℕ → List ℕ → List ℕ
use_line w x l = pick (among x l) (x ∷ without x l) (take w (x ∷ l))

pub use_front : (m n : ℕ) (x : ℕ) {k l : List ℕ} → m ≤ n → Front k l → Front (use_line m x k) (use_line n x l)
use_front m n x {k} {l} h f =
    by (among x k) (λ v. Front v (use_line n x l)) (x ∷ without x k) (take m (x ∷ k))
    (λ e. by (among x l) (λ v. Front (x ∷ without x k) v) (x ∷ without x l) (take n (x ∷ l))
    (λ _. and_so (front_without x f))
    (λ e'. absurd (both_ways (among x l) e' (among_front x f e))))
    (λ e. by (among x l) (λ v. Front (take m (x ∷ k)) v) (x ∷ without x l) (take n (x ∷ l))
    (λ _. front_take m (and_so (front_behind x f e)))
    (λ _. front_takes m n h (and_so f)))

-- sets side by side
abbrev pub lines : St → ℕ → List ℕ
lines s i = opt (nth s i) [] (λ l. l)

pub fronts_at : {s t : St} → Fronts s t → (i : ℕ) → Front (lines s i) (lines t i)
fronts_at no_sets i = none_yet
fronts_at (a_set f fs) zero = f
fronts_at (a_set f fs) (suc i) = fronts_at fs i

pub fronts_put : {s t : St} {k l : List ℕ} → Fronts s t → (i : ℕ) → Front k l → Fronts (put s i k) (put t i l)
fronts_put no_sets i g = no_sets
fronts_put (a_set f fs) zero g = a_set g fs
fronts_put (a_set f fs) (suc i) g = a_set f (fronts_put fs i g)

pub fronts_empty : (n : ℕ) (v : St) → length v ≡ n → Fronts (replicate n []) v
fronts_empty zero [] h = no_sets
fronts_empty zero (l ∷ v) h = absurd (omega arith)
fronts_empty (suc n) [] h = absurd (omega arith)
fronts_empty (suc n) (l ∷ v) h = a_set none_yet (fronts_empty n v (omega arith))
