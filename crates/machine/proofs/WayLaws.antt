-- The ways of one set, and the lines that they hold.
use Rattle.std.proofs.Common.{◌≡◌, ℕ, zero, suc, ◌+◌, ◌-◌, ◌<◌, ◌≤◌, Bool, true, false, eqb, ◌||◌, List, [], ◌∷◌, ◌++◌, length, get_or, take, drop, set, replicate, Some, None, sym, refl, subst, ap, ◌∙◌, add-one, sub-one, arith}
use Rattle.std.proofs.lemmas.List.{drop_more, drop_all, take_more, take_all, take-take, length-take-le, length_push}
use Rattle.std.proofs.lemmas.Bool.{or_parts, or_from, or_left, or_right, eq-eqb, ne_eqb, eqb-false, lt-ltb, le-ltb}
use Rattle.cycles.specs.Code.{among, without}
use Rattle.machine.specs.Cells.{lines_of, touched_set, last_from, last_of, outcome_in}
use Rattle.machine.specs.declared.cache.Outcome.TheVariants.{Hit, Miss}
use Rattle.machine.specs.Standings.{Passed}

-- the last cell of all goes to the front, and is written over
pub rotated : (ws : List ℕ) (x : ℕ) → 0 < length ws → set (drop (length ws - 1) ws ++ take (length ws - 1) ws) 0 x ≡ take (length ws) (x ∷ ws)
rotated [] x h = absurd (omega arith)
rotated (w ∷ ws) x h =
    let e : drop (length ws) (w ∷ ws) ≡ get_or (w ∷ ws) (length ws) 0 ∷ [] = drop_more (w ∷ ws) (length ws) 0 (omega arith) ∙ ap (λ t. get_or (w ∷ ws) (length ws) 0 ∷ t) (drop_all (length ws + 1) (w ∷ ws) (omega arith)) in
    rw (sub-one, e)

pub lines_long : (ws : List ℕ) → length (lines_of ws) ≤ length ws
unfolding lines_of
lines_long [] = omega arith
lines_long (zero ∷ ws) = omega arith
lines_long (suc l ∷ ws) = omega (arith, lines_long ws)

pub lines_take : (n : ℕ) (ws : List ℕ) → lines_of (take n ws) ≡ take n (lines_of ws)
unfolding lines_of
lines_take zero ws = refl
lines_take (suc n) [] = refl
lines_take (suc n) (zero ∷ ws) = refl
lines_take (suc n) (suc l ∷ ws) = ap (λ t. l ∷ t) (lines_take n ws)

-- behind ways that are all taken
pub lines_append : (us ws : List ℕ) → length (lines_of us) ≡ length us → lines_of (us ++ ws) ≡ lines_of us ++ lines_of ws
unfolding lines_of
lines_append [] ws h = refl
lines_append (zero ∷ us) ws h = absurd (omega arith)
lines_append (suc l ∷ us) ws h = ap (λ t. l ∷ t) (lines_append us ws (omega arith))

pub lines_clear : (w n : ℕ) → lines_of (take w (replicate n 0)) ≡ []
unfolding lines_of
lines_clear zero n = refl
lines_clear (suc w) zero = refl
lines_clear (suc w) (suc n) = refl

among_push : (x y : ℕ) (xs : List ℕ) → among x xs ≡ false → (y ≡ x → ⊥) → among x (xs ++ (y ∷ [])) ≡ false
among_push x y [] h k = or_from (eqb x y) false (ne_eqb x y (λ e. k (sym e))) refl
among_push x y (z ∷ xs) h k = let p = or_parts (eqb x z) (among x xs) h in or_from _ _ p.0 (among_push x y xs p.1 k)

ne_zero : (x : ℕ) → (x ≡ 0 → ⊥) → 0 < x
ne_zero zero h = absurd (h refl)
ne_zero (suc x) h = omega arith

-- a way that is taken
one_line : (x : ℕ) → (x ≡ 0 → ⊥) → lines_of (x ∷ []) ≡ (x - 1) ∷ []
unfolding lines_of
one_line zero h = absurd (h refl)
one_line (suc l) h = let e : suc l - 1 ≡ l = omega arith in rw e

pub passed_none : (ws : List ℕ) (l : ℕ) → Passed ws l 0
unfolding lines_of
passed_none ws l = record { taken = refl; others = refl }

pub passed_more : (ws : List ℕ) (l i : ℕ) → i < length ws → Passed ws l i → (get_or ws i 0 ≡ l + 1 → ⊥) → (get_or ws i 0 ≡ 0 → ⊥) → Passed ws l (i + 1)
passed_more ws l i h p n z =
    let a : length (take i ws) ≡ i = length-take-le i ws (omega arith) in
    let t : lines_of (take (i + 1) ws) ≡ lines_of (take i ws) ++ ((get_or ws i 0 - 1) ∷ []) = ap lines_of (take_more ws i 0 h) ∙ lines_append (take i ws) (get_or ws i 0 ∷ []) (p.taken ∙ sym a) ∙ ap (λ r. lines_of (take i ws) ++ r) (one_line (get_or ws i 0) z) in
    record {
      taken = ap length t ∙ length_push (lines_of (take i ws)) (get_or ws i 0 - 1) ∙ ap (λ n. n + 1) p.taken;
      others = ap (among l) t ∙ among_push l (get_or ws i 0 - 1) (lines_of (take i ws)) p.others (λ e. n (omega (arith, ne_zero (get_or ws i 0) z)));
    }

-- an empty way ends the lines
stop_at : (ws : List ℕ) (i : ℕ) → i < length ws → get_or ws i 0 ≡ 0 → lines_of (take i ws) ≡ lines_of ws
unfolding lines_of
stop_at [] i h z = absurd (omega arith)
stop_at (zero ∷ ws) zero h z = refl
stop_at (suc l ∷ ws) zero h z = absurd (omega arith)
stop_at (zero ∷ ws) (suc i) h z = refl
stop_at (suc l ∷ ws) (suc i) h z = ap (λ t. l ∷ t) (stop_at ws i (omega arith) z)

pub passed_free : (ws : List ℕ) (l i : ℕ) → i < length ws → get_or ws i 0 ≡ 0 → Passed ws l i → (among l (lines_of ws) ≡ false) × (length (lines_of ws) < length ws)
passed_free ws l i h z p =
    let e = stop_at ws i h z in
    (ap (among l) (sym e) ∙ p.others, omega (arith, ap length e, p.taken))

pub passed_all : (ws : List ℕ) (l i : ℕ) → i ≡ length ws → Passed ws l i → (among l (lines_of ws) ≡ false) × (length (lines_of ws) ≡ length ws)
passed_all ws l i h p =
    let e : lines_of (take i ws) ≡ lines_of ws = ap lines_of (take_all i ws (omega arith)) in
    (ap (among l) (sym e) ∙ p.others, omega (arith, ap length e, p.taken))

-- a line that a way holds
held_there : (ws : List ℕ) (l i : ℕ) → i < length ws → get_or ws i 0 ≡ suc l → length (lines_of (take i ws)) ≡ i → among l (lines_of ws) ≡ true
unfolding lines_of
held_there [] l i h e t = absurd (omega arith)
held_there (zero ∷ ws) l zero h e t = absurd (omega arith)
held_there (suc k ∷ ws) l zero h e t = or_left (eqb l k) (among l (lines_of ws)) (eq-eqb l k (omega arith))
held_there (zero ∷ ws) l (suc i) h e t = absurd (omega arith)
held_there (suc k ∷ ws) l (suc i) h e t = or_right (eqb l k) (among l (lines_of ws)) (held_there ws l i (omega arith) e (omega arith))

held_out : (ws : List ℕ) (l i : ℕ) → i < length ws → get_or ws i 0 ≡ suc l → length (lines_of (take i ws)) ≡ i → among l (lines_of (take i ws)) ≡ false → lines_of (take i ws ++ drop (suc i) ws) ≡ without l (lines_of ws)
unfolding lines_of
held_out [] l i h e t o = absurd (omega arith)
held_out (zero ∷ ws) l zero h e t o = absurd (omega arith)
held_out (suc k ∷ ws) l zero h e t o = let q : l ≡ k = omega arith in rw (eq-eqb l k q)
held_out (zero ∷ ws) l (suc i) h e t o = absurd (omega arith)
held_out (suc k ∷ ws) l (suc i) h e t o =
    let p = or_parts (eqb l k) (among l (lines_of (take i ws))) o in
    rw p.0 (ap (λ r. k ∷ r) (held_out ws l i (omega arith) e (omega arith) p.1))

module _ (ws : List ℕ) (l i : ℕ) (h : i < length ws) (e : get_or ws i 0 ≡ suc l) (p : Passed ws l i) where
  pub there_held : among l (lines_of ws) ≡ true
  there_held = held_there ws l i h e p.taken

  -- it is brought to the front of the ways up to it
  pub renewed : (us : List ℕ) → us ≡ take (length (take (i + 1) ws)) ((l + 1) ∷ take (i + 1) ws) → lines_of (us ++ drop (i + 1) ws) ≡ l ∷ without l (lines_of ws)
  unfolding lines_of
  renewed us f =
      let k : i + 1 ≡ suc i = add-one i in
      let b : length (take (suc i) ws) ≡ suc i = length-take-le (suc i) ws (omega arith) in
      let t : take i (take (suc i) ws) ≡ take i ws = take-take i (suc i) ws (omega arith) in
      let g : us ≡ suc l ∷ take i ws = (rw (k, add-one) at f) ∙ rw (b, t) in
      rw (g, k) (ap (λ r. l ∷ r) (held_out ws l i h e p.taken p.others))

-- a line comes in, and the last way's goes
pub came_in : (ws us : List ℕ) (l : ℕ) → us ≡ take (length ws) ((l + 1) ∷ ws) → lines_of us ≡ take (length ws) (l ∷ lines_of ws)
unfolding lines_of
came_in ws us l f = ap lines_of (rw add-one at f) ∙ lines_take (length ws) (suc l ∷ ws)

-- the line in the last of the ways, if all are taken
last_cell : (l : ℕ) (ws : List ℕ) → length (lines_of ws) ≡ length ws → get_or (suc l ∷ ws) (length ws) 0 ≡ suc (last_from l (lines_of ws))
unfolding lines_of
last_cell l [] h = refl
last_cell l (zero ∷ ws) h = absurd (omega arith)
last_cell l (suc k ∷ ws) h = last_cell k ws (omega arith)

pub last_way : (ws : List ℕ) → 0 < length ws → length (lines_of ws) ≡ length ws → last_of (lines_of ws) ≡ Some (get_or ws (length ws - 1) 0 - 1)
unfolding lines_of
last_way [] h f = absurd (omega arith)
last_way (zero ∷ ws) h f = absurd (omega arith)
last_way (suc l ∷ ws) h f =
    let e = last_cell l ws (omega arith) in
    let k : suc (last_from l (lines_of ws)) - 1 ≡ last_from l (lines_of ws) = omega arith in
    let i : suc (length ws) - 1 ≡ length ws = omega arith in
    rw (i, e, k)

pub last_taken : (ws : List ℕ) → 0 < length ws → length (lines_of ws) ≡ length ws → 1 ≤ get_or ws (length ws - 1) 0
unfolding lines_of
last_taken [] h f = absurd (omega arith)
last_taken (zero ∷ ws) h f = absurd (omega arith)
last_taken (suc l ∷ ws) h f = rw (sub-one, last_cell l ws (omega arith)) (omega arith)

-- what a touch comes to, by its cases
module _ (w l : ℕ) (ls : List ℕ) where
  pub hit_lru : (used : Bool) → among l ls ≡ true → used ≡ true → l ∷ without l ls ≡ touched_set w used l ls
  hit_lru used a u = rw (a, u)

  pub hit_fifo : (used : Bool) → among l ls ≡ true → used ≡ false → ls ≡ touched_set w used l ls
  hit_fifo used a u = rw (a, u)

  pub missed : (used : Bool) → among l ls ≡ false → take w (l ∷ ls) ≡ touched_set w used l ls
  missed used a = rw a

  pub outcome_hit : among l ls ≡ true → Hit ≡ outcome_in w l ls
  outcome_hit a = rw a

  pub outcome_free : among l ls ≡ false → length ls < w → Miss None ≡ outcome_in w l ls
  outcome_free a h = let b = lt-ltb (length ls) w h in rw (a, b)

  pub outcome_full : (k : ℕ) → among l ls ≡ false → w ≤ length ls → last_of ls ≡ Some k → Miss (Some k) ≡ outcome_in w l ls
  outcome_full k a h e = let b = le-ltb (length ls) w h in rw (a, b, e)

-- ways before the i-th that are taken by other lines
pub passed_to : (ws : List ℕ) (l i : ℕ) → i ≤ length ws → ((k : ℕ) → k < i → ((get_or ws k 0 ≡ l + 1 → ⊥) × (get_or ws k 0 ≡ 0 → ⊥))) → Passed ws l i
passed_to ws l zero h f = passed_none ws l
passed_to ws l (suc i) h f =
    let p = passed_to ws l i (omega arith) (λ k m. f k (omega arith)) in
    subst (λ n. Passed ws l n) (add-one i) (passed_more ws l i (omega arith) p (f i (omega arith)).0 (f i (omega arith)).1)

-- no way before the i-th holds the cell of a line, or nothing
pub passed_found : (ws : List ℕ) (l i : ℕ) → i ≤ length ws → ((k : ℕ) → k < i → (eqb (get_or ws k 0) (l + 1) || eqb (get_or ws k 0) 0) ≡ false) → Passed ws l i
passed_found ws l i h f =
    passed_to ws l i h (λ k m. let p = or_parts (eqb (get_or ws k 0) (l + 1)) (eqb (get_or ws k 0) 0) (f k m) in (eqb-false _ _ p.0, eqb-false _ _ p.1))
