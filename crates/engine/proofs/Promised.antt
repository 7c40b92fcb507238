-- What the whole call tells, with the theorems about tables.
use Rattle.std.proofs.Common.{◌≡◌, ℕ, zero, suc, ◌+◌, ◌-◌, ◌*◌, ◌<◌, ◌≤◌, List, [], ◌∷◌, length, take, drop, Ok, Err, Result, Some, None, sym, refl, ap, ◌∙◌, subst, inl, inr, ⊎_elim, mul-suc, arith, length-append, length-drop}
use borrow.Rule.Slice.PartMut.{put_mid}
use Rattle.std.proofs.lemmas.List.{take_at, length-take-le}
use Rattle.cycles.specs.Code.{P, Cache, empty}
use Rattle.cycles.specs.Rows.{amount, Reads}
use Rattle.cycles.proofs.Whole.{parted}
use Rattle.machine.proofs.States.{all_states}
use Rattle.trails.specs.declared.store.Store.{Store}
use Rattle.trails.specs.Stores.{Grown, nodes}
use Rattle.tables.specs.Best.{Both, first, later, Room, start}
use Rattle.tables.specs.Each.{no_more, also}
use Rattle.tables.specs.Showing.{Shown, Shows, width}
use Rattle.tables.proofs.Counts.{need_within, widest_least}
use Rattle.tables.proofs.Exact.{table_exact}
use Rattle.tables.proofs.Top.{best_told}
use Rattle.engine.specs.declared.pass.Point.{Point}
use Rattle.engine.specs.declared.tabulate.Tabulated.{Tabulated}
use Rattle.engine.specs.declared.tabulate.TabulateError.{TabulateError}
use Rattle.engine.specs.declared.tabulate.TabulateError.TheVariants.{Crowded}
use Rattle.engine.specs.Passing.{Fit, Task, Ready, Goes}
use Rattle.engine.specs.Tabulating.{RecordsFront, TabulateSays, TabulatePost, asked, behind}
use Rattle.engine.proofs.Chains.{point, shows_count}

records_front : RecordsFront
records_front a s t v m =
    (m.tells.front, ⊎_elim (λ e. inl (e ∙ ap (λ n. n - a) m.tells.count)) (λ e. inr e.0) m.sound.all)

-- the theorems come with every answer
pub promised : {ws : List ℕ} {a : Both ℕ} {most lent : ℕ} {ys st : List ℕ} (r : Result Tabulated TabulateError) → TabulateSays ws a most lent ys st r → TabulatePost ws a most lent ys st r
promised r s = record { says = s; states = all_states; exact = table_exact; within = need_within; best = best_told; records = records_front }

-- the program behind the cache's words
pub start_fit : (ws : List ℕ) (c : Cache) (p : P) → Reads ws c p → Fit ws 0 6 p []
start_fit ws c p r = let b = parted ws c p r in record { is = b.all; within = omega (arith, ap length r.is); fine = b.fine }

-- the first slot lies within the words, by a width w that the code computes
pub one_fits : (s most : ℕ) {w len : ℕ} → w ≡ s → w * most ≤ len → (most ≡ 0 → ⊥) → s ≤ len
one_fits s zero e h n = absurd (n refl)
one_fits s (suc m) {w} e h n = let q = mul-suc w m in omega arith

-- and is written there
pub front_long : (w m : ℕ) (xs new : List ℕ) → m ≡ w → w ≤ length xs → length new ≡ length (take (m - 0) xs) → (length new ≡ w) × (length (put_mid 0 (m - 0) xs new) ≡ length xs)
front_long w m xs new e h l =
    let z : m - 0 ≡ w = omega arith in
    let k : length new ≡ w = l ∙ rw z (length-take-le w xs h) in
    (k, rw z (length-append new (drop w xs) ∙ omega (arith, length-drop w xs)))

pub shows_start : (c : Cache) (a : Both ℕ) (s xs new : List ℕ) (m : ℕ) → length new ≡ width c → Shown c a s new (start c) → Shows c a s 1 (put_mid 0 m xs new) (start c ∷ [])
shows_start c a s xs new m l h = also (subst (λ z. Shown c a s z (start c)) (sym (take_at new _ (width c) l)) h) no_more

-- crowded, by what is asked and so by the states that can stand at once
pub told_crowded : {ws : List ℕ} {c : Cache} {p : P} {a : Both ℕ} {most lent : ℕ} {ys st : List ℕ} → Reads ws c p → most < asked c p → TabulatePost ws a most lent ys st (Err Crowded)
told_crowded {c = c} {p} r h = promised (Err Crowded) (c, p, r, h, omega (arith, h, need_within c p, widest_least c p [] (empty c ∷ [])))

-- a whole pass, over slots of which the first, new, was written over the front of xs
module _ {ws : List ℕ} {c : Cache} {p : P} (r : Reads ws c p) (a : Both ℕ) (xs new : List ℕ) (w most : ℕ) (wide : w ≡ width c) (some : most ≡ 0 → ⊥) (lent : width c * most ≤ length xs) (long : length new ≡ length (take (w - 0) xs)) (begun : (s : List ℕ) → Shown c a s new (start c)) (st : Store) where
  first_long : (length new ≡ width c) × (length (put_mid 0 (w - 0) xs new) ≡ length xs)
  first_long = front_long (width c) w xs new wide (one_fits (width c) most refl lent some) long

  abbrev whole : Task c a ws 0 (point 6 1) (put_mid 0 (w - 0) xs new) st
  whole = record { p = p; rest = []; T = start c ∷ []; fit = start_fit ws c p r; shows = shows_start c a (nodes st) xs new (w - 0) first_long.0 (begun (nodes st)) }

  at_least : 1 ≤ most
  at_least = elim_zero most some
    where
      elim_zero : (n : ℕ) → (n ≡ 0 → ⊥) → 1 ≤ n
      elim_zero zero h = absurd (h refl)
      elim_zero (suc n) h = omega arith

  pub whole_ready : (loops : ℕ) → loops ≡ 0 → Ready c a ws loops (point 6 1) most 0 (put_mid 0 (w - 0) xs new) st
  whole_ready loops none = rw none (record { task = whole; room = room; count = at_least; lent = omega (arith, lent, first_long.1) })
    where
      room : Room (amount p + 0) (start c ∷ [])
      room e first = let b = (parted ws c p r).little in ((omega arith, omega arith), (omega arith, omega arith))
      room e (later i) = elim i [ ]

  module _ (loops : ℕ) (rs ys : List ℕ) (st' : Store) (none : loops ≡ 0) (out : rs ≡ []) where
    pub whole_done : (t : Point) (len : ℕ) → Goes c a rs ws loops (point 6 1) most (put_mid 0 (w - 0) xs new) ys st st' (Some t) → Grown st st' × TabulatePost ws a most len ys st'.words.now (Ok (record { entries = t.count; top = st'.top }))
    whole_done t len m =
        let g : Goes c a [] ws 0 (point 6 1) most (put_mid 0 (w - 0) xs new) ys st st' (Some t) = rw (none, out) at m in
        let d = g whole in
        (d.grown, promised _ (c, p, r, omega (arith, at_least, d.enough), shows_count c a (nodes st') t.count ys (behind c p) d.shows, d.count, st'.within, d.shows))

    pub whole_crowded : (len : ℕ) (zs us : List ℕ) → Goes c a rs ws loops (point 6 1) most (put_mid 0 (w - 0) xs new) ys st st' None → TabulatePost ws a most len zs us (Err Crowded)
    whole_crowded len zs us m =
        let g : Goes c a [] ws 0 (point 6 1) most (put_mid 0 (w - 0) xs new) ys st st' None = rw (none, out) at m in
        told_crowded r (omega (arith, (g whole).0))
