-- A program that does nothing leaves the table, and asks for no entries.
use Rattle.std.proofs.Common.{◌≡◌, ℕ, zero, suc, true, false, List, ◌∷◌, refl}
use Rattle.std.proofs.lemmas.Bool.{both_ways, and_parts}
use Rattle.cycles.specs.Code.{P, work, touch, seq, either, times, skip, Cache}
use Rattle.machine.specs.Playing.{still}
use Rattle.tables.specs.Tables.{Entry, Values, turns, turns_need, run, need}

module _ {V : Type 0} (o : Values V) (c : Cache) where
  still_turns : (p : P) (rs : List ℕ) (T : List (Entry V)) → ((j : ℕ) → (run o c p (j ∷ rs) T ≡ T) × (need o c p (j ∷ rs) T ≡ 0)) → (n i : ℕ) → (turns n i (λ j. run o c p (j ∷ rs)) T ≡ T) × (turns_need n i (λ j. run o c p (j ∷ rs)) (λ j. need o c p (j ∷ rs)) T ≡ 0)
  still_turns p rs T f zero i = (refl, refl)
  still_turns p rs T f (suc n) i =
      let (r, m) = f i in
      let (s, l) = still_turns p rs T f n (suc i) in
      (rw r s, rw (r, m, l))

  pub still_run : (p : P) (rs : List ℕ) (T : List (Entry V)) → still p ≡ true → (run o c p rs T ≡ T) × (need o c p rs T ≡ 0)
  still_run (work n) rs T h = absurd (both_ways false refl h)
  still_run (touch b ks) rs T h = absurd (both_ways false refl h)
  still_run (seq p q) rs T h =
      let k = and_parts (still p) (still q) h in
      let (r, m) = still_run p rs T k.0 in
      let (s, l) = still_run q rs T k.1 in
      (rw r s, rw (r, m, l))
  still_run (either p q) rs T h = absurd (both_ways false refl h)
  still_run (times n p) rs T h = still_turns p rs T (λ j. still_run p (j ∷ rs) T h) n 0
  still_run skip rs T h = (refl, refl)
