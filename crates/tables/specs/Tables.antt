-- Tables of states, each with a value, and how a program takes one table to the next.
use Rattle.std.specs.Prelude.{ℕ, zero, suc, ◌+◌, max, Bool, true, false, List, [], ◌∷◌, map, length}
use Rattle.cycles.specs.Code.{pick, P, work, touch, seq, either, times, skip, Cache, St, after, cost, place}
use Rattle.cycles.specs.Plays.{same_s}

-- a state of the cache, and what is kept of the plays that come to it
pub record Entry (V : Type 0) : Type 0 where
  pub st : St
  pub val : V

-- how a value goes on as cycles are spent and as a choice is made, and which of two values of one state is kept
pub record Values (V : Type 0) : Type 0 where
  pub spend : ℕ → V → V
  pub note : Bool → V → V
  pub best : V → V → V

module _ {V : Type 0} (best : V → V → V) where
  -- one entry more: the entry of its state keeps the best of both values, and if there is none it goes to the end
  abbrev pub join : List (Entry V) → Entry V → List (Entry V)
  join [] e = e ∷ []
  join (f ∷ T) e = pick (same_s f.st e.st) (record { st = f.st; val = best f.val e.val } ∷ T) (f ∷ join T e)

  -- the entries of the second, one after the other, into the first
  abbrev pub gather : List (Entry V) → List (Entry V) → List (Entry V)
  gather T [] = T
  gather T (e ∷ U) = gather (join T e) U

  -- each state once
  abbrev pub dedup : List (Entry V) → List (Entry V)
  dedup T = gather [] T

abbrev pub turns : {A : Type 0} → ℕ → ℕ → (ℕ → A → A) → A → A
turns zero i f T = T
turns (suc n) i f T = turns n (suc i) f (f i T)

abbrev pub turns_need : {A : Type 0} → ℕ → ℕ → (ℕ → A → A) → (ℕ → A → ℕ) → A → ℕ
turns_need zero i f g T = 0
turns_need (suc n) i f g T = max (g i T) (turns_need n (suc i) f g (f i T))

module _ {V : Type 0} (o : Values V) where
  abbrev pub spent : ℕ → Entry V → Entry V
  spent n e = record { st = e.st; val = o.spend n e.val }

  abbrev pub chose : Bool → Entry V → Entry V
  chose b e = record { st = e.st; val = o.note b e.val }

  -- an address touched
  abbrev pub touched : Cache → ℕ → Entry V → Entry V
  touched c w e = record { st = after c e.st w; val = o.spend (cost c e.st w) e.val }

  -- the table behind a program: only an either can make entries more, so only there each state is kept once
  abbrev pub run : Cache → P → List ℕ → List (Entry V) → List (Entry V)
  run c (work n) rs T = map (spent n) T
  run c (touch b ks) rs T = map (touched c (place b ks rs)) T
  run c (seq p q) rs T = run c q rs (run c p rs T)
  run c (either p q) rs T = gather o.best (dedup o.best (run c p rs (map (chose true) (dedup o.best T)))) (run c q rs (map (chose false) (dedup o.best T)))
  run c (times n p) rs T = turns n 0 (λ i. run c p (i ∷ rs)) T
  run c skip rs T = T

  -- the entries that an either asks for at once: those before it twice, those before it beside all that its first asks for, and those behind its first beside all that its second asks for
  abbrev pub need : Cache → P → List ℕ → List (Entry V) → ℕ
  need c (work n) rs T = 0
  need c (touch b ks) rs T = 0
  need c (seq p q) rs T = max (need c p rs T) (need c q rs (run c p rs T))
  need c (either p q) rs T =
      max (length (dedup o.best T) + length (dedup o.best T))
      (max (length (dedup o.best T) + need c p rs (map (chose true) (dedup o.best T)))
      (length (dedup o.best (run c p rs (map (chose true) (dedup o.best T)))) + need c q rs (map (chose false) (dedup o.best T))))
  need c (times n p) rs T = turns_need n 0 (λ i. run c p (i ∷ rs)) (λ i. need c p (i ∷ rs)) T
  need c skip rs T = 0
