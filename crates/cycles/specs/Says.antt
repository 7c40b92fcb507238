-- The theorems about programs and caches, as types, and what the call that tells the times promises.
use Rattle.std.specs.Prelude.{◌≡◌, ℕ, suc, ◌+◌, ◌*◌, ◌<◌, ◌≤◌, Bool, true, ◌↔◌, List, [], ◌∷◌, ◌++◌, length, take, drop}
use Rattle.std.proofs.Math.Option.{some}
use Rattle.cycles.specs.declared.Timed.{Timed}
use Rattle.cycles.specs.declared.Timed.TheVariants.{Times, Crowded, OutFull, NoProgram, Few}
use Rattle.cycles.specs.Code.{pick, P, Cache, St, empty, after, there}
use Rattle.cycles.specs.Plays.{Play, has, through, widest}
use Rattle.cycles.specs.Rows.{Reads}

-- words are at most one cache and program
abbrev pub OneReading : Type 0
OneReading = (s : List ℕ) (c d : Cache) (p q : P) → Reads s c p → Reads s d q → (c ≡ d) × (p ≡ q)

-- a state in which each set holds no line twice, and no more lines than it has ways
pub record Sound (c : Cache) (s : St) : Type 0 where
  pub sets : length s ≡ c.sets
  pub ways : (i : ℕ) (l : List ℕ) → Rattle.cycles.specs.Code.nth s i ≡ some l → length l ≤ c.ways
  pub once : (i x j k : ℕ) (l : List ℕ) → Rattle.cycles.specs.Code.nth s i ≡ some l → Rattle.cycles.specs.Code.nth l j ≡ some x → Rattle.cycles.specs.Code.nth l k ≡ some x → j ≡ k

-- touching an address keeps a state sound
abbrev pub StaysSound : Type 0
StaysSound = (s : List ℕ) (c : Cache) (p : P) (t : St) (a : ℕ) → Reads s c p → Sound c t → Sound c (after c t a)

-- what through computes is all states behind a program: each is come to by a play, and each play comes to one
abbrev pub AllStates : Type 0
AllStates = (c : Cache) (p : P) (s t : St) → ((bs : List Bool) (n : ℕ) → Play c p s bs n t → has (through c p [] (s ∷ [])) t ≡ true) × (has (through c p [] (s ∷ [])) t ≡ true → (bs : List Bool) × (n : ℕ) × Play c p s bs n t)

-- under LRU a cache with one more way in each set holds all that the other does, and is slower on no play
abbrev pub widened : Cache → Cache
widened c = record { sets = c.sets; ways = suc c.ways; line = c.line; hit = c.hit; miss = c.miss; used = c.used }

-- the first list is a front of the second; and so for each set of two states
pub data Front : List ℕ → List ℕ → Type 0 where
  none_yet : {l : List ℕ} → Front [] l
  and_so : {x : ℕ} {k l : List ℕ} → Front k l → Front (x ∷ k) (x ∷ l)

pub data Fronts : St → St → Type 0 where
  no_sets : Fronts [] []
  a_set : {k l : List ℕ} {s t : St} → Front k l → Fronts s t → Fronts (k ∷ s) (l ∷ t)

abbrev pub WiderHolds : Type 0
WiderHolds = (s : List ℕ) (c : Cache) (p : P) (bs : List Bool) (m n : ℕ) (t u : St) → Reads s c p → c.used ≡ true → Play c p (empty c) bs m t → Play (widened c) p (empty (widened c)) bs n u → Fronts t u

abbrev pub WiderNeverSlower : Type 0
WiderNeverSlower = (s : List ℕ) (c : Cache) (p : P) (bs : List Bool) (m n : ℕ) (t u : St) → Reads s c p → c.used ≡ true → c.hit ≤ c.miss → Play c p (empty c) bs m t → Play (widened c) p (empty (widened c)) bs n u → n ≤ m

-- under LRU no play from any sound state is slower than the same play from the empty cache
abbrev pub EmptyIsWorst : Type 0
EmptyIsWorst = (s : List ℕ) (c : Cache) (p : P) (bs : List Bool) (m n : ℕ) (v t u : St) → Reads s c p → c.used ≡ true → c.hit ≤ c.miss → Sound c v → Play c p (empty c) bs m t → Play c p v bs n u → n ≤ m

-- from an empty cache: n is the longest (the shortest) time of all plays, and the choices bs take it
pub record Longest (c : Cache) (p : P) (n : ℕ) (bs : List Bool) : Type 0 where
  pub taken : (t : St) × Play c p (empty c) bs n t
  pub none_longer : (cs : List Bool) (k : ℕ) (t : St) → Play c p (empty c) cs k t → k ≤ n

pub record Shortest (c : Cache) (p : P) (n : ℕ) (bs : List Bool) : Type 0 where
  pub taken : (t : St) × Play c p (empty c) bs n t
  pub none_shorter : (cs : List Bool) (k : ℕ) (t : St) → Play c p (empty c) cs k t → n ≤ k

-- choices as bytes: 1 for the first branch, 0 for the second
abbrev pub bits : List Bool → List ℕ
bits [] = []
bits (b ∷ bs) = pick b 1 0 ∷ bits bs

-- what the call tells of the words s, with room for most states at once; o and o' are the bytes lent for the choices before and after the call:
-- times, with the choices of a longest play first and of a shortest behind them; crowded, if more states can stand at once; out full, if no longest and shortest play fit; no program, if the words are none; few, if too few words are lent
abbrev pub TimedSays : List ℕ → ℕ → List ℕ → List ℕ → Timed → Type 0
TimedSays s most o o' (Times n m k l) = (c : Cache) × (p : P) × (bs cs : List Bool) × Reads s c p × Longest c p n bs × Shortest c p m cs × (k ≡ length bs) × (l ≡ length cs) × (take (k + l) o' ≡ bits bs ++ bits cs) × (drop (k + l) o' ≡ drop (k + l) o)
TimedSays s most o o' Crowded = (c : Cache) × (p : P) × Reads s c p × (most < widest c p [] (empty c ∷ [])) × (o' ≡ o)
TimedSays s most o o' OutFull = (c : Cache) × (p : P) × Reads s c p × ((bs cs : List Bool) (n m : ℕ) → Longest c p n bs → Shortest c p m cs → length o < length bs + length cs) × (o' ≡ o)
TimedSays s most o o' NoProgram = ((c : Cache) (p : P) → Reads s c p → ⊥) × (o' ≡ o)
TimedSays s most o o' Few = o' ≡ o

-- the theorems that the call promises together with its answer
pub record Parts : Type 0 where
  pub p1 : OneReading
  pub p2 : StaysSound
  pub p3 : AllStates
  pub p4 : WiderHolds
  pub p5 : WiderNeverSlower
  pub p6 : EmptyIsWorst

-- w words are lent to work in: 4,096, 8 for each word of s and 2,048 for each state allowed and one more are enough
pub record TimedPost (s : List ℕ) (most w : ℕ) (o o' : List ℕ) (r : Timed) : Type 0 where
  pub says : TimedSays s most o o' r
  pub parts : Parts
  pub few : (w < 4096 + (8 * length s + 2048 * (most + 1))) ↔ (r ≡ Few)
