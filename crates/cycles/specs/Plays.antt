-- What a program takes, by the choices that are made; and all states that plays can come to.
use Rattle.std.specs.Prelude.{◌≡◌, ℕ, zero, suc, ◌+◌, max, Bool, true, false, ◌&&◌, ◌||◌, List, [], ◌∷◌, length, ◌==◌}
use Rattle.std.proofs.Math.Option.{Option, some, none}
use Rattle.cycles.specs.Code.{pick, P, work, touch, seq, either, times, skip, Cache, St, after, cost, place}

-- where a play is: the cycles so far, the state of the cache, the choices not yet used
pub record At : Type 0 where
  pub time : ℕ
  pub st : St
  pub choices : List Bool

abbrev pub on : Option At → (At → Option At) → Option At
on none f = none
on (some a) f = f a

abbrev pub spend : ℕ → At → At
spend n a = record { time = a.time + n; st = a.st; choices = a.choices }

abbrev pub choose : List Bool → (Bool → List Bool → Option At) → Option At
choose [] f = none
choose (b ∷ bs) f = f b bs

abbrev pub left : At → List Bool → At
left a bs = record { time = a.time; st = a.st; choices = bs }

abbrev pub which : Bool → (At → Option At) → (At → Option At) → At → Option At
which true f g = f
which false f g = g

-- rounds from number i on, one after the other
abbrev pub rounds : ℕ → ℕ → (ℕ → At → Option At) → At → Option At
rounds zero i f a = some a
rounds (suc n) i f a = on (f i a) (rounds n (suc i) f)

-- the play of a program in the rounds rs of the loops around it, innermost first; none where the choices run out
abbrev pub play : Cache → P → List ℕ → At → Option At
play c (work n) rs a = some (spend n a)
play c (touch b ks) rs a = let w = place b ks rs in some (record { time = a.time + cost c a.st w; st = after c a.st w; choices = a.choices })
play c (seq p q) rs a = on (play c p rs a) (play c q rs)
play c (either p q) rs a = choose a.choices (λ b bs. which b (play c p rs) (play c q rs) (left a bs))
play c (times n p) rs a = rounds n 0 (λ i. play c p (i ∷ rs)) a
play c skip rs a = some a

-- a whole play: from state s the choices bs, all of them used up, take n cycles and come to state t
abbrev pub Play : Cache → P → St → List Bool → ℕ → St → Type 0
Play c p s bs n t = play c p [] (record { time = 0; st = s; choices = bs }) ≡ some (record { time = n; st = t; choices = [] })

-- all states that can stand behind a program, each once (through);
-- and the most that are kept anywhere on the way (widest): those that stand there, and for each either around it those before it, or behind its first branch
abbrev pub same_l : List ℕ → List ℕ → Bool
same_l [] [] = true
same_l [] (y ∷ ys) = false
same_l (x ∷ xs) [] = false
same_l (x ∷ xs) (y ∷ ys) = x == y && same_l xs ys

abbrev pub same_s : St → St → Bool
same_s [] [] = true
same_s [] (y ∷ ys) = false
same_s (x ∷ xs) [] = false
same_s (x ∷ xs) (y ∷ ys) = same_l x y && same_s xs ys

abbrev pub has : List St → St → Bool
has [] s = false
has (t ∷ ts) s = same_s t s || has ts s

abbrev pub both : List St → List St → List St
both [] ts = ts
both (s ∷ ss) ts = pick (has ts s) (both ss ts) (s ∷ both ss ts)

abbrev pub all_after : Cache → ℕ → List St → List St
all_after c w [] = []
all_after c w (s ∷ ss) = both (after c s w ∷ []) (all_after c w ss)

abbrev pub loop : ℕ → ℕ → (ℕ → List St → List St) → List St → List St
loop zero i f ss = ss
loop (suc n) i f ss = loop n (suc i) f (f i ss)

abbrev pub through : Cache → P → List ℕ → List St → List St
through c (work n) rs ss = ss
through c (touch b ks) rs ss = all_after c (place b ks rs) ss
through c (seq p q) rs ss = through c q rs (through c p rs ss)
through c (either p q) rs ss = both (through c p rs ss) (through c q rs ss)
through c (times n p) rs ss = loop n 0 (λ i. through c p (i ∷ rs)) ss
through c skip rs ss = ss

abbrev pub most_loop : ℕ → ℕ → (ℕ → List St → List St) → (ℕ → List St → ℕ) → List St → ℕ
most_loop zero i f g ss = length ss
most_loop (suc n) i f g ss = max (g i ss) (most_loop n (suc i) f g (f i ss))

abbrev pub widest : Cache → P → List ℕ → List St → ℕ
widest c (work n) rs ss = length ss
widest c (touch b ks) rs ss = max (length ss) (length (through c (touch b ks) rs ss))
widest c (seq p q) rs ss = max (widest c p rs ss) (widest c q rs (through c p rs ss))
widest c (either p q) rs ss = max (max (length ss + widest c p rs ss) (length (through c p rs ss) + widest c q rs ss)) (length (through c (either p q) rs ss))
widest c (times n p) rs ss = most_loop n 0 (λ i. through c p (i ∷ rs)) (λ i. widest c p (i ∷ rs)) ss
widest c skip rs ss = length ss
