-- Slots: equal parts of lent words, one after the other.
use Rattle.std.specs.Prelude.{◌≡◌, ℕ, zero, suc, ◌+◌, ◌*◌, ◌<◌, List, [], ◌∷◌, ◌++◌, length, take, drop, ◌≢◌}

-- the first n slots of s words
abbrev pub chunks : ℕ → ℕ → List ℕ → List (List ℕ)
chunks s zero xs = []
chunks s (suc n) xs = take s xs ∷ chunks s n (drop s xs)

-- the k-th slot
abbrev pub chunk : ℕ → ℕ → List ℕ → List ℕ
chunk s k xs = take s (drop (s * k) xs)

-- words with others written over them from a on
abbrev pub over : List ℕ → ℕ → List ℕ → List ℕ
over xs a ys = take a xs ++ (ys ++ drop (a + length ys) xs)

-- no slot before the k-th begins with the words
abbrev pub Absent : List ℕ → ℕ → ℕ → List ℕ → Type 0
Absent xs s k ws = (i : ℕ) → i < k → take (length ws) (drop (s * i) xs) ≢ ws

-- the first of n slots that begins with the words is the k-th
pub record Found (xs : List ℕ) (s n : ℕ) (ws : List ℕ) (k : ℕ) : Type 0 where
  pub within : k < n
  pub here : take (length ws) (drop (s * k) xs) ≡ ws
  pub before : Absent xs s k ws
