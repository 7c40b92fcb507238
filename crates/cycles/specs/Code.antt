-- Programs, and the cache that they run on.
use Rattle.std.specs.Prelude.{ℕ, zero, suc, ◌+◌, ◌*◌, ◌/◌, ◌%◌, Bool, true, false, ◌||◌, List, [], ◌∷◌, take, replicate, ◌==◌}
use Rattle.std.proofs.Math.Option.{Option, some, none}

abbrev pub pick : {A : Type 0} → Bool → A → A → A
pick true a b = a
pick false a b = b

abbrev pub opt : {A C : Type 0} → Option A → C → (A → C) → C
opt none c f = c
opt (some x) c f = f x

abbrev pub nth : {A : Type 0} → List A → ℕ → Option A
nth [] n = none
nth (x ∷ xs) zero = some x
nth (x ∷ xs) (suc n) = nth xs n

abbrev pub put : {A : Type 0} → List A → ℕ → A → List A
put [] n v = []
put (x ∷ xs) zero v = v ∷ xs
put (x ∷ xs) (suc n) v = x ∷ put xs n v

-- a program: work of so many cycles; a touch of one word of memory, whose address is a base and, for each loop around it from the innermost, a step times the round that the loop is in;
-- two programs one after the other; one of two, by a choice; a loop of so many rounds of one, from round 0; or nothing
pub data P : Type 0 where
  work : ℕ → P
  touch : ℕ → List ℕ → P
  seq : P → P → P
  either : P → P → P
  times : ℕ → P → P
  skip : P

-- a cache: how many sets, how many ways (lines that fit) in each set, how many words in a line, the cycles of a hit and of a miss;
-- used is true for LRU, where the line used last stays longest, and false for FIFO, where the line that came last does
pub record Cache : Type 0 where
  pub sets : ℕ
  pub ways : ℕ
  pub line : ℕ
  pub hit : ℕ
  pub miss : ℕ
  pub used : Bool

-- a state of the cache: for each set the numbers of the lines in it, the one that is evicted last first
abbrev pub St : Type 0
St = List (List ℕ)

abbrev pub empty : Cache → St
empty c = replicate c.sets []

abbrev pub among : ℕ → List ℕ → Bool
among x [] = false
among x (y ∷ ys) = x == y || among x ys

abbrev pub without : ℕ → List ℕ → List ℕ
without x [] = []
without x (y ∷ ys) = pick (x == y) ys (y ∷ without x ys)

-- the line and the set that an address belongs to
abbrev pub line_of : Cache → ℕ → ℕ
line_of c a = a / c.line

abbrev pub set_of : Cache → ℕ → ℕ
set_of c a = line_of c a % c.sets

abbrev pub lines_at : Cache → St → ℕ → List ℕ
lines_at c s a = opt (nth s (set_of c a)) [] (λ l. l)

-- whether touching the address is a hit
abbrev pub there : Cache → St → ℕ → Bool
there c s a = among (line_of c a) (lines_at c s a)

-- a line that comes in is the newest, and evicts the oldest if all ways are taken
abbrev pub come : Cache → ℕ → List ℕ → List ℕ
come c l ls = take c.ways (l ∷ ls)

-- the state after an address is touched: a hit makes the line the newest under LRU and changes nothing under FIFO
abbrev pub after : Cache → St → ℕ → St
after c s a = pick (there c s a) (pick c.used (put s (set_of c a) (line_of c a ∷ without (line_of c a) (lines_at c s a))) s) (put s (set_of c a) (come c (line_of c a) (lines_at c s a)))

-- the cycles that touching the address takes
abbrev pub cost : Cache → St → ℕ → ℕ
cost c s a = pick (there c s a) c.hit c.miss

-- an address: the base, and for each step that step times the round of its loop, innermost first
abbrev pub place : ℕ → List ℕ → List ℕ → ℕ
place b [] rs = b
place b (k ∷ ks) [] = b
place b (k ∷ ks) (r ∷ rs) = place (b + k * r) ks rs
