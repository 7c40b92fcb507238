-- Which of two tellings is at least as good: an order in which any two compare.
use Rattle.std.proofs.Common.{◌≡◌, ℕ, ◌+◌, ◌<◌, true, false, arith, below_more}
use Rattle.trails.specs.declared.telling.Telling.{Telling}
use Rattle.tables.specs.declared.slot.Extreme.{Extreme}
use Rattle.tables.specs.declared.slot.Extreme.TheVariants.{Longest, Shortest}
use Rattle.tables.specs.Showing.{as_good}

pub good_itself : (x : Extreme) (t : Telling) → as_good x t t ≡ true
good_itself Longest t = grind arith
good_itself Shortest t = grind arith

pub good_chain : (x : Extreme) (t u v : Telling) → as_good x t u ≡ true → as_good x u v ≡ true → as_good x t v ≡ true
good_chain Longest t u v h k = grind arith
good_chain Shortest t u v h k = grind arith

pub good_total : (x : Extreme) (t u : Telling) → as_good x t u ≡ false → as_good x u t ≡ true
good_total Longest t u h = grind arith
good_total Shortest t u h = grind arith

-- the best of the first k, by the tellings f
abbrev pub Champion : Extreme → (ℕ → Telling) → ℕ → ℕ → Type 0
Champion x f b k = (j : ℕ) → j < k → as_good x (f b) (f j) ≡ true

pub champion_stays : (x : Extreme) (f : ℕ → Telling) (b k : ℕ) → Champion x f b k → as_good x (f b) (f k) ≡ true → Champion x f b (k + 1)
champion_stays x f b k c h = below_more (λ j. as_good x (f b) (f j) ≡ true) k c h

pub champion_falls : (x : Extreme) (f : ℕ → Telling) (b k : ℕ) → Champion x f b k → as_good x (f b) (f k) ≡ false → Champion x f k (k + 1)
champion_falls x f b k c h = below_more (λ j. as_good x (f k) (f j) ≡ true) k (λ j l. good_chain x (f k) (f b) (f j) (good_total x (f b) (f k) h) (c j l)) (good_itself x (f k))
