-- The rounds of the loops around, as they are kept.
use Rattle.std.specs.Prelude.{ℕ, Bool, true, ◌&&◌, List, [], ◌∷◌, take, nat_lt}

-- the innermost first
abbrev pub around : List ℕ → ℕ → List ℕ
around at depth = take depth at

abbrev pub below : ℕ → List ℕ → Bool
below m [] = true
below m (x ∷ xs) = nat_lt x m && below m xs
