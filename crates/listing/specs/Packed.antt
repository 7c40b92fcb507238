-- Marks as they are packed into words.
use Rattle.std.specs.Prelude.{ℕ, zero, suc, ◌/◌, ◌%◌, Bool, List, [], ◌∷◌, ◌++◌, drop, vec_items, ◌==◌}
use Rattle.listing.specs.declared.marks.Marks.{Marks}
use Rattle.listing.specs.declared.marks.packing.Iter.{Iter}

-- the last r bits of a word, the highest first
unfoldable pub bits_of : ℕ → ℕ → List Bool
bits_of zero h = []
bits_of (suc r) h = bits_of r (h / 2) ++ ((h % 2 == 1) ∷ [])

-- all bits of some words
unfoldable pub spread : List ℕ → List Bool
spread [] = []
spread (w ∷ ws) = bits_of 32 w ++ spread ws

unfoldable pub marks_of : Marks → List Bool
marks_of m = spread (vec_items m.full) ++ bits_of m.held m.head

-- the marks that are still to come
abbrev pub ahead : Iter → List Bool
ahead i = drop i.at (marks_of i.marks.now)
