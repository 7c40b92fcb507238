-- Lines by their marks: true for a newline, false for a word, in the order of the text.
use Rattle.std.specs.Prelude.{◌≡◌, ℕ, zero, suc, ◌+◌, Bool, true, false, List, [], ◌∷◌, ◌++◌, Some, None, Option}
use Rattle.std.specs.Option.{option_map}

unfoldable pub newlines_in : List Bool → ℕ
newlines_in [] = 0
newlines_in (true ∷ ms) = suc (newlines_in ms)
newlines_in (false ∷ ms) = newlines_in ms

unfoldable pub words_in : List Bool → ℕ
words_in [] = 0
words_in (true ∷ ms) = words_in ms
words_in (false ∷ ms) = suc (words_in ms)

-- the line, from 1, on which the word number w, from 0, stands
unfoldable pub line_of : List Bool → ℕ → Option ℕ
line_of [] w = None
line_of (true ∷ ms) w = option_map suc (line_of ms w)
line_of (false ∷ ms) zero = Some 1
line_of (false ∷ ms) (suc w) = line_of ms w

-- the word behind the marks in front stands on the line behind their newlines
abbrev pub LineBehind : Type 0
LineBehind = (front rest : List Bool) → line_of (front ++ (false ∷ rest)) (words_in front) ≡ Some (newlines_in front + 1)
