-- Choices as text.
use Rattle.std.specs.Prelude.{◌≡◌, ℕ, ◌+◌, min, Bool, true, false, ◌||◌, cond, List, [], ◌∷◌, ◌++◌, ◌==◌, length, nat_lt, vec_items, Ok, Err, Result}
use Rattle.std.specs.Char.{is_ascii_whitespace}
use Rattle.console.specs.declared.choices.BadChoice.{BadChoice}
use Rattle.console.specs.declared.choices.BadChoice.TheVariants.{NoChoice, TooMany}
use Rattle.console.specs.declared.choices.ChoiceText.{ChoiceText}
use Rattle.console.specs.declared.choices.Position.{Position}
use Rattle.console.specs.declared.failure.Failure.{Failure}
use Rattle.console.specs.declared.failure.Failure.TheVariants.{Usage, NoFile, File, Text, Words, Choice, Play, Output, Memory}

-- the choice that a byte is: 1 for the first, 0 for the second, and none for white space
abbrev pub picked : ℕ → List Bool
picked b = cond (b == 49) (true ∷ []) (cond (b == 48) (false ∷ []) [])

abbrev pub choices_in : List ℕ → List Bool
choices_in [] = []
choices_in (b ∷ bs) = picked b ++ choices_in bs

-- the position behind a byte: a newline begins a line, from column 1; each number goes up to 2^64 - 1
abbrev pub behind : Position → ℕ → Position
behind p b = cond (b == 10) (record { line = min (p.line + 1) 18446744073709551615; column = 1 }) (record { line = p.line; column = min (p.column + 1) 18446744073709551615 })

-- what has been read: the choices, and the position that is next
pub record Chosen : Type 0 where
  pub choices : List Bool
  pub position : Position

abbrev pub empty : Chosen
empty = record { choices = []; position = record { line = 1; column = 1 } }

-- what a text of choices shows
abbrev pub shown : ChoiceText → Chosen
shown t = record { choices = vec_items t.choices; position = t.position }

abbrev pub and_byte : Chosen → ℕ → Chosen
and_byte t b = record { choices = t.choices ++ picked b; position = behind t.position b }

-- one byte, where there is room for so many choices: a digit is a choice, white space is gone over, and all else is refused
unfoldable pub step : ℕ → Chosen → ℕ → Result Chosen BadChoice
step most t b = cond (b == 48 || b == 49) (cond (nat_lt (length t.choices) most) (Ok (and_byte t b)) (Err (TooMany most))) (cond (is_ascii_whitespace b) (Ok (and_byte t b)) (Err (NoChoice b)))

-- where reading stops: what was read before the byte that is refused, and why it is refused
pub record Stop : Type 0 where
  pub upto : Chosen
  pub flaw : BadChoice

abbrev pub go_on : Result Chosen BadChoice → Chosen → (Chosen → Result Chosen Stop) → Result Chosen Stop
go_on (Ok u) t k = k u
go_on (Err f) t k = Err (record { upto = t; flaw = f })

-- all bytes
unfoldable pub reads : ℕ → List ℕ → Chosen → Result Chosen Stop
reads most [] t = Ok t
reads most (b ∷ bs) t = go_on (step most t b) t (λ u. reads most bs u)

-- what a call makes of one byte: what `step` makes of it, or nothing at all
abbrev pub Takes : Result (Unit {0}) BadChoice → ℕ → ℕ → Chosen → Chosen → Type 0
Takes (Ok x) most b t u = step most t b ≡ Ok u
Takes (Err f) most b t u = (step most t b ≡ Err f) × (u ≡ t)

-- what a call makes of many bytes
abbrev pub Fed : Result (Unit {0}) BadChoice → Chosen → Result Chosen Stop → Type 0
Fed (Ok x) u out = out ≡ Ok u
Fed (Err f) u out = out ≡ Err (record { upto = u; flaw = f })

-- what is told of a text that is there already: its choices, or the position of the byte that is refused, and why; or there is no memory for them
abbrev pub Typed : ℕ → List ℕ → Result ChoiceText Failure → Type 0
Typed most bs (Ok t) = reads most bs empty ≡ Ok (shown t)
Typed most bs (Err (Choice position flaw)) = (choices : List Bool) × (reads most bs empty ≡ Err (record { upto = record { choices = choices; position = position }; flaw = flaw }))
Typed most bs (Err Memory) = Unit {0}
Typed most bs (Err (Usage what word)) = ⊥
Typed most bs (Err NoFile) = ⊥
Typed most bs (Err (File file error)) = ⊥
Typed most bs (Err (Text place flaw)) = ⊥
Typed most bs (Err (Words place rule)) = ⊥
Typed most bs (Err (Play file given error)) = ⊥
Typed most bs (Err (Output error)) = ⊥
