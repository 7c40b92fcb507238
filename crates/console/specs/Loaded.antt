-- What is told of the words that were loaded.
use Rattle.std.specs.Prelude.{◌≡◌, ℕ, ◌+◌, min, Ok, Err, vec_items, Result}
use Rattle.std.specs.Option.{unwrap_or}
use Rattle.cycles.specs.Code.{P, Cache}
use Rattle.cycles.specs.Rows.{Reads}
use Rattle.cycles.specs.Reading.{cache, Breaks}
use Rattle.listing.specs.Lines.{line_of, newlines_in}
use Rattle.listing.specs.Text.{Text}
use Rattle.console.specs.declared.failure.Failure.{Failure}
use Rattle.console.specs.declared.failure.Failure.TheVariants.{Usage, NoFile, File, Text as TextFailure, Words, Choice, Play, Output, Memory}
use Rattle.console.specs.declared.source.Program.{Program}

-- a program with exactly the words of the text; or, exactly where they are none, the word that breaks a rule, from 1, and its line (for a word that is missing the last)
abbrev pub Told : Text → Result Program Failure → Type 0
Told t (Ok p) = (vec_items p.words ≡ t.words) × ((q : P) × Reads t.words (cache p.cache) q)
Told t (Err (Words place rule)) = ((c : Cache) (q : P) → Reads t.words c q → ⊥) × ((k : ℕ) × Breaks t.words k rule × (place.word ≡ min (k + 1) 18446744073709551615) × (place.line ≡ unwrap_or (line_of t.marks k) (newlines_in t.marks + 1)))
Told t (Err (Usage what word)) = ⊥
Told t (Err NoFile) = ⊥
Told t (Err (File file error)) = ⊥
Told t (Err (TextFailure place flaw)) = ⊥
Told t (Err (Choice position flaw)) = ⊥
Told t (Err (Play file given error)) = ⊥
Told t (Err (Output error)) = ⊥
Told t (Err Memory) = ⊥
