-- The theorems about reading, as types.
use Rattle.std.specs.Prelude.{◌≡◌, ℕ, ◌^◌, ◌<◌, ◌≤◌, Bool, true, false, cond, List, [], ◌∷◌, ◌++◌, map, length, Ok, Err, decimal, Result, ◌≢◌}
use Rattle.listing.specs.declared.text.Mode.TheVariants.{Between}
use Rattle.listing.specs.declared.text.Room.{Room}
use Rattle.listing.specs.Text.{Text, Stop, empty, reads}

abbrev pub onward : Result Text Stop → (Text → Result Text Stop) → Result Text Stop
onward (Ok u) k = k u
onward (Err s) k = Err s

-- how a text is cut into pieces changes nothing
abbrev pub CutAnywhere : Type 0
CutAnywhere = (l : Room) (front rest : List ℕ) (t : Text) → reads l (front ++ rest) t ≡ onward (reads l front t) (λ u. reads l rest u)

-- words, each with a newline (true) or a space (false) behind it
abbrev pub Row : Type 0
Row = List (ℕ × Bool)

-- in decimal
abbrev pub written : Row → List ℕ
written [] = []
written (p ∷ ps) = decimal p.0 ++ (cond p.1 10 32 ∷ written ps)

abbrev pub marked : Row → List Bool
marked [] = []
marked (p ∷ ps) = false ∷ cond p.1 (true ∷ marked ps) (marked ps)

abbrev pub Small : Row → Type 0
Small [] = Unit {0}
Small (p ∷ ps) = (p.0 < 2 ^ 32) × Small ps

-- words that are written in decimal are read back as they were, if there is room for them
abbrev pub ReadBack : Type 0
ReadBack = (l : Room) (ps : Row) → Small ps → length ps ≤ l.words → length (marked ps) ≤ l.marks → reads l (written ps) empty ≡ Ok (record { words = map (λ p. p.0) ps; marks = marked ps; mode = Between })

-- bytes of one line
abbrev pub SameLine : List ℕ → Type 0
SameLine [] = Unit {0}
SameLine (b ∷ bs) = (b ≢ 10) × SameLine bs

-- a comment is as if it were not there, up to the newline that ends it
abbrev pub CommentsSkipped : Type 0
CommentsSkipped = (l : Room) (t : Text) (note rest : List ℕ) → t.mode ≡ Between → SameLine note → length t.marks < l.marks → reads l (35 ∷ (note ++ (10 ∷ rest))) t ≡ reads l (10 ∷ rest) t
