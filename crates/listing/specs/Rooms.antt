-- The room that a listing keeps free.
use Rattle.std.specs.Prelude.{ℕ}
use Rattle.listing.specs.declared.text.Mode.{Mode}
use Rattle.listing.specs.declared.text.Mode.TheVariants.{Between, Number, Comment}

-- how many words are being read
abbrev pub begun : Mode → ℕ
begun Between = 0
begun (Number v) = 1
begun Comment = 0
