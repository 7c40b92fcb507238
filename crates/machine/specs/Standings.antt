-- Where one pass over the ways of a set finds a line.
use Rattle.std.specs.Prelude.{◌≡◌, ℕ, suc, ◌<◌, false, List, length, take, slice_index}
use Rattle.cycles.specs.Code.{among}
use Rattle.machine.specs.declared.cache.Standing.{Standing}
use Rattle.machine.specs.declared.cache.Standing.TheVariants.{Held, Free, Full}
use Rattle.machine.specs.Cells.{lines_of}

-- the ways before a place are all taken, by other lines
pub record Passed (ws : List ℕ) (l place : ℕ) : Type 0 where
  pub taken : length (lines_of (take place ws)) ≡ place
  pub others : among l (lines_of (take place ws)) ≡ false

abbrev pub Stood : List ℕ → ℕ → Standing → Type 0
Stood ws l (Held place) = (place < length ws) × (slice_index ws place ≡ suc l) × Passed ws l place
Stood ws l Free = (among l (lines_of ws) ≡ false) × (length (lines_of ws) < length ws)
Stood ws l Full = (among l (lines_of ws) ≡ false) × (length (lines_of ws) ≡ length ws)
