-- The words of a telling tell it.
use Rattle.std.proofs.Common.{◌≡◌, ℕ, ◌+◌, ◌*◌, ◌/◌, ◌%◌, List, ◌++◌, arith}
use Rattle.trails.specs.declared.telling.Telling.{Telling}
use Rattle.trails.specs.Trails.{telling_of, telling_words}

halves : (n : ℕ) → n % 4294967296 + 4294967296 * (n / 4294967296) ≡ n
halves n = omega arith

pub telling_words_of : (t : Telling) (rest : List ℕ) → telling_of (telling_words t ++ rest) ≡ t
telling_words_of t rest = rw (halves t.time, halves t.count)
