-- Counts of events.
use Rattle.std.specs.Prelude.{◌≡◌, ℕ, ◌+◌, min, List, [], ◌∷◌}
use Rattle.cycles.specs.Code.{pick}
use Rattle.machine.specs.Cells.{is_hit}
use Rattle.machine.specs.declared.observer.Event.{Event}
use Rattle.machine.specs.declared.tally.Tally.{Tally}
use Rattle.machine.specs.declared.observer.Event.TheVariants.{Work, Touch}

abbrev pub hits_of : Event → ℕ
hits_of (Work t n) = 0
hits_of (Touch a) = pick (is_hit a.touched.outcome) 1 0

abbrev pub misses_of : Event → ℕ
misses_of (Work t n) = 0
misses_of (Touch a) = pick (is_hit a.touched.outcome) 0 1

abbrev pub work_of : Event → ℕ
work_of (Work t n) = n
work_of (Touch a) = 0

abbrev pub total : (Event → ℕ) → List Event → ℕ
total f [] = 0
total f (e ∷ es) = f e + total f es

abbrev pub hits_in : List Event → ℕ
hits_in es = total hits_of es

abbrev pub misses_in : List Event → ℕ
misses_in es = total misses_of es

-- cycles of work
abbrev pub work_in : List Event → ℕ
work_in es = total work_of es

-- the counts of a list of events, each up to 2^64 - 1
abbrev pub Counted : Tally → List Event → Type 0
Counted t es = (t.hits ≡ min (hits_in es) 18446744073709551615) × (t.misses ≡ min (misses_in es) 18446744073709551615) × (t.work ≡ min (work_in es) 18446744073709551615)
