-- What observers are told.
use Rattle.std.specs.Prelude.{List, ◌++◌}
use Rattle.machine.specs.declared.observer.Event.{Event}

-- events ts are told: whatever list was told before, with ts behind it is told now
pub record Tells (K L : List Event → Type 0) (ts : List Event) : Type 0 where
  pub now_told : (es : List Event) → K es → L (es ++ ts)
