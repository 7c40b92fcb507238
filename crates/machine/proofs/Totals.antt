-- Counts of events, one event more.
use Rattle.std.proofs.Common.{◌≡◌, ℕ, ◌+◌, List, [], ◌∷◌, ◌++◌, arith}
use Rattle.machine.specs.declared.observer.Event.{Event}
use Rattle.machine.specs.Counts.{total}

pub total_push : (f : Event → ℕ) (es : List Event) (e : Event) → total f (es ++ (e ∷ [])) ≡ total f es + f e
total_push f [] e = omega arith
total_push f (d ∷ es) e = omega (arith, total_push f es e)
