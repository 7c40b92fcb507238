-- What is told of a play in its last line.
use Rattle.std.specs.Prelude.{◌≡◌, ℕ, Bool, List, [], length, Ok, Err, Result}
use Rattle.cycles.specs.Code.{P, Cache, St, empty}
use Rattle.cycles.specs.Plays.{Play}
use Rattle.cycles.specs.Rows.{Reads}
use Rattle.machine.specs.Counts.{Counted}
use Rattle.machine.specs.declared.player.PlayError.{PlayError}
use Rattle.machine.specs.declared.tally.Tally.{Tally}
use Rattle.machine.specs.Playing.{PlaySays, begin}
use Rattle.machine.specs.Trace.{trace}
use Rattle.console.specs.declared.trace.Total.{Total}

-- the cycles of the definitions' play of the words ws by all the choices bs, and the counts of its trace; or why there is no such play, with cells for any cache
abbrev pub Totals : List ℕ → List Bool → Result Total PlayError → Type 0
Totals ws bs (Ok t) = (c : Cache) × (p : P) × Reads ws c p × ((s : St) × Play c p (empty c) bs t.played.cycles s) × (t.played.choices ≡ length bs) × Counted t.tally (trace c p [] (begin c bs))
Totals ws bs (Err e) = (t : Tally) × (u : Tally) × PlaySays ws bs 512 (Counted t) (Counted u) (Err e)
