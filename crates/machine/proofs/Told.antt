-- What a whole call tells of a play.
use Rattle.std.proofs.Common.{◌≡◌, ℕ, ◌<◌, ◌≤◌, Bool, List, [], length, drop, Some, None, Ok, Err, Result, sym, ap, ◌∙◌, arith}
use mathlib.Core.Option.{some}
use Rattle.std.proofs.lemmas.List.{drop_all}
use Rattle.cycles.specs.Code.{P, Cache, empty}
use Rattle.cycles.specs.Plays.{play}
use Rattle.cycles.specs.Rows.{Reads}
use Rattle.cycles.proofs.Whole.{parted}
use Rattle.machine.specs.declared.observer.Event.{Event}
use Rattle.machine.specs.declared.player.Place.{Place}
use Rattle.machine.specs.declared.player.Played.{Played}
use Rattle.machine.specs.declared.player.PlayError.{PlayError}
use Rattle.machine.specs.declared.player.PlayError.TheVariants.{LeftOver, RanOut}
use Rattle.machine.specs.Cells.{state_of}
use Rattle.machine.specs.Trace.{trace}
use Rattle.machine.specs.Playing.{Fit, Came, PlaySays, PlayPost, begin, here}
use Rattle.machine.proofs.Tellings.{tells_as}
use Rattle.machine.proofs.Stays.{stays_sound}
use Rattle.machine.proofs.Sums.{trace_sum}
use Rattle.machine.proofs.Wide.{wider_holds, wider_never_slower, empty_is_worst}

abbrev pub start : Place
start = record { at = 6; time = 0; used = 0 }

-- what is told of a play that came to a place
abbrev pub played : Place → Played
played t = record { cycles = t.time; choices = t.used }

-- the theorems come with every answer
pub promised : (ws : List ℕ) (bs : List Bool) (w : ℕ) (K L : List Event → Type 0) (r : Result Played PlayError) → PlaySays ws bs w K L r → PlayPost ws bs w K L r
promised ws bs w K L r s = record { says = s; sound = stays_sound; holds = wider_holds; quicker = wider_never_slower; worst = empty_is_worst }

-- the program behind the cache's words is ready
pub start_fit : (ws : List ℕ) (c : Cache) (p : P) → Reads ws c p → Fit ws 0 start p []
start_fit ws c p r =
    let b = parted ws c p r in
    record {
      is = b.all;
      within = omega (arith, ap length r.is);
      fine = b.fine;
      room = omega (arith, b.little);
    }

module _ (ws : List ℕ) (c : Cache) (p : P) (bs : List Bool) (w : ℕ) (xs ys : List ℕ) (K L : List Event → Type 0) (r : Reads ws c p) (e : state_of c xs ≡ empty c) where
  from_empty : here c bs start xs ≡ begin c bs
  from_empty = ap (λ s. record { time = 0; st = s; choices = bs }) e

  pub told_whole : (t : Place) → Came c [] bs p start xs ys K L (Some t) → length bs ≤ t.used → PlayPost ws bs w K L (Ok (played t))
  told_whole t m u =
      let came : play c p [] (begin c bs) ≡ some (record { time = t.time; st = state_of c ys; choices = [] }) = ap (play c p []) (sym from_empty) ∙ m.1 ∙ ap (λ ds. some (record { time = t.time; st = state_of c ys; choices = ds })) (drop_all t.used bs u) in
      promised ws bs w K L (Ok (played t)) (c, p, r, (state_of c ys, came), omega (arith, m.3), tells_as K L (ap (trace c p []) from_empty) m.2, omega (arith, trace_sum c p [] _ _ came))

  pub told_left_over : (t : Place) → Came c [] bs p start xs ys K L (Some t) → t.used < length bs → PlayPost ws bs w K L (Err (LeftOver (played t)))
  told_left_over t m u =
      let came : play c p [] (begin c bs) ≡ some (record { time = t.time; st = state_of c ys; choices = drop t.used bs }) = ap (play c p []) (sym from_empty) ∙ m.1 in
      promised ws bs w K L (Err (LeftOver (played t))) (c, p, r, (state_of c ys, came), u, tells_as K L (ap (trace c p []) from_empty) m.2, omega (arith, trace_sum c p [] _ _ came))

  pub told_ran_out : Came c [] bs p start xs ys K L None → PlayPost ws bs w K L (Err RanOut)
  told_ran_out m = promised ws bs w K L (Err RanOut) (c, p, r, ap (play c p []) (sym from_empty) ∙ m.0, tells_as K L (ap (trace c p []) from_empty) m.1)
