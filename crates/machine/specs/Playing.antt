-- What is told of a program that stands in words and is played.
use Rattle.std.specs.Prelude.{◌≡◌, ℕ, ◌+◌, ◌*◌, ◌<◌, ◌≤◌, Bool, true, false, ◌&&◌, List, [], ◌∷◌, ◌++◌, length, drop, Some, None, Ok, Err, Result, Option as StdOption}
use Rattle.std.proofs.Math.Option.{some, none}
use Rattle.cycles.specs.Code.{P, work, touch, seq, either, times, skip, Cache, St, empty}
use Rattle.cycles.specs.Plays.{At, play, Play}
use Rattle.cycles.specs.Reading.{Breaks, cache}
use Rattle.cycles.specs.Rows.{row, ok, amount, Reads}
use Rattle.cycles.specs.Says.{StaysSound, WiderHolds, WiderNeverSlower, EmptyIsWorst}
use Rattle.machine.specs.declared.player.Played.{Played}
use Rattle.machine.specs.declared.player.PlayError.{PlayError}
use Rattle.machine.specs.declared.player.PlayError.TheVariants.{NoProgram, FewCells, RanOut, LeftOver}
use Rattle.machine.specs.declared.observer.Event.{Event}
use Rattle.machine.specs.declared.player.Game.{Game}
use Rattle.machine.specs.declared.player.Place.{Place}
use Rattle.machine.specs.declared.rounds.Rounds.{Rounds}
use Rattle.machine.specs.Around.{around}
use Rattle.machine.specs.Cells.{state_of}
use Rattle.machine.specs.Telling.{Tells}
use Rattle.machine.specs.Trace.{trace, touch_event, sum_cycles}
use Rattle.machine.specs.declared.survey.Survey.{Survey}

-- a program stands at a place
pub record Stands (ws : List ℕ) (at : ℕ) : Type 0 where
  pub p : P
  pub rest : List ℕ
  pub is : drop at ws ≡ row p ++ rest
  pub within : at ≤ length ws

-- a program stands at the place where a play is, within the limits, and all that it may take fits
pub record Fit (ws : List ℕ) (loops : ℕ) (f : Place) (p : P) (rest : List ℕ) : Type 0 where
  pub is : drop f.at ws ≡ row p ++ rest
  pub within : f.at ≤ length ws
  pub fine : ok loops 0 p ≡ true
  pub room : f.time + 65535 * amount p < 18446744073709551616

-- a play can go on from f: a program stands there, no more choices are used than there are, and the cells xs are as many as the cache has ways
pub record Ready (g : Game) (loops : ℕ) (f : Place) (xs : List ℕ) : Type 0 where
  pub p : P
  pub rest : List ℕ
  pub fit : Fit g.words.now loops f p rest
  pub used : f.used ≤ length g.choices.now
  pub cells : g.cache.sets * g.cache.ways ≤ length xs

-- where a play is, as the definitions have it: the cells of its cache, and the choices that are not used yet
abbrev pub here : Cache → List Bool → Place → List ℕ → At
here c bs f xs = record { time = f.time; st = state_of c xs; choices = drop f.used bs }

-- one touch, told: the cells and the event behind it, and its cycles
pub record Observed (c : Cache) (w time : ℕ) (xs ys : List ℕ) (K L : List Event → Type 0) (n : ℕ) : Type 0 where
  pub after : state_of c ys ≡ Rattle.cycles.specs.Code.after c (state_of c xs) w
  pub cost : n ≡ Rattle.cycles.specs.Code.cost c (state_of c xs) w
  pub told : Tells K L (touch_event c w (record { time = time; st = state_of c xs; choices = [] }) ∷ [])

-- what comes of a program that is played from f, with the cells xs before and ys behind, and K and L what may have been told before and behind
abbrev pub Came : Cache → List ℕ → List Bool → P → Place → List ℕ → List ℕ → (List Event → Type 0) → (List Event → Type 0) → StdOption Place → Type 0
Came c rs bs p f xs ys K L (Some t) = (t.at ≡ f.at + length (row p)) × (play c p rs (here c bs f xs) ≡ some (here c bs t ys)) × Tells K L (trace c p rs (here c bs f xs)) × (t.used ≤ length bs)
Came c rs bs p f xs ys K L None = (play c p rs (here c bs f xs) ≡ none) × Tells K L (trace c p rs (here c bs f xs))

-- and so of whatever program stands there
abbrev pub Goes : Cache → List ℕ → ℕ → List Bool → List ℕ → Place → List ℕ → List ℕ → (List Event → Type 0) → (List Event → Type 0) → StdOption Place → Type 0
Goes c rs loops bs ws f xs ys K L r = (p : P) (rest : List ℕ) → Fit ws loops f p rest → Came c rs bs p f xs ys K L r

-- the same of a game, in the rounds of the loops around
abbrev pub Plays : Game → Rounds → Place → List ℕ → List ℕ → (List Event → Type 0) → (List Event → Type 0) → StdOption Place → Type 0
Plays g rs f xs ys K L r = Goes (cache g.cache) (around rs.at rs.depth) rs.depth g.choices.now g.words.now f xs ys K L r

-- a program that does nothing, whatever the rounds and the choices
abbrev pub still : P → Bool
still (work n) = false
still (touch b ks) = false
still (seq p q) = still p && still q
still (either p q) = false
still (times n p) = still p
still skip = true

-- of whatever program stands at the place: where it ends, and whether it does nothing
pub record Surveyed (ws : List ℕ) (at : ℕ) (s : Survey) : Type 0 where
  pub ends : (p : P) (rest : List ℕ) → drop at ws ≡ row p ++ rest → s.end ≡ at + length (row p)
  pub does : (p : P) (rest : List ℕ) → drop at ws ≡ row p ++ rest → s.quiet ≡ still p
  pub within : s.end ≤ length ws

-- where every play begins
abbrev pub begin : Cache → List Bool → At
begin c bs = record { time = 0; st = empty c; choices = bs }

-- what is told of a play of the words ws by the choices bs, with w words lent, and K and L what the observer may have been told before and behind: the play is the definitions' play, and what is told is its trace
abbrev pub PlaySays : List ℕ → List Bool → ℕ → (List Event → Type 0) → (List Event → Type 0) → Result Played PlayError → Type 0
PlaySays ws bs w K L (Ok d) = (c : Cache) × (p : P) × Reads ws c p × ((t : St) × Play c p (empty c) bs d.cycles t) × (d.choices ≡ length bs) × Tells K L (trace c p [] (begin c bs)) × (sum_cycles (trace c p [] (begin c bs)) ≡ d.cycles)
PlaySays ws bs w K L (Err (LeftOver d)) = (c : Cache) × (p : P) × Reads ws c p × ((t : St) × (play c p [] (begin c bs) ≡ some (record { time = d.cycles; st = t; choices = drop d.choices bs }))) × (d.choices < length bs) × Tells K L (trace c p [] (begin c bs)) × (sum_cycles (trace c p [] (begin c bs)) ≡ d.cycles)
PlaySays ws bs w K L (Err RanOut) = (c : Cache) × (p : P) × Reads ws c p × (play c p [] (begin c bs) ≡ none) × Tells K L (trace c p [] (begin c bs))
PlaySays ws bs w K L (Err (NoProgram f)) = Breaks ws f.place f.rule × ((c : Cache) (p : P) → Reads ws c p → ⊥) × Tells K L []
PlaySays ws bs w K L (Err FewCells) = (c : Cache) × (p : P) × Reads ws c p × (w < c.sets * c.ways) × Tells K L []

-- what the call promises, with the theorems about caches
pub record PlayPost (ws : List ℕ) (bs : List Bool) (w : ℕ) (K L : List Event → Type 0) (r : Result Played PlayError) : Type 0 where
  pub says : PlaySays ws bs w K L r
  pub sound : StaysSound
  pub holds : WiderHolds
  pub quicker : WiderNeverSlower
  pub worst : EmptyIsWorst
