-- What is promised of the call that computes the table behind a program.
use Rattle.std.specs.Prelude.{◌≡◌, ℕ, ◌-◌, ◌*◌, ◌<◌, ◌≤◌, max, ◌⊎◌, List, [], ◌∷◌, length, take, drop, Ok, Err, Result}
use Rattle.cycles.specs.Code.{P, Cache, empty}
use Rattle.cycles.specs.Plays.{widest}
use Rattle.cycles.specs.Reading.{Breaks}
use Rattle.cycles.specs.Rows.{Reads}
use Rattle.cycles.specs.Says.{AllStates}
use Rattle.trails.specs.declared.telling.Telling.{Telling}
use Rattle.trails.specs.Trails.{record_of}
use Rattle.tables.specs.Best.{Val, Both, Table, told, start, TableExact, NeedWithin, BestTold}
use Rattle.tables.specs.Showing.{Matches, Shows, width}
use Rattle.tables.specs.Tables.{run, need}
use Rattle.engine.specs.declared.tabulate.Tabulated.{Tabulated}
use Rattle.engine.specs.declared.tabulate.TabulateError.{TabulateError}
use Rattle.engine.specs.declared.tabulate.TabulateError.TheVariants.{NoProgram, Few, Crowded}

-- the table behind a program, from the empty cache
abbrev pub behind : Cache → P → Table
behind c p = run told c p [] (start c ∷ [])

-- the entries that there must be room for: the one of the start, and all that the program asks for
abbrev pub asked : Cache → P → ℕ
asked c p = max 1 (need told c p [] (start c ∷ []))

-- what is recorded of a play's choices from number a on is a front of them, all of them or at least 32
abbrev pub RecordsFront : Type 0
RecordsFront = (a : ℕ) (s : List ℕ) (t : Telling) (v : Val) → Matches a s t v → (record_of s t ≡ take t.recorded (drop a v.choices)) × ((t.recorded ≡ length v.choices - a) ⊎ (32 ≤ t.recorded))

-- of words ws with room for so many entries: the slots ys and the store st show the table behind the program exactly if there is room for what is asked
abbrev pub TabulateSays : List ℕ → Both ℕ → ℕ → ℕ → List ℕ → List ℕ → Result Tabulated TabulateError → Type 0
TabulateSays ws a most lent ys st (Ok t) = (c : Cache) × (p : P) × Reads ws c p × (asked c p ≤ most) × (t.entries ≡ length (behind c p)) × (t.entries ≤ most) × (t.top ≤ length st) × Shows c a (take t.top st) t.entries ys (behind c p)
TabulateSays ws a most lent ys st (Err Crowded) = (c : Cache) × (p : P) × Reads ws c p × (most < asked c p) × (most < widest c p [] (empty c ∷ []))
TabulateSays ws a most lent ys st (Err (NoProgram f)) = Breaks ws f.place f.rule × ((c : Cache) (p : P) → Reads ws c p → ⊥)
TabulateSays ws a most lent ys st (Err Few) = (c : Cache) × (p : P) × Reads ws c p × (lent < width c * most)

-- what the call promises, with the theorems about tables
pub record TabulatePost (ws : List ℕ) (a : Both ℕ) (most lent : ℕ) (ys st : List ℕ) (r : Result Tabulated TabulateError) : Type 0 where
  pub says : TabulateSays ws a most lent ys st r
  pub states : AllStates
  pub exact : TableExact
  pub within : NeedWithin
  pub best : BestTold
  pub records : RecordsFront
