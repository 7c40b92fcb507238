-- What slots in lent words, with the store of their trails, show: the entries of a table.
use Rattle.std.specs.Prelude.{◌≡◌, ℕ, ◌+◌, ◌*◌, ◌<◌, Bool, List, length, take, drop}
use Rattle.cycles.specs.Code.{pick, Cache}
use Rattle.machine.specs.Cells.{state_of, TidyCells}
use Rattle.trails.specs.declared.telling.Telling.{Telling}
use Rattle.trails.specs.Trails.{Sound, Tells, telling_of}
use Rattle.tables.specs.declared.slot.Extreme.{Extreme}
use Rattle.tables.specs.declared.slot.Extreme.TheVariants.{Longest, Shortest}
use Rattle.tables.specs.declared.slot.Firsts.{Firsts}
use Rattle.tables.specs.Best.{Val, Both, Table, Room, longer_by, shorter_by}
use Rattle.tables.specs.Each.{Each}
use Rattle.tables.specs.Slots.{chunks, chunk}
use Rattle.tables.specs.Tables.{Entry}

-- the words of a state's cells, and of a slot: the cells and two tellings of seven words
abbrev pub cells : Cache → ℕ
cells c = c.sets * c.ways

abbrev pub width : Cache → ℕ
width c = c.sets * c.ways + 14

-- from which choice on each of the two tellings records
abbrev pub firsts_of : Firsts → Both ℕ
firsts_of f = record { long = f.long.0; short = f.short.0 }

-- a telling has a value's time, and its record is of the value's choices from number a on, over the store s
pub record Matches (a : ℕ) (s : List ℕ) (t : Telling) (v : Val) : Type 0 where
  pub time : t.time ≡ v.time
  pub sound : Sound a s t
  pub tells : Tells a s t v.choices

-- a slot shows an entry
pub record Shown (c : Cache) (a : Both ℕ) (s ws : List ℕ) (e : Entry (Both Val)) : Type 0 where
  pub tidy : TidyCells c ws
  pub state : state_of c ws ≡ e.st
  pub long : Matches a.long s (telling_of (drop (cells c) ws)) e.val.long
  pub short : Matches a.short s (telling_of (drop (cells c + 7) ws)) e.val.short

-- the first n slots show a table, in order
abbrev pub Shows : Cache → Both ℕ → List ℕ → ℕ → List ℕ → Table → Type 0
Shows c a s n xs T = Each (Shown c a s) (chunks (width c) n xs) T

-- they show some table, whose tellings have room for k works, touches and choices more
pub record Showing (c : Cache) (a : Both ℕ) (s : List ℕ) (n : ℕ) (xs : List ℕ) (k : ℕ) : Type 0 where
  pub T : Table
  pub shows : Shows c a s n xs T
  pub room : Room k T

-- so many cycles later
abbrev pub later : ℕ → Telling → Telling
later n t = record { time = t.time + n; count = t.count; parent = t.parent; head = t.head; recorded = t.recorded }

-- a telling is at least as good as another: for the longest time, and for the shortest
abbrev pub as_good : Extreme → Telling → Telling → Bool
as_good Longest t u = longer_by t.time t.count u.time u.count
as_good Shortest t u = shorter_by t.time t.count u.time u.count

abbrev pub better_of : Extreme → Telling → Telling → Telling
better_of x t u = pick (as_good x t u) t u

-- a telling that shows some value takes one choice more
pub record Notable (a : ℕ) (s : List ℕ) (t : Telling) : Type 0 where
  pub v : Val
  pub matches : Matches a s t v
  pub counts : length v.choices + 1 < 18446744073709551616

-- the words from a place on, seven of them a telling, with another telling in its place
pub record Put (at : ℕ) (ws ws' : List ℕ) (t : Telling) : Type 0 where
  pub before : take at ws' ≡ take at ws
  pub telling : telling_of (drop at ws') ≡ t
  pub behind : drop (at + 7) ws' ≡ drop (at + 7) ws

-- a slot of w cells with these tellings in place of its own
pub record Retold (w : ℕ) (ws ws' : List ℕ) (long short : Telling) : Type 0 where
  pub same : take w ws' ≡ take w ws
  pub longest : telling_of (drop w ws') ≡ long
  pub shortest : telling_of (drop (w + 7) ws') ≡ short

-- each of the first n slots has room for the cycles of one work or touch more
abbrev pub Spendable : Cache → ℕ → List ℕ → Type 0
Spendable c n xs = (k : ℕ) → k < n → ((telling_of (drop (cells c) (chunk (width c) k xs))).time + 65535 < 18446744073709551616) × ((telling_of (drop (cells c + 7) (chunk (width c) k xs))).time + 65535 < 18446744073709551616)
