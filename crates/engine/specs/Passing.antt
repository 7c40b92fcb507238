-- What a pass over a program does to the table that lent words show.
use Rattle.std.specs.Prelude.{◌≡◌, ℕ, ◌+◌, ◌*◌, ◌<◌, ◌≤◌, true, List, ◌++◌, map, length, drop, Some, None, Option}
use Rattle.cycles.specs.Code.{P, either, Cache}
use Rattle.cycles.specs.Reading.{cache}
use Rattle.cycles.specs.Rows.{row, ok, amount}
use Rattle.machine.specs.Around.{around}
use Rattle.trails.specs.declared.store.Store.{Store}
use Rattle.trails.specs.Stores.{Grown, nodes}
use Rattle.tables.specs.Best.{Both, Table, Room, told}
use Rattle.tables.specs.Showing.{Shows, firsts_of, width}
use Rattle.tables.specs.Tables.{dedup, chose, run, need}
use Rattle.engine.specs.declared.pass.Fork.{Fork}
use Rattle.engine.specs.declared.pass.Pass.{Pass}
use Rattle.engine.specs.declared.pass.Point.{Point}

-- a program stands at a place, under so many loops
pub record Fit (ws : List ℕ) (loops at : ℕ) (p : P) (rest : List ℕ) : Type 0 where
  pub is : drop at ws ≡ row p ++ rest
  pub within : at ≤ length ws
  pub fine : ok loops 0 p ≡ true

-- what a pass has before it: the program that stands there, and the table that the slots xs show with the store st
pub record Task (c : Cache) (a : Both ℕ) (ws : List ℕ) (loops : ℕ) (f : Point) (xs : List ℕ) (st : Store) : Type 0 where
  pub p : P
  pub rest : List ℕ
  pub T : Table
  pub fit : Fit ws loops f.at p rest
  pub shows : Shows c a (nodes st) f.count xs T

-- all that the program may take fits, with so many choices more, and so many slots are lent
pub record Ready (c : Cache) (a : Both ℕ) (ws : List ℕ) (loops : ℕ) (f : Point) (slots more : ℕ) (xs : List ℕ) (st : Store) : Type 0 where
  pub task : Task c a ws loops f xs st
  pub room : Room (amount task.p + more) task.T
  pub count : f.count ≤ slots
  pub lent : width c * slots ≤ length xs

-- the program is done: the slots ys show the table behind it, and there were slots enough
pub record Ran (c : Cache) (a : Both ℕ) (rs : List ℕ) (p : P) (T : Table) (f t : Point) (slots : ℕ) (ys : List ℕ) (st st' : Store) : Type 0 where
  pub ends : t.at ≡ f.at + length (row p)
  pub grown : Grown st st'
  pub count : t.count ≤ slots
  pub enough : need told c p rs T ≤ slots
  pub shows : Shows c a (nodes st') t.count ys (run told c p rs T)

-- what comes of a program, of a table, and of so many slots: it is done exactly if they suffice, and the store has only grown either way
abbrev pub Came : Cache → Both ℕ → List ℕ → P → Table → Point → ℕ → List ℕ → Store → Store → Option Point → Type 0
Came c a rs p T f slots ys st st' (Some t) = Ran c a rs p T f t slots ys st st'
Came c a rs p T f slots ys st st' None = (slots < need told c p rs T) × Grown st st'

-- and so of whatever program stands there, and of whatever table is shown
abbrev pub Goes : Cache → Both ℕ → List ℕ → List ℕ → ℕ → Point → ℕ → List ℕ → List ℕ → Store → Store → Option Point → Type 0
Goes c a rs ws loops f slots xs ys st st' r = (k : Task c a ws loops f xs st) → Came c a rs k.p k.T f slots ys st st' r

-- the first branch of an either is done: the table behind it stands in front, each state once, and behind it the table before the either, each state once
pub record Forked (c : Cache) (a : Both ℕ) (rs ws : List ℕ) (loops slots : ℕ) (p : P) (T : Table) (f : Point) (t : Fork) (ys : List ℕ) (st st' : Store) : Type 0 where
  pub x : P
  pub y : P
  pub rest : List ℕ
  pub is : p ≡ either x y
  pub fit : Fit ws loops t.second.at y rest
  pub ends : f.at + length (row p) ≡ t.second.at + length (row y)
  pub grown : Grown st st'
  pub fits : t.first + t.second.count ≤ slots
  pub twice : length (dedup told.best T) + length (dedup told.best T) ≤ slots
  pub enough : length (dedup told.best T) + need told c x rs (map (chose told true) (dedup told.best T)) ≤ slots
  pub front : Shows c a (nodes st') t.first ys (dedup told.best (run told c x rs (map (chose told true) (dedup told.best T))))
  pub origin : Shows c a (nodes st') t.second.count (drop (width c * t.first) ys) (dedup told.best T)

abbrev pub Forks : Cache → Both ℕ → List ℕ → List ℕ → ℕ → ℕ → P → Table → Point → List ℕ → Store → Store → Option Fork → Type 0
Forks c a rs ws loops slots p T f ys st st' (Some t) = Forked c a rs ws loops slots p T f t ys st st'
Forks c a rs ws loops slots p T f ys st st' None = (slots < need told c p rs T) × Grown st st'

-- the same, by a pass
abbrev pub TaskOf : Pass → Point → List ℕ → Store → Type 0
TaskOf p f xs st = Task (cache p.cache) (firsts_of p.firsts) p.words.now p.rounds.depth f xs st

abbrev pub ReadyFor : Pass → Point → ℕ → ℕ → List ℕ → Store → Type 0
ReadyFor p f slots more xs st = Ready (cache p.cache) (firsts_of p.firsts) p.words.now p.rounds.depth f slots more xs st

abbrev pub CameOf : Pass → P → Table → Point → ℕ → List ℕ → Store → Store → Option Point → Type 0
CameOf p q T f slots ys st st' r = Came (cache p.cache) (firsts_of p.firsts) (around p.rounds.at p.rounds.depth) q T f slots ys st st' r

abbrev pub GoesOn : Pass → Point → ℕ → List ℕ → List ℕ → Store → Store → Option Point → Type 0
GoesOn p f slots xs ys st st' r = (k : TaskOf p f xs st) → CameOf p k.p k.T f slots ys st st' r

abbrev pub ForksOn : Pass → Point → ℕ → List ℕ → List ℕ → Store → Store → Option Fork → Type 0
ForksOn p f slots xs ys st st' r = (k : TaskOf p f xs st) → Forks (cache p.cache) (firsts_of p.firsts) (around p.rounds.at p.rounds.depth) p.words.now p.rounds.depth slots k.p k.T f ys st st' r
