-- A table that lent words hold, pass after pass, and the play that one of its entries tells.
use Rattle.std.specs.Prelude.{◌≡◌, ℕ, ◌+◌, ◌*◌, ◌≤◌, List, length, take, drop}
use Rattle.cycles.specs.Code.{P, Cache}
use Rattle.cycles.specs.Reading.{cache}
use Rattle.cycles.specs.Rows.{Reads}
use Rattle.trails.specs.declared.telling.Telling.{Telling}
use Rattle.trails.specs.Trails.{telling_of}
use Rattle.tables.specs.declared.slot.Extreme.{Extreme}
use Rattle.tables.specs.declared.slot.Extreme.TheVariants.{Longest, Shortest}
use Rattle.tables.specs.Best.{Val, Both}
use Rattle.tables.specs.Each.{At}
use Rattle.tables.specs.Showing.{Shows, cells, width}
use Rattle.tables.specs.Tables.{Entry}
use Rattle.engine.specs.Tabulating.{asked, behind}
use Rattle.timing.specs.declared.retell.Teller.{Teller}

-- of two, the one for a longest or for a shortest time, and the other
abbrev pub side : {A : Type 0} → Extreme → Both A → A
side Longest b = b.long
side Shortest b = b.short

abbrev pub other : Extreme → Extreme
other Longest = Shortest
other Shortest = Longest

-- where the telling of an extreme stands in a slot
abbrev pub offset : Cache → Extreme → ℕ
offset c Longest = cells c
offset c Shortest = cells c + 7

-- the telling in the k-th slot
abbrev pub told_at : Cache → Extreme → ℕ → List ℕ → Telling
told_at c x k xs = telling_of (drop (width c * k + offset c x) xs)

-- words that are a program on this cache, with room for all that it asks for in so many words of slots
pub record Fitting (ws : List ℕ) (c : Cache) (most lent : ℕ) : Type 0 where
  pub p : P
  pub reads : Reads ws c p
  pub enough : asked c p ≤ most
  pub few : length (behind c p) ≤ most
  pub fits : width c * most ≤ lent

-- the slots hold the table behind the program, with the choices recorded from these numbers on
pub record Holding (c : Cache) (p : P) (a : Both ℕ) (xs st : List ℕ) : Type 0 where
  pub top : ℕ
  pub within : top ≤ length st
  pub shows : Shows c a (take top st) (length (behind c p)) xs (behind c p)

-- what can be told of the k-th entry: the slots hold its first choices, and there is just the room for all of them in so many bytes
pub record Tellable (ws : List ℕ) (c : Cache) (most : ℕ) (x : Extreme) (k bytes : ℕ) (xs st : List ℕ) : Type 0 where
  pub fitting : Fitting ws c most (length xs)
  pub e : Entry (Both Val)
  pub at : At e k (behind c fitting.p)
  pub long : bytes ≡ length (side x e.val).choices
  pub a : Both ℕ
  pub from : side x a ≡ 0
  pub holding : Holding c fitting.p a xs st

-- the same, by a teller
abbrev pub TellableBy : Teller → ℕ → List ℕ → List ℕ → Type 0
TellableBy t bytes xs st = Tellable t.words.now (cache t.cache) t.most t.extreme t.entry.0 bytes xs st

-- the same table is held, with the other tellings' choices recorded from the first on
pub record Still (c : Cache) (p : P) (x : Extreme) (xs st : List ℕ) : Type 0 where
  pub a : Both ℕ
  pub from : side (other x) a ≡ 0
  pub holding : Holding c p a xs st
