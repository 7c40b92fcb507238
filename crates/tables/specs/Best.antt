-- Tables that tell the longest and the shortest time to each state, with the choices that take it, and what they say of plays.
use Rattle.std.specs.Prelude.{◌≡◌, ℕ, ◌+◌, ◌*◌, ◌<◌, ◌≤◌, Bool, true, ◌&&◌, ◌||◌, List, [], ◌∷◌, ◌++◌, length, ◌==◌, nat_le, nat_lt}
use Rattle.cycles.specs.Code.{pick, P, Cache, St, empty}
use Rattle.cycles.specs.Plays.{Play, widest}
use Rattle.cycles.specs.Says.{Longest, Shortest}
use Rattle.tables.specs.Tables.{Entry, Values, run, need}

-- a time, and the choices that take it
pub record Val : Type 0 where
  pub time : ℕ
  pub choices : List Bool

abbrev pub plus : Val → ℕ → List Bool → Val
plus v n bs = record { time = v.time + n; choices = v.choices ++ bs }

-- by time and number of choices: more time, or as much with no more choices; and less time, or as much with no more choices
abbrev pub longer_by : ℕ → ℕ → ℕ → ℕ → Bool
longer_by t k u l = nat_lt u t || (t == u && nat_le k l)

abbrev pub shorter_by : ℕ → ℕ → ℕ → ℕ → Bool
shorter_by t k u l = nat_lt t u || (t == u && nat_le k l)

abbrev pub longer : Val → Val → Bool
longer v w = longer_by v.time (length v.choices) w.time (length w.choices)

abbrev pub shorter : Val → Val → Bool
shorter v w = shorter_by v.time (length v.choices) w.time (length w.choices)

-- one for the longest time, and one for the shortest
pub record Both (A : Type 0) : Type 0 where
  pub long : A
  pub short : A

abbrev pub both_of : {A B : Type 0} → (A → B) → Both A → Both B
both_of f b = record { long = f b.long; short = f b.short }

abbrev pub best_of : {A : Type 0} → (A → A → Bool) → (A → A → Bool) → Both A → Both A → Both A
best_of l s a b = record { long = pick (l a.long b.long) a.long b.long; short = pick (s a.short b.short) a.short b.short }

-- what is told of a state: a longest time and a shortest
abbrev pub told : Values (Both Val)
told = record { spend = λ n. both_of (λ v. plus v n []); note = λ b. both_of (λ v. plus v 0 (b ∷ [])); best = best_of longer shorter }

abbrev pub Table : Type 0
Table = List (Entry (Both Val))

pub data Has (e : Entry (Both Val)) : Table → Type 0 where
  first : {T : Table} → Has e (e ∷ T)
  later : {f : Entry (Both Val)} {T : Table} → Has e T → Has e (f ∷ T)

-- a telling has room for so many works, touches and choices more, and so has each of a table
abbrev pub Roomy : ℕ → Val → Type 0
Roomy k v = (v.time + 65535 * k < 18446744073709551616) × (length v.choices + k < 18446744073709551616)

abbrev pub Room : ℕ → Table → Type 0
Room k T = (e : Entry (Both Val)) → Has e T → Roomy k e.val.long × Roomy k e.val.short

-- where every play begins: the empty cache, with no time and no choice
abbrev pub start : Cache → Entry (Both Val)
start c = record { st = empty c; val = record { long = record { time = 0; choices = [] }; short = record { time = 0; choices = [] } } }

-- from the table before a program, the one behind it: each entry is come to by a play with exactly the choices and the time that it tells, and each play ends in a state whose entry is at least as good
abbrev pub ExactBy : (Both Val → Val) → (Val → Val → Bool) → Cache → P → Table → Type 0
ExactBy side better c p T =
    ((e : Entry (Both Val)) → Has e (run told c p [] T) → (f : Entry (Both Val)) × (bs : List Bool) × (n : ℕ) × Has f T × Play c p f.st bs n e.st × (side e.val ≡ plus (side f.val) n bs))
    × ((f : Entry (Both Val)) (bs : List Bool) (n : ℕ) (t : St) → Has f T → Play c p f.st bs n t → (e : Entry (Both Val)) × Has e (run told c p [] T) × (e.st ≡ t) × (better (side e.val) (plus (side f.val) n bs) ≡ true))

abbrev pub TableExact : Type 0
TableExact = (c : Cache) (p : P) (T : Table) → ExactBy (λ b. b.long) longer c p T × ExactBy (λ b. b.short) shorter c p T

-- no more entries are asked for than states can stand at once
abbrev pub NeedWithin : Type 0
NeedWithin = (c : Cache) (p : P) → need told c p [] (start c ∷ []) ≤ widest c p [] (empty c ∷ [])

-- there is an entry behind every program, and one that no entry is better than tells a longest time with the fewest choices that take it, or a shortest
abbrev pub BestTold : Type 0
BestTold = (c : Cache) (p : P) →
    (0 < length (run told c p [] (start c ∷ [])))
    × ((e : Entry (Both Val)) → Has e (run told c p [] (start c ∷ [])) → ((f : Entry (Both Val)) → Has f (run told c p [] (start c ∷ [])) → longer e.val.long f.val.long ≡ true) → Longest c p e.val.long.time e.val.long.choices × ((m : ℕ) (cs : List Bool) → Longest c p m cs → length e.val.long.choices ≤ length cs))
    × ((e : Entry (Both Val)) → Has e (run told c p [] (start c ∷ [])) → ((f : Entry (Both Val)) → Has f (run told c p [] (start c ∷ [])) → shorter e.val.short f.val.short ≡ true) → Shortest c p e.val.short.time e.val.short.choices × ((m : ℕ) (cs : List Bool) → Shortest c p m cs → length e.val.short.choices ≤ length cs))
