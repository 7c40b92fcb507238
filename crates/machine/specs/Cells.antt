-- A state of the cache as cells: for each set its ways, 0 for an empty way and else the line's number plus one, the line that is evicted last first.
use Rattle.std.specs.Prelude.{◌≡◌, ℕ, zero, suc, Bool, true, false, ◌||◌, List, [], ◌∷◌, length, take, drop, Some, None, Option, nat_lt}
use Rattle.machine.specs.declared.cache.Outcome.{Outcome}
use Rattle.machine.specs.declared.cache.Outcome.TheVariants.{Hit, Miss}
use Rattle.cycles.specs.Code.{pick, Cache, St, among, without, there, line_of, lines_at}

-- the lines of one set: its ways up to the first that is empty
unfoldable pub lines_of : List ℕ → List ℕ
lines_of [] = []
lines_of (zero ∷ xs) = []
lines_of (suc l ∷ xs) = l ∷ lines_of xs

-- the sets one after the other
unfoldable pub sets_of : ℕ → ℕ → List ℕ → St
sets_of zero w xs = []
sets_of (suc n) w xs = lines_of (take w xs) ∷ sets_of n w (drop w xs)

abbrev pub state_of : Cache → List ℕ → St
state_of c xs = sets_of c.sets c.ways xs

-- only empty ways follow an empty one, so that equal states are equal cells
unfoldable pub Blank : List ℕ → Type 0
Blank [] = Unit {0}
Blank (x ∷ xs) = (x ≡ 0) × Blank xs

unfoldable pub Tidy : List ℕ → Type 0
Tidy [] = Unit {0}
Tidy (zero ∷ xs) = Blank xs
Tidy (suc l ∷ xs) = Tidy xs

unfoldable pub TidySets : ℕ → ℕ → List ℕ → Type 0
TidySets zero w xs = Unit {0}
TidySets (suc n) w xs = Tidy (take w xs) × TidySets n w (drop w xs)

abbrev pub TidyCells : Cache → List ℕ → Type 0
TidyCells c xs = TidySets c.sets c.ways xs

-- the lines of a set of so many ways after a line of it is touched, by whether the cache is LRU
abbrev pub touched_set : ℕ → Bool → ℕ → List ℕ → List ℕ
touched_set ways used l ls = pick (among l ls) (pick used (l ∷ without l ls) ls) (take ways (l ∷ ls))

abbrev pub last_from : ℕ → List ℕ → ℕ
last_from l [] = l
last_from l (k ∷ ks) = last_from k ks

abbrev pub last_of : List ℕ → Option ℕ
last_of [] = None
last_of (l ∷ ls) = Some (last_from l ls)

abbrev pub is_hit : Outcome → Bool
is_hit Hit = true
is_hit (Miss evicted) = false

-- the line that goes out of a set of so many ways as a line of it is touched: none on a hit or if a way is free, and else the last
abbrev pub out_of : ℕ → ℕ → List ℕ → Option ℕ
out_of ways l ls = pick (among l ls || nat_lt (length ls) ways) None (last_of ls)

abbrev pub goes : Cache → St → ℕ → Option ℕ
goes c s a = out_of c.ways (line_of c a) (lines_at c s a)

-- what touching a line does to a set of so many ways, and what touching an address does
abbrev pub outcome_in : ℕ → ℕ → List ℕ → Outcome
outcome_in ways l ls = pick (among l ls) Hit (Miss (out_of ways l ls))

abbrev pub outcome_of : Cache → St → ℕ → Outcome
outcome_of c s a = pick (there c s a) Hit (Miss (goes c s a))
