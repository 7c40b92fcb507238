-- Tellings of plays: the choices that they record, in nodes of a store of words.
use Rattle.std.specs.Prelude.{◌≡◌, ℕ, zero, suc, ◌+◌, ◌-◌, ◌*◌, ◌/◌, ◌%◌, ◌^◌, ◌<◌, ◌≤◌, Bool, true, false, ◌⊎◌, List, [], ◌∷◌, ◌++◌, length, take, drop, ◌==◌, ◌≢◌, slice_index}
use Rattle.trails.specs.declared.telling.Telling.{Telling}

abbrev pub bit : Bool → ℕ
bit true = 1
bit false = 0

-- the last r bits of a word, the most significant first
unfoldable pub bits_of : ℕ → ℕ → List Bool
bits_of zero h = []
bits_of (suc r) h = bits_of r (h / 2) ++ ((h % 2 == 1) ∷ [])

-- what k full nodes of a store say, the last at p
unfoldable pub chain : List ℕ → ℕ → ℕ → List Bool
chain s zero p = []
chain s (suc k) p = chain s k (slice_index s p) ++ bits_of 32 (slice_index s (suc p))

-- the k nodes up to p lie in the store
unfoldable pub Lies : List ℕ → ℕ → ℕ → Type 0
Lies s zero p = Unit {0}
Lies s (suc k) p = (p + 2 ≤ length s) × Lies s k (slice_index s p)

-- of m choices, how many nodes are full, and how many choices the head holds
abbrev pub full : ℕ → ℕ
full m = (m - 1) / 32

abbrev pub held : ℕ → ℕ
held m = m - 32 * full m

-- the choices that a telling has recorded
abbrev pub record_of : List ℕ → Telling → List Bool
record_of s t = chain s (full t.recorded) t.parent ++ bits_of (held t.recorded) t.head

-- a telling that records from the choice number a on, over the store s
pub record Sound (a : ℕ) (s : List ℕ) (t : Telling) : Type 0 where
  pub few : t.recorded ≤ 4294967264
  pub within : t.recorded ≤ t.count - a
  pub small : t.head < 2 ^ held t.recorded
  pub lies : Lies s (full t.recorded) t.parent
  pub all : (t.recorded ≡ t.count - a) ⊎ ((32 ≤ t.recorded) × (t.recorded % 32 ≡ 0))

-- it tells the choices bs
pub record Tells (a : ℕ) (s : List ℕ) (t : Telling) (bs : List Bool) : Type 0 where
  pub count : t.count ≡ length bs
  pub front : record_of s t ≡ take t.recorded (drop a bs)

-- each telling that is sound over one store and tells choices there is sound over another, and tells the same
abbrev pub Keeps : List ℕ → List ℕ → Type 0
Keeps s s' = (a : ℕ) (t : Telling) (bs : List Bool) → Sound a s t → Tells a s t bs → Sound a s' t × Tells a s' t bs

-- what a telling tells, it goes on telling over any longer store with the same front
abbrev pub Stays : Type 0
Stays = (a top top' : ℕ) (st st' : List ℕ) (t : Telling) (bs : List Bool) → top ≤ top' → take top st' ≡ take top st → Sound a (take top st) t → Tells a (take top st) t bs → Sound a (take top' st') t × Tells a (take top' st') t bs

-- every choice from the number a on is recorded
abbrev pub Whole : ℕ → Telling → Type 0
Whole a t = (a ≤ t.count) × (t.count - a ≡ t.recorded)

-- over a store of len words with its nodes below top, a head that is full with the last of m choices can become a node
abbrev pub Shelvable : ℕ → ℕ → ℕ → Type 0
Shelvable len top m = (top + 2 ≤ len) × (top < 2 ^ 32) × (m < 4294967264)

-- one choice more than m can be recorded: in the head, or in a new one
abbrev pub Recordable : ℕ → ℕ → ℕ → Type 0
Recordable len top m = (m ≡ 0) ⊎ ((m % 32 ≢ 0) ⊎ Shelvable len top m)

-- one choice more in the head
abbrev pub added : Telling → Bool → Telling
added t b = record { time = t.time; count = t.count; parent = t.parent; head = t.head * 2 + bit b; recorded = t.recorded + 1 }

-- the head empty, behind a node at p
abbrev pub shelved : ℕ → Telling → Telling
shelved p t = record { time = t.time; count = t.count; parent = p; head = 0; recorded = t.recorded }

-- of a play that has not begun
abbrev pub none : Telling
none = record { time = 0; count = 0; parent = 0; head = 0; recorded = 0 }

-- the telling that seven words tell, and the words of a telling
abbrev pub telling_of : List ℕ → Telling
telling_of xs = record { time = slice_index xs 0 + 4294967296 * slice_index xs 1; count = slice_index xs 2 + 4294967296 * slice_index xs 3; parent = slice_index xs 4; head = slice_index xs 5; recorded = slice_index xs 6 }

abbrev pub telling_words : Telling → List ℕ
telling_words t = t.time % 4294967296 ∷ (t.time / 4294967296 ∷ (t.count % 4294967296 ∷ (t.count / 4294967296 ∷ (t.parent ∷ (t.head ∷ (t.recorded ∷ []))))))
