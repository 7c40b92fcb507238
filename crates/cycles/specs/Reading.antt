-- What the reader of words tells.
use Rattle.std.specs.Prelude.{◌≡◌, ℕ, ◌+◌, ◌<◌, ◌≤◌, min, Bool, true, false, List, ◌∷◌, ◌++◌, length, drop, Ok, Err, Result, ◌≢◌, slice_index}
use Rattle.cycles.specs.declared.node.Node.{Node}
use Rattle.cycles.specs.declared.node.Node.TheVariants.{Work, Touch, Seq, Either, Loop, Skip}
use Rattle.cycles.specs.declared.fault.Rule.{Rule}
use Rattle.cycles.specs.declared.fault.Rule.TheVariants.{Empty, CacheCut, Sets, Ways, LineWords, HitAboveMiss, MissCycles, PolicyWord, NodeMissing, WorkCut, TouchCut, LoopCut, UnknownNode, Cycles, Base, Steps, Step, Rounds, Loops, Depth, Amount, LeftOver}
use Rattle.cycles.specs.declared.fault.Fault.{Fault}
use Rattle.cycles.specs.declared.geometry.Policy.{Policy}
use Rattle.cycles.specs.declared.geometry.Policy.TheVariants.{Lru, Fifo}
use Rattle.cycles.specs.declared.geometry.Geometry.{Geometry}
use Rattle.cycles.specs.declared.reader.Extent.{Extent}
use Rattle.cycles.specs.Code.{pick, P, Cache}
use Rattle.cycles.specs.Rows.{row, row_c, small, ok, ok_c, deep, amount, Reads}
use Rattle.cycles.specs.Says.{OneReading}

-- what a broken rule says of the word at a place
abbrev pub Breaks : List ℕ → ℕ → Rule → Type 0
Breaks ws k Empty = (k ≡ 0) × (length ws ≡ 0)
Breaks ws k CacheCut = (k ≡ length ws) × (0 < length ws) × (length ws < 6)
Breaks ws k (Sets n) = (k ≡ 0) × (n ≡ slice_index ws 0) × (1 ≤ n → 64 < n)
Breaks ws k (Ways n) = (k ≡ 1) × (n ≡ slice_index ws 1) × (1 ≤ n → 8 < n)
Breaks ws k (LineWords n) = (k ≡ 2) × (n ≡ slice_index ws 2) × (1 ≤ n → 64 < n)
Breaks ws k (HitAboveMiss h m) = (k ≡ 4) × (h ≡ slice_index ws 3) × (m ≡ slice_index ws 4) × (m < h)
Breaks ws k (MissCycles n) = (k ≡ 4) × (n ≡ slice_index ws 4) × (65536 ≤ n)
Breaks ws k (PolicyWord n) = (k ≡ 5) × (n ≡ slice_index ws 5) × (1 < n)
Breaks ws k NodeMissing = length ws ≡ k
Breaks ws k WorkCut = (slice_index ws k ≡ 0) × (length ws ≡ k + 1)
Breaks ws k TouchCut = (slice_index ws k ≡ 1) × (k < length ws) × (k + 2 < length ws → length ws < k + 3 + slice_index ws (k + 2))
Breaks ws k LoopCut = (slice_index ws k ≡ 4) × (length ws ≡ k + 1)
Breaks ws k (UnknownNode n) = (n ≡ slice_index ws k) × (5 < n)
Breaks ws k (Cycles n) = (n ≡ slice_index ws k) × (65536 ≤ n)
Breaks ws k (Base n) = (n ≡ slice_index ws k) × (65536 ≤ n)
Breaks ws k (Steps n l) = (n ≡ slice_index ws k) × (l < n)
Breaks ws k (Step n) = (n ≡ slice_index ws k) × (65536 ≤ n)
Breaks ws k (Rounds n) = (n ≡ slice_index ws k) × (4096 < n)
Breaks ws k Loops = slice_index ws k ≡ 4
Breaks ws k Depth = (2 ≤ slice_index ws k) × (slice_index ws k ≤ 4)
Breaks ws k Amount = k < length ws
Breaks ws k LeftOver = k < length ws

-- the node that the words begin with; or the rule that their first word breaks, whatever words us stand before it, where no program's words begin so
abbrev pub Begins : List ℕ → Result Node Rule → Type 0
Begins ws (Ok (Work n)) = ws ≡ 0 ∷ n ∷ drop 2 ws
Begins ws (Ok (Touch b ks)) = ws ≡ 1 ∷ b ∷ length ks.now ∷ (ks.now ++ drop (3 + length ks.now) ws)
Begins ws (Ok Seq) = ws ≡ 2 ∷ drop 1 ws
Begins ws (Ok Either) = ws ≡ 3 ∷ drop 1 ws
Begins ws (Ok (Loop n)) = ws ≡ 4 ∷ n ∷ drop 2 ws
Begins ws (Ok Skip) = ws ≡ 5 ∷ drop 1 ws
Begins ws (Err e) = ((us : List ℕ) → Breaks (us ++ ws) (length us) e) × ((p : P) (rest : List ℕ) → ws ≢ row p ++ rest)

-- how many words a node takes itself, without the programs that it holds
abbrev pub size_of : Node → ℕ
size_of (Work n) = 2
size_of (Touch b ks) = 3 + length ks.now
size_of Seq = 1
size_of Either = 1
size_of (Loop n) = 2
size_of Skip = 1

-- how many programs it holds
abbrev pub parts_of : Node → ℕ
parts_of (Work n) = 0
parts_of (Touch b ks) = 0
parts_of Seq = 2
parts_of Either = 2
parts_of (Loop n) = 1
parts_of Skip = 0

-- whether it is no work, touch or either
abbrev pub quiet_of : Node → Bool
quiet_of (Work n) = false
quiet_of (Touch b ks) = false
quiet_of Seq = true
quiet_of Either = false
quiet_of (Loop n) = true
quiet_of Skip = true

-- no program's words begin the words ws, under so many loops and so deep
abbrev pub NoneBegins : List ℕ → ℕ → ℕ → Type 0
NoneBegins ws loops depth = (p : P) (rest : List ℕ) → ws ≡ row p ++ rest → ok loops 0 p ≡ true → depth + deep p ≤ 200 → ⊥

-- a node's own numbers keep the limits, under so many loops and so deep
abbrev pub Keeps : ℕ → ℕ → Node → Type 0
Keeps loops depth (Work n) = n < 65536
Keeps loops depth (Touch b ks) = (b < 65536) × (length ks.now ≤ loops) × (small ks.now ≡ true)
Keeps loops depth Seq = depth < 200
Keeps loops depth Either = depth < 200
Keeps loops depth (Loop n) = (n ≤ 4096) × (loops < 8) × (depth < 200)
Keeps loops depth Skip = Unit {0}

-- whether a node keeps the limits; where not, the fault's place is counted from the node's first word, whatever words us stand before it
abbrev pub Judges : ℕ → ℕ → Node → Result (Unit {0}) Fault → Type 0
Judges loops depth node (Ok u) = Keeps loops depth node
Judges loops depth node (Err f) = (us ws : List ℕ) → Begins ws (Ok node) → Breaks (us ++ ws) (length us + f.place) f.rule × NoneBegins ws loops depth × (f.place < length ws)

-- the node at a place, within the limits
abbrev pub Stands : List ℕ → ℕ → ℕ → ℕ → Result Node Fault → Type 0
Stands ws at loops depth (Ok node) = Begins (drop at ws) (Ok node) × Keeps loops depth node
Stands ws at loops depth (Err f) = Breaks ws f.place f.rule × NoneBegins (drop at ws) loops depth

-- the words from at to end are a program, under so many loops and so deep, that does so much, counted up to 2^32 + 1
pub record Spans (ws : List ℕ) (loops depth at end much : ℕ) : Type 0 where
  pub p : P
  pub is : drop at ws ≡ row p ++ drop end ws
  pub long : end ≡ at + length (row p)
  pub fine : ok loops 0 p ≡ true
  pub shallow : depth + deep p ≤ 200
  pub done : much ≡ min 4294967297 (amount p)
  pub within : end ≤ length ws

-- what is told of the program that begins at a place
abbrev pub Scans : List ℕ → ℕ → ℕ → ℕ → Result Extent Fault → Type 0
Scans ws loops depth at (Ok e) = Spans ws loops depth at e.end e.load.amount × (e.load.place < e.end)
Scans ws loops depth at (Err f) = Breaks ws f.place f.rule × NoneBegins (drop at ws) loops depth

-- the cache that a geometry stands for
abbrev pub is_lru : Policy → Bool
is_lru Lru = true
is_lru Fifo = false

-- the policy that a word names, or the rule that it breaks
abbrev pub Names : ℕ → Result Policy Rule → Type 0
Names n (Ok p) = n ≡ pick (is_lru p) 1 0
Names n (Err e) = (e ≡ PolicyWord n) × (1 < n)

abbrev pub cache : Geometry → Cache
cache g = record { sets = g.sets; ways = g.ways; line = g.line; hit = g.hit; miss = g.miss; used = is_lru g.policy }

-- the cache whose six words stand first
abbrev pub Shapes : List ℕ → Result Geometry Fault → Type 0
Shapes ws (Ok g) = (ws ≡ row_c (cache g) ++ drop 6 ws) × (ok_c (cache g) ≡ true)
Shapes ws (Err f) = Breaks ws f.place f.rule × ((c : Cache) (rest : List ℕ) → ws ≡ row_c c ++ rest → ok_c c ≢ true)

-- words that are a cache and a program, all of them; or a fault, exactly where they are none
abbrev pub ReadSays : List ℕ → Result Geometry Fault → Type 0
ReadSays ws (Ok g) = (p : P) × Reads ws (cache g) p
ReadSays ws (Err f) = Breaks ws f.place f.rule × ((c : Cache) (p : P) → Reads ws c p → ⊥)

-- what the reader promises
pub record ReadPost (ws : List ℕ) (r : Result Geometry Fault) : Type 0 where
  pub says : ReadSays ws r
  pub one : OneReading
