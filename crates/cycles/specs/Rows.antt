-- Programs and caches as words.
use Rattle.std.specs.Prelude.{◌≡◌, ℕ, suc, ◌+◌, ◌*◌, max, Bool, true, ◌&&◌, T, List, [], ◌∷◌, ◌++◌, length, nat_le, nat_lt}
use Rattle.cycles.specs.Code.{pick, P, work, touch, seq, either, times, skip, Cache}

-- work: 0 cycles; touch: 1 base, how many steps, these; two: 2 first second; either: 3 first second; loop: 4 rounds body; nothing: 5
abbrev pub row : P → List ℕ
row (work n) = 0 ∷ n ∷ []
row (touch b ks) = 1 ∷ b ∷ length ks ∷ ks
row (seq p q) = 2 ∷ (row p ++ row q)
row (either p q) = 3 ∷ (row p ++ row q)
row (times n p) = 4 ∷ n ∷ row p
row skip = 5 ∷ []

-- sets, ways, words in a line, cycles of a hit, cycles of a miss, and 1 for LRU or 0 for FIFO
abbrev pub row_c : Cache → List ℕ
row_c c = c.sets ∷ c.ways ∷ c.line ∷ c.hit ∷ c.miss ∷ pick c.used 1 0 ∷ []

abbrev pub small : List ℕ → Bool
small [] = true
small (x ∷ xs) = nat_lt x 65536 && small xs

-- under d loops: cycles, bases and steps are below 65,536; a touch has no more steps than loops around it; at most 8 loops stand around one another, each of at most 4,096 rounds (e plays no part)
abbrev pub ok : ℕ → ℕ → P → Bool
ok d e (work n) = nat_lt n 65536
ok d e (touch b ks) = nat_lt b 65536 && (nat_le (length ks) d && small ks)
ok d e (seq p q) = ok d e p && ok d e q
ok d e (either p q) = ok d e p && ok d e q
ok d e (times n p) = nat_lt d 8 && (nat_le n 4096 && ok (suc d) e p)
ok d e skip = true

-- how deep twos, eithers and loops stand in one another, the second of two not counting
abbrev pub deep : P → ℕ
deep (work n) = 0
deep (touch b ks) = 0
deep (seq p q) = max (1 + deep p) (deep q)
deep (either p q) = 1 + max (deep p) (deep q)
deep (times n p) = 1 + deep p
deep skip = 0

-- 1 to 64 sets of 1 to 8 ways, lines of 1 to 64 words, a hit that takes no longer than a miss, a miss below 65,536 cycles
abbrev pub ok_c : Cache → Bool
ok_c c = (nat_le 1 c.sets && nat_le c.sets 64) && ((nat_le 1 c.ways && nat_le c.ways 8) && ((nat_le 1 c.line && nat_le c.line 64) && (nat_le c.hit c.miss && nat_lt c.miss 65536)))

-- how many works and touches are done at most, an either counting one more than its larger branch and a loop one more than all its rounds
abbrev pub amount : P → ℕ
amount (work n) = 1
amount (touch b ks) = 1
amount (seq p q) = amount p + amount q
amount (either p q) = 1 + max (amount p) (amount q)
amount (times n p) = 1 + n * amount p
amount skip = 0

-- the words s are the cache c and then the program p, and nothing else: at most 200 deep, at most 2^32 works and touches
pub record Reads (s : List ℕ) (c : Cache) (p : P) : Type 0 where
  pub is : s ≡ row_c c ++ row p
  pub fine : T (ok_c c && (ok 0 0 p && (nat_le (deep p) 200 && nat_le (amount p) 4294967296)))
