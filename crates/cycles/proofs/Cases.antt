-- The definitions on small cases, computed: programs played; a FIFO cache that is slower with more ways; a program as words.
use Rattle.std.proofs.Common.{◌≡◌, true, false, [], ◌∷◌, refl}
use Rattle.cycles.specs.Code.{P, touch, seq, either, times, Cache, empty}
use Rattle.cycles.specs.Plays.{Play, widest}
use Rattle.cycles.specs.Rows.{row, amount}

one : Cache
one = record { sets = 1; ways = 2; line = 1; hit = 1; miss = 10; used = true }

-- five words touched, 0 1 0 2 1: miss miss hit miss miss
five : P
five = seq (touch 0 []) (seq (touch 1 []) (seq (touch 0 []) (seq (touch 2 []) (touch 1 []))))

five_takes : Play one five (empty one) [] 41 ((1 ∷ 2 ∷ []) ∷ [])
unfolding one five
five_takes = refl

-- a row walked by a loop of three rounds, with lines of two words: 0 1 2
lines : Cache
lines = record { sets = 2; ways = 1; line = 2; hit = 1; miss = 10; used = true }

row3 : P
row3 = times 3 (touch 0 (1 ∷ []))

row3_takes : Play lines row3 (empty lines) [] 21 ((0 ∷ []) ∷ (1 ∷ []) ∷ [])
unfolding lines row3
row3_takes = refl

-- both ways of a choice, either 0 or 1, then 0: 11 and 20
two : P
two = seq (either (touch 0 []) (touch 1 [])) (touch 0 [])

two_a : Play one two (empty one) (true ∷ []) 11 ((0 ∷ []) ∷ [])
unfolding one two
two_a = refl

two_b : Play one two (empty one) (false ∷ []) 20 ((0 ∷ 1 ∷ []) ∷ [])
unfolding one two
two_b = refl

two_wide : widest one two [] (empty one ∷ []) ≡ 2
unfolding one two
two_wide = refl

-- FIFO: 1 2 3 4 1 2 5 1 2 3 4 5 misses 9 times with three ways and 10 times with four
come3 : Cache
come3 = record { sets = 1; ways = 3; line = 1; hit = 0; miss = 1; used = false }

come4 : Cache
come4 = record { sets = 1; ways = 4; line = 1; hit = 0; miss = 1; used = false }

walk : P
walk = (seq (touch 1 []) (seq (touch 2 []) (seq (touch 3 []) (seq (touch 4 []) (seq (touch 1 []) (seq (touch 2 []) (seq (touch 5 []) (seq (touch 1 []) (seq (touch 2 []) (seq (touch 3 []) (seq (touch 4 []) (touch 5 []))))))))))))

nine : Play come3 walk (empty come3) [] 9 ((4 ∷ 3 ∷ 5 ∷ []) ∷ [])
unfolding come3 walk
nine = refl

ten : Play come4 walk (empty come4) [] 10 ((5 ∷ 4 ∷ 3 ∷ 2 ∷ []) ∷ [])
unfolding come4 walk
ten = refl

words : row two ≡ 2 ∷ 3 ∷ 1 ∷ 0 ∷ 0 ∷ 1 ∷ 1 ∷ 0 ∷ 1 ∷ 0 ∷ 0 ∷ []
unfolding two
words = refl

much : amount row3 ≡ 4
unfolding row3
much = refl
