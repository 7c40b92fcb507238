-- The cycles of a play's events sum to its time.
use Rattle.std.proofs.Common.{◌≡◌, ℕ, zero, suc, ◌+◌, Bool, true, false, List, [], ◌∷◌, ◌++◌, ap, arith}
use mathlib.Core.Option.{Option, some}
use Rattle.cycles.specs.Code.{pick, P, work, touch, seq, either, times, skip, Cache}
use Rattle.cycles.specs.Plays.{At, choose, left, which, rounds, play}
use Rattle.machine.specs.declared.observer.Event.{Event}
use Rattle.machine.proofs.Runs.{on_some}
use Rattle.machine.specs.Trace.{trace, then_trace, choose_trace, rounds_trace, sum_cycles}

pub sum_append : (es fs : List Event) → sum_cycles (es ++ fs) ≡ sum_cycles es + sum_cycles fs
sum_append [] fs = omega arith
sum_append (e ∷ es) fs = omega (arith, sum_append es fs)

-- what comes behind, if the first part sums and the rest does
summed : (a x b : At) (o : Option At) (es : List Event) (g : At → List Event) → o ≡ some x → a.time + sum_cycles es ≡ x.time → x.time + sum_cycles (g x) ≡ b.time → a.time + sum_cycles (es ++ then_trace o g) ≡ b.time
summed a x b o es g e p q = omega (arith, sum_append es (then_trace o g), ap (λ z. sum_cycles (then_trace z g)) e)

rounds_sum : (f : ℕ → At → Option At) (g : ℕ → At → List Event) → ((j : ℕ) (a b : At) → f j a ≡ some b → a.time + sum_cycles (g j a) ≡ b.time) → (n i : ℕ) (a b : At) → rounds n i f a ≡ some b → a.time + sum_cycles (rounds_trace n i f g a) ≡ b.time
rounds_sum f g h zero i a b e = let z : a ≡ b = cc in omega (arith, ap (λ x. x.time) z)
rounds_sum f g h (suc n) i a b e =
    let (x, p, q) = on_some (f i a) (rounds n (suc i) f) b e in
    summed a x b (f i a) (g i a) (rounds_trace n (suc i) f g) p (h i a x p) (rounds_sum f g h n (suc i) x b q)

time_of : {x y : At} → some x ≡ some y → x.time ≡ y.time
time_of {x} {y} e = let z : x ≡ y = cc in ap (λ (v : At). v.time) z

-- the part that is chosen sums, so the either does
choice_sum : (c : Cache) (p q : P) (rs : List ℕ) (a b : At) → ((bs : List Bool) → play c p rs (left a bs) ≡ some b → a.time + sum_cycles (trace c p rs (left a bs)) ≡ b.time) → ((bs : List Bool) → play c q rs (left a bs) ≡ some b → a.time + sum_cycles (trace c q rs (left a bs)) ≡ b.time) → (xs : List Bool) → choose xs (λ v bs. which v (play c p rs) (play c q rs) (left a bs)) ≡ some b → a.time + sum_cycles (choose_trace xs (λ v bs. pick v (trace c p rs (left a bs)) (trace c q rs (left a bs)))) ≡ b.time
choice_sum c p q rs a b f g [] h = absurd (let z : ◌≡◌ {A = ℕ} 0 1 = cc in omega arith)
choice_sum c p q rs a b f g (true ∷ bs) h = f bs h
choice_sum c p q rs a b f g (false ∷ bs) h = g bs h

pub trace_sum : (c : Cache) (p : P) (rs : List ℕ) (a b : At) → play c p rs a ≡ some b → a.time + sum_cycles (trace c p rs a) ≡ b.time
trace_sum c (work n) rs a b e = omega (arith, time_of e)
trace_sum c (touch w ks) rs a b e = omega (arith, time_of e)
trace_sum c (seq p q) rs a b e =
    let (x, h, k) = on_some (play c p rs a) (play c q rs) b e in
    summed a x b (play c p rs a) (trace c p rs a) (trace c q rs) h (trace_sum c p rs a x h) (trace_sum c q rs x b k)
trace_sum c (either p q) rs a b e = choice_sum c p q rs a b (λ bs h. trace_sum c p rs (left a bs) b h) (λ bs h. trace_sum c q rs (left a bs) b h) a.choices e
trace_sum c (times n p) rs a b e = rounds_sum (λ i. play c p (i ∷ rs)) (λ i. trace c p (i ∷ rs)) (λ j x y h. trace_sum c p (j ∷ rs) x y h) n 0 a b e
trace_sum c skip rs a b e = omega (arith, time_of e)
