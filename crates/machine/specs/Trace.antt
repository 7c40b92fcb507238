-- What a play does, event by event.
use Rattle.std.specs.Prelude.{ℕ, zero, suc, ◌+◌, Bool, List, [], ◌∷◌, ◌++◌}
use Rattle.std.proofs.Math.Option as core
use Rattle.std.proofs.Math.Option.{some, none}
use Rattle.cycles.specs.Code.{pick, P, work, touch, seq, either, times, skip, Cache, line_of, set_of, cost, place}
use Rattle.cycles.specs.Plays.{At, left, play}
use Rattle.machine.specs.declared.observer.Event.{Event}
use Rattle.machine.specs.declared.observer.Event.TheVariants.{Work, Touch}
use Rattle.machine.specs.Cells.{outcome_of}

-- one touch of an address
abbrev pub touch_event : Cache → ℕ → At → Event
touch_event c w a = Touch (record { start = a.time; address = w; touched = record { line = line_of c w; set = set_of c w; cycles = cost c a.st w; outcome = outcome_of c a.st w } })

-- what comes behind, if there is a behind
abbrev pub then_trace : core.Option At → (At → List Event) → List Event
then_trace none f = []
then_trace (some a) f = f a

abbrev pub choose_trace : List Bool → (Bool → List Bool → List Event) → List Event
choose_trace [] f = []
choose_trace (b ∷ bs) f = f b bs

abbrev pub rounds_trace : ℕ → ℕ → (ℕ → At → core.Option At) → (ℕ → At → List Event) → At → List Event
rounds_trace zero i f g a = []
rounds_trace (suc n) i f g a = g i a ++ then_trace (f i a) (rounds_trace n (suc i) f g)

-- the works and touches of a play, as far as its choices go
abbrev pub trace : Cache → P → List ℕ → At → List Event
trace c (work n) rs a = Work a.time n ∷ []
trace c (touch b ks) rs a = touch_event c (place b ks rs) a ∷ []
trace c (seq p q) rs a = trace c p rs a ++ then_trace (play c p rs a) (trace c q rs)
trace c (either p q) rs a = choose_trace a.choices (λ b bs. pick b (trace c p rs (left a bs)) (trace c q rs (left a bs)))
trace c (times n p) rs a = rounds_trace n 0 (λ i. play c p (i ∷ rs)) (λ i. trace c p (i ∷ rs)) a
trace c skip rs a = []

abbrev pub cycles_of : Event → ℕ
cycles_of (Work t n) = n
cycles_of (Touch a) = a.touched.cycles

abbrev pub sum_cycles : List Event → ℕ
sum_cycles [] = 0
sum_cycles (e ∷ es) = cycles_of e + sum_cycles es
