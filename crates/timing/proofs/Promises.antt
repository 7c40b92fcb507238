-- What the call promises besides its answer: the theorems, and when it says that too few words are lent.
use Rattle.std.proofs.Common.{◌≡◌, ℕ, ◌+◌, ◌*◌, ◌≤◌, Bool, true, false, ltb, List, length, sym, refl, ◌∙◌, mul-le-mul_right, arith}
use Rattle.std.proofs.lemmas.Bool.{ltb-true, ltb-false}
use Rattle.cycles.specs.Reading.{cache}
use Rattle.cycles.specs.declared.geometry.Geometry.{Geometry}
use Rattle.cycles.specs.Says.{Parts, TimedSays, TimedPost}
use Rattle.cycles.specs.declared.Timed.{Timed}
use Rattle.cycles.specs.declared.Timed.TheVariants.{Few}
use Rattle.cycles.proofs.Whole.{one_reading}
use Rattle.machine.proofs.States.{all_states}
use Rattle.machine.proofs.Stays.{stays_sound}
use Rattle.tables.specs.Showing.{width}
use Rattle.machine.proofs.Wide.{wider_holds, wider_never_slower, empty_is_worst}

parts : Parts
parts = record { p1 = one_reading; p2 = stays_sound; p3 = all_states; p4 = wider_holds; p5 = wider_never_slower; p6 = empty_is_worst }

-- the words that must be lent
abbrev pub asks : ℕ → ℕ → ℕ
asks words most = 4096 + (8 * words + 2048 * (most + 1))

pub enough : (b : Bool) (w n m : ℕ) → b ≡ ltb w (asks n m) → b ≡ false → asks n m ≤ w
enough b w n m e f = ltb-false w (asks n m) (sym e ∙ f)

pub promised_few : (s : List ℕ) (most w : ℕ) (o : List ℕ) (b : Bool) → b ≡ ltb w (asks (length s) most) → b ≡ true → TimedPost s most w o o Few
promised_few s most w o b e f = record { says = refl; parts = parts; few = (λ h. refl, λ h. ltb-true w (asks (length s) most) (sym e ∙ f)) }

pub promised : (s : List ℕ) (most w : ℕ) (o o' : List ℕ) (r : Timed) → asks (length s) most ≤ w → (r ≡ Few → ⊥) → TimedSays s most o o' r → TimedPost s most w o o' r
promised s most w o o' r h n x = record { says = x; parts = parts; few = (λ k. absurd (omega arith), λ e. absurd (n e)) }

-- the slots of all states that are allowed fit into the words that must be lent
pub slots_fit : (g : Geometry) (n m w : ℕ) → asks n m ≤ w → width (cache g) * m ≤ w
slots_fit g n m w h =
    let a : g.sets * g.ways ≤ 64 * g.ways = mul-le-mul_right g.ways g.sets_fit.1 in
    let v = g.ways_fit.1 in
    let b : width (cache g) * m ≤ 526 * m = mul-le-mul_right m (let q : width (cache g) ≤ 526 = omega arith in q) in
    omega arith
