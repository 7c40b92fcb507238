-- Two plays side by side: what each step keeps, the whole keeps.
use Rattle.std.proofs.Common.{◌≡◌, ℕ, zero, suc, ◌+◌, Bool, true, false, List, [], ◌∷◌, subst}
use mathlib.Core.Option.{Option, some, none}
use Rattle.cycles.specs.Code.{P, work, touch, seq, either, times, skip, Cache, after, cost, place}
use Rattle.cycles.specs.Plays.{At, on, spend, choose, left, which, rounds, play}

-- both stopped, or both at places that R ties
pub data Both (R : At → At → Type 0) : Option At → Option At → Type 0 where
  neither : Both R none none
  each : {a b : At} → R a b → Both R (some a) (some b)

pub both_some : {R : At → At → Type 0} {a b : At} → Both R (some a) (some b) → R a b
both_some (each r) = r

-- an address touched
abbrev pub touched : Cache → ℕ → At → At
touched c w a = record { time = a.time + cost c a.st w; st = after c a.st w; choices = a.choices }

module _ (R : At → At → Type 0) where
  on_both : {o q : Option At} (f g : At → Option At) → Both R o q → ((a b : At) → R a b → Both R (f a) (g b)) → Both R (on o f) (on q g)
  on_both f g neither k = neither
  on_both f g (each {a = a} {b = b} r) k = k a b r

  choose_both : (xs ys : List Bool) (f g : Bool → List Bool → Option At) → xs ≡ ys → ((b : Bool) (bs : List Bool) → Both R (f b bs) (g b bs)) → Both R (choose xs f) (choose ys g)
  choose_both xs ys f g e k = subst (λ (zs : List Bool). Both R (choose xs f) (choose zs g)) e (go xs)
    where
      go : (zs : List Bool) → Both R (choose zs f) (choose zs g)
      go [] = neither
      go (b ∷ bs) = k b bs

  which_both : (b : Bool) (f f' g g' : At → Option At) (x y : At) → Both R (f x) (g y) → Both R (f' x) (g' y) → Both R (which b f f' x) (which b g g' y)
  which_both true f f' g g' x y h k = h
  which_both false f f' g g' x y h k = k

  rounds_both : (n i : ℕ) (f g : ℕ → At → Option At) → ((j : ℕ) (a b : At) → R a b → Both R (f j a) (g j b)) → (a b : At) → R a b → Both R (rounds n i f a) (rounds n i g b)
  rounds_both zero i f g k a b r = each r
  rounds_both (suc n) i f g k a b r = on_both (rounds n (suc i) f) (rounds n (suc i) g) (k i a b r) (rounds_both n (suc i) f g k)

module _ (c d : Cache) (R : At → At → Type 0)
    (spends : (n : ℕ) (a b : At) → R a b → R (spend n a) (spend n b))
    (touches : (w : ℕ) (a b : At) → R a b → R (touched c w a) (touched d w b))
    (chosen : (a b : At) → R a b → a.choices ≡ b.choices)
    (lefts : (bs : List Bool) (a b : At) → R a b → R (left a bs) (left b bs)) where
  pub play_both : (p : P) (rs : List ℕ) (a b : At) → R a b → Both R (play c p rs a) (play d p rs b)
  play_both (work n) rs a b r = each (spends n a b r)
  play_both (touch w ks) rs a b r = each (touches (place w ks rs) a b r)
  play_both (seq p q) rs a b r = on_both R (play c q rs) (play d q rs) (play_both p rs a b r) (play_both q rs)
  play_both (either p q) rs a b r =
      choose_both R a.choices b.choices (λ x xs. which x (play c p rs) (play c q rs) (left a xs)) (λ x xs. which x (play d p rs) (play d q rs) (left b xs)) (chosen a b r)
      (λ x xs. which_both R x (play c p rs) (play c q rs) (play d p rs) (play d q rs) (left a xs) (left b xs)
      (play_both p rs (left a xs) (left b xs) (lefts xs a b r))
      (play_both q rs (left a xs) (left b xs) (lefts xs a b r)))
  play_both (times n p) rs a b r = rounds_both R n 0 (λ i. play c p (i ∷ rs)) (λ i. play d p (i ∷ rs)) (λ i. play_both p (i ∷ rs)) a b r
  play_both skip rs a b r = each r
