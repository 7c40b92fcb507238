-- Two lists that correspond, element by element.
use Rattle.std.specs.Prelude.{ℕ, suc, List, [], ◌∷◌}

pub data Each {A B : Type 0} (R : A → B → Type 0) : List A → List B → Type 0 where
  no_more : Each R [] []
  also : {x : A} {y : B} {xs : List A} {ys : List B} → R x y → Each R xs ys → Each R (x ∷ xs) (y ∷ ys)

-- the k-th element of a list
pub data At {A : Type 0} (x : A) : ℕ → List A → Type 0 where
  here : {xs : List A} → At x 0 (x ∷ xs)
  there : {k : ℕ} {y : A} {xs : List A} → At x k xs → At x (suc k) (y ∷ xs)
