-- Lists that correspond, element by element: parts, places, writes, and a change of one element after the other.
use Rattle.std.proofs.Common.{◌≡◌, ℕ, zero, suc, ◌≤◌, List, [], ◌∷◌, ◌++◌, map, length, take, set, refl, ap, arith}
use Rattle.tables.specs.Each.{Each, no_more, also, At, here, there}

pub each_length : {A B : Type 0} {R : A → B → Type 0} {xs : List A} {ys : List B} → Each R xs ys → length xs ≡ length ys
each_length no_more = refl
each_length (also r e) = ap suc (each_length e)

pub each_with : {A B : Type 0} {R S : A → B → Type 0} → ((x : A) (y : B) → R x y → S x y) → {xs : List A} {ys : List B} → Each R xs ys → Each S xs ys
each_with f no_more = no_more
each_with f (also {x = x} {y = y} r e) = also (f x y r) (each_with f e)

pub each_append : {A B : Type 0} {R : A → B → Type 0} {xs us : List A} {ys vs : List B} → Each R xs ys → Each R us vs → Each R (xs ++ us) (ys ++ vs)
each_append no_more g = g
each_append (also r e) g = also r (each_append e g)

-- the k-th elements
pub record Pair {A B : Type 0} (R : A → B → Type 0) (x : A) (k : ℕ) (ys : List B) : Type 0 where
  pub y : B
  pub at : At y k ys
  pub rel : R x y

pub each_at : {A B : Type 0} {R : A → B → Type 0} {xs : List A} {ys : List B} {x : A} {k : ℕ} → Each R xs ys → At x k xs → Pair R x k ys
each_at no_more a = elim a [ ]
each_at (also {y = y} r e) here = record { y = y; at = here; rel = r }
each_at (also r e) (there a) = let p = each_at e a in record { y = p.y; at = there p.at; rel = p.rel }

pub each_back : {A B : Type 0} {R : A → B → Type 0} {xs : List A} {ys : List B} {x : A} {y : B} {k : ℕ} → Each R xs ys → At x k xs → At y k ys → R x y
each_back no_more a b = elim a [ ]
each_back (also r e) here here = r
each_back (also r e) (there a) (there b) = each_back e a b

pub at_same : {A : Type 0} {x y : A} {k : ℕ} {xs : List A} → At x k xs → At y k xs → x ≡ y
at_same here here = refl
at_same (there a) (there b) = at_same a b

pub take_at_more : {A : Type 0} {y : A} {k : ℕ} {ys : List A} → At y k ys → take (suc k) ys ≡ take k ys ++ (y ∷ [])
take_at_more here = refl
take_at_more (there {y = z} a) = ap (λ t. z ∷ t) (take_at_more a)

-- the first k elements changed
abbrev pub upto : {A : Type 0} → ℕ → (A → A) → List A → List A
upto zero f xs = xs
upto (suc k) f [] = []
upto (suc k) f (x ∷ xs) = f x ∷ upto k f xs

pub upto_all : {A : Type 0} (k : ℕ) (f : A → A) (xs : List A) → length xs ≤ k → upto k f xs ≡ map f xs
upto_all zero f [] h = refl
upto_all zero f (x ∷ xs) h = absurd (omega (arith, h))
upto_all (suc k) f [] h = refl
upto_all (suc k) f (x ∷ xs) h = ap (λ t. f x ∷ t) (upto_all k f xs (omega (arith, h)))

-- one element more is changed, and the others stay or come to stand in another relation
pub each_change : {A B : Type 0} (R S : A → B → Type 0) (f : B → B) (x' : A) (k : ℕ) (ys : List B) {xs : List A} {x : A} → ((u : A) (v : B) → R u v → S u v) → At x k xs → ((v : B) → R x v → S x' (f v)) → Each R xs (upto k f ys) → Each S (set xs k x') (upto (suc k) f ys)
each_change R S f x' zero [] g a h no_more = no_more
each_change R S f x' zero (y ∷ ys) g here h (also r e) = also (h y r) (each_with g e)
each_change R S f x' (suc k) [] g a h no_more = no_more
each_change R S f x' (suc k) (y ∷ ys) g (there a) h (also {x = u} r e) = also (g u (f y) r) (each_change R S f x' k ys g a h e)

-- one element replaced on both sides
pub each_set : {A B : Type 0} {R : A → B → Type 0} (x : A) (y : B) (k : ℕ) {xs : List A} {ys : List B} → R x y → Each R xs ys → Each R (set xs k x) (set ys k y)
each_set x y k r no_more = no_more
each_set x y zero r (also s e) = also r e
each_set x y (suc k) r (also s e) = also s (each_set x y k r e)

pub each_take : {A B : Type 0} {R : A → B → Type 0} (k : ℕ) {xs : List A} {ys : List B} → Each R xs ys → Each R (take k xs) (take k ys)
each_take zero e = no_more
each_take (suc k) no_more = no_more
each_take (suc k) (also r e) = also r (each_take k e)
