-- Where a test passes first in a list, and that it passes nowhere.
use Rattle.std.proofs.Common.{◌≡◌, ℕ, zero, suc, ◌<◌, ◌≤◌, Bool, false, List, [], ◌∷◌, length, get_or, None, inl, inr, arith}
use Rattle.std.specs.List.{position, position_or_len}
use Rattle.std.proofs.lemmas.Bool.{cases_Bool, cases_lt, lt-ltb}

passed : (p : ℕ → Bool) (x : ℕ) (xs : List ℕ) → ((k : ℕ) → k < length xs → p (get_or xs k 0) ≡ false) → p x ≡ false → (k : ℕ) → k < length (x ∷ xs) → p (get_or (x ∷ xs) k 0) ≡ false
passed p x xs f e zero m = e
passed p x xs f e (suc k) m = f k (omega arith)

none_before : (p : ℕ → Bool) (xs : List ℕ) → length xs ≤ position_or_len p xs → (k : ℕ) → k < length xs → p (get_or xs k 0) ≡ false
none_before p [] h = λ k m. absurd (omega arith)
none_before p (x ∷ xs) h =
    elim (cases_Bool (p x)) [ inl e ↦ absurd (let g = rw e at h in omega arith) | inr e ↦ passed p x xs (none_before p xs (let g = rw e at h in omega arith)) e ]

pub none_found : (p : ℕ → Bool) (xs : List ℕ) → position p xs ≡ None → (k : ℕ) → k < length xs → p (get_or xs k 0) ≡ false
none_found p xs e =
    elim (cases_lt (position_or_len p xs) (length xs)) [ inl m ↦ absurd (let f = lt-ltb (position_or_len p xs) (length xs) m in let g = rw f at e in cc) | inr m ↦ none_before p xs m ]
