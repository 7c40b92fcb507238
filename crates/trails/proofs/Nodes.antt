-- The bits of a word and the nodes of a store, one more at a time and over a longer store.
use Rattle.std.proofs.Common.{◌≡◌, ℕ, zero, suc, ◌+◌, ◌*◌, ◌/◌, ◌%◌, ◌<◌, ◌≤◌, Bool, true, false, eqb, ◌⊎◌, List, [], ◌∷◌, ◌++◌, length, get_or, refl, inl, inr, add-one, arith, length-append}
use Rattle.std.proofs.lemmas.List.{get_or_append_left, get_or-append-add, get_or_at}
use Rattle.trails.specs.Trails.{Lies, bit, bits_of, chain, full, held}

-- how many nodes are full and what the head holds, one choice on

pub full_same : (m : ℕ) → (m ≡ 0) ⊎ (m % 32 ≡ 0 → ⊥) → (full (m + 1) ≡ full m) × (held (m + 1) ≡ suc (held m)) × (m ≤ 4294967264 → m < 4294967264)
full_same m (inl e) = (omega arith, omega arith, λ h. omega arith)
full_same m (inr n) = (omega arith, omega arith, λ h. omega arith)

pub full_more : (m : ℕ) → 0 < m → m % 32 ≡ 0 → (full (m + 1) ≡ suc (full m)) × (held m ≡ 32) × (held (m + 1) ≡ 1)
full_more m h e = (omega arith, omega arith, omega arith)

-- the bits of a word

pub bits_none : (h : ℕ) → bits_of 0 h ≡ []
unfolding bits_of
bits_none h = refl

pub bits_push : (r h : ℕ) (b : Bool) → bits_of (suc r) (h * 2 + bit b) ≡ bits_of r h ++ (b ∷ [])
unfolding bits_of
bits_push r h true =
    let d : (h * 2 + 1) / 2 ≡ h = omega arith in
    let m : (h * 2 + 1) % 2 ≡ 1 = omega arith in
    rw (d, m)
bits_push r h false =
    let d : (h * 2 + 0) / 2 ≡ h = omega arith in
    let m : (h * 2 + 0) % 2 ≡ 0 = omega arith in
    rw (d, m)

pub bits_step : (r h : ℕ) → bits_of (suc r) h ≡ bits_of r (h / 2) ++ (eqb (h % 2) 1 ∷ [])
unfolding bits_of
bits_step r h = refl

-- the nodes of a store

pub chain_step : (s : List ℕ) (k p : ℕ) → chain s (suc k) p ≡ chain s k (get_or s p 0) ++ bits_of 32 (get_or s (suc p) 0)
unfolding chain
chain_step s k p = refl

pub lies_step : (s : List ℕ) (k p : ℕ) → Lies s (suc k) p → (p + 2 ≤ length s) × Lies s k (get_or s p 0)
unfolding Lies
lies_step s k p l = l

pub chain_front : (s u : List ℕ) (k p : ℕ) → Lies s k p → chain (s ++ u) k p ≡ chain s k p
unfolding chain Lies
chain_front s u zero p l = refl
chain_front s u (suc k) p l =
    let g : get_or (s ++ u) p 0 ≡ get_or s p 0 = get_or_append_left s u 0 p (omega (arith, l.0)) in
    let b : get_or (s ++ u) (suc p) 0 ≡ get_or s (suc p) 0 = get_or_append_left s u 0 (suc p) (omega (arith, l.0)) in
    rw (g, b, chain_front s u k (get_or s p 0) l.1)

pub lies_front : (s u : List ℕ) (k p : ℕ) → Lies s k p → Lies (s ++ u) k p
unfolding Lies
lies_front s u zero p l = tt
lies_front s u (suc k) p l =
    let g : get_or (s ++ u) p 0 ≡ get_or s p 0 = get_or_append_left s u 0 p (omega (arith, l.0)) in
    (simp length-append (omega (arith, l.0)), rw g (lies_front s u k (get_or s p 0) l.1))

-- one node more
module _ (s : List ℕ) (k p h : ℕ) (l : Lies s k p) where
  node_parent : get_or (s ++ (p ∷ (h ∷ []))) (length s) 0 ≡ p
  node_parent = get_or_at s p (h ∷ []) 0 (length s) refl

  pub chain_node : chain (s ++ (p ∷ (h ∷ []))) (suc k) (length s) ≡ chain s k p ++ bits_of 32 h
  unfolding chain
  chain_node =
      let b : get_or (s ++ (p ∷ (h ∷ []))) (suc (length s)) 0 ≡ h = rw (← add-one) (get_or-append-add s (p ∷ (h ∷ [])) 1 0) in
      rw (node_parent, b, chain_front s (p ∷ (h ∷ [])) k p l)

  pub lies_node : Lies (s ++ (p ∷ (h ∷ []))) (suc k) (length s)
  unfolding Lies
  lies_node = (simp length-append (omega arith), rw node_parent (lies_front s (p ∷ (h ∷ [])) k p l))
