-- The last choice of a record, and the ones before it.
use Rattle.std.proofs.Common.{◌≡◌, ℕ, suc, ◌+◌, ◌-◌, ◌/◌, ◌%◌, ◌<◌, ◌≤◌, Bool, eqb, ◌⊎◌, List, [], ◌∷◌, ◌++◌, length, get_or, sym, refl, append_assoc, add-one, arith}
use Rattle.trails.specs.Trails.{Lies, bits_of, chain, full, held}
use Rattle.trails.proofs.Nodes.{bits_none, bits_step, chain_step, full_more, full_same, lies_step}

-- m choices, the last of them in the head h, which stands behind the node at p
abbrev pub said : List ℕ → ℕ → ℕ → ℕ → List Bool
said s m p h = chain s (full m) p ++ bits_of (held m) h

pub said_none : (s : List ℕ) (p h : ℕ) → said s 0 p h ≡ []
unfolding chain bits_of
said_none s p h = refl

-- the last choice stands in the head behind others
module _ (s : List ℕ) (n p h : ℕ) (some : 0 < n) (free : (n - 1 ≡ 0) ⊎ ((n - 1) % 32 ≡ 0 → ⊥)) where
  same : (full n ≡ full (n - 1)) × (held n ≡ suc (held (n - 1)))
  same =
      let e : n - 1 + 1 ≡ n = omega arith in
      let f = full_same (n - 1) free in
      (rw e at f.0, rw e at f.1)

  pub last_head : said s n p h ≡ said s (n - 1) p (h / 2) ++ (eqb (h % 2) 1 ∷ [])
  last_head = rw (same.1, same.0, bits_step) (sym (append_assoc (chain s (full (n - 1)) p) _ _))

-- the last choice is the only one in the head
module _ (s : List ℕ) (n p h : ℕ) (some : 0 < n - 1) (filled : (n - 1) % 32 ≡ 0) (l : Lies s (full n) p) where
  more : (full n ≡ suc (full (n - 1))) × (held (n - 1) ≡ 32) × (held n ≡ 1)
  more =
      let e : n - 1 + 1 ≡ n = omega arith in
      let f = full_more (n - 1) some filled in
      (rw e at f.0, f.1, rw e at f.2)

  before : (p + 2 ≤ length s) × Lies s (full (n - 1)) (get_or s p 0)
  before = lies_step s (full (n - 1)) p (rw more.0 at l)

  pub node_in : p + 2 ≤ length s
  node_in = before.0

  pub lies_before : Lies s (full (n - 1)) (get_or s p 0)
  lies_before = before.1

  pub last_node : said s n p h ≡ said s (n - 1) (get_or s p 0) (get_or s (p + 1) 0) ++ (eqb (h % 2) 1 ∷ [])
  last_node = rw (more.2, more.0, bits_step, bits_none, chain_step, more.1, add-one)
