-- Nodes that break a limit: where, and that no program begins so.
use Rattle.std.proofs.Common.{◌≡◌, ℕ, zero, suc, ◌+◌, ◌<◌, ◌≤◌, true, false, leb, List, [], ◌∷◌, ◌++◌, length, get_or, drop, None, Ok, Err, Result, sym, refl, ap, ◌∙◌, subst, arith, MatchResult}
use Rattle.std.proofs.lemmas.List.{get_or-append-add, get_or_append_left}
use Rattle.std.proofs.lemmas.Bool.{and_parts, and_from, ltb-true, leb-true, leb-false, lt-ltb}
use Rattle.std.specs.List.{position}
use Rattle.cycles.specs.Code.{P, touch}
use Rattle.cycles.specs.Rows.{row, ok, deep, small}
use Rattle.cycles.specs.declared.node.Node.{Node}
use Rattle.cycles.specs.declared.node.Node.TheVariants.{Seq, Either, Loop}
use Rattle.cycles.specs.declared.fault.Fault.{Fault}
use Rattle.cycles.specs.declared.fault.Rule.TheVariants.{Depth}
use Rattle.cycles.specs.Reading.{NoneBegins, Begins, Breaks, Keeps, Judges}
use Rattle.cycles.proofs.Positions.{none_found}
use Rattle.cycles.proofs.Unique.{of, same_parts}

-- a word of ws, told behind the words us
pub behind : (us ws : List ℕ) (k n : ℕ) → get_or ws k 0 ≡ n → n ≡ get_or (us ++ ws) (length us + k) 0
behind us ws k n e = sym (get_or-append-add us ws k 0 ∙ e)

-- a step of a touch, by its place in the touch's words
pub step_at : (b n : ℕ) (ks r : List ℕ) (i : ℕ) → i < length ks → get_or (1 ∷ b ∷ n ∷ (ks ++ r)) (3 + i) 0 ≡ get_or ks i 0
step_at b n ks r i h = get_or-append-add (1 ∷ b ∷ n ∷ []) (ks ++ r) i 0 ∙ get_or_append_left ks r 0 i h

-- of small numbers each is small, and numbers are small if none is found that is not
pub small_at : (xs : List ℕ) (i : ℕ) → i < length xs → small xs ≡ true → get_or xs i 0 < 65536
small_at [] i h s = absurd (omega arith)
small_at (x ∷ xs) zero h s = ltb-true x 65536 (and_parts _ _ s).0
small_at (x ∷ xs) (suc i) h s = small_at xs i (omega arith) (and_parts _ _ s).1

small_from : (xs : List ℕ) → ((k : ℕ) → k < length xs → leb 65536 (get_or xs k 0) ≡ false) → small xs ≡ true
small_from [] f = refl
small_from (x ∷ xs) f = and_from _ _ (lt-ltb x 65536 (leb-false 65536 x (f 0 (omega arith)))) (small_from xs (λ k h. f (suc k) (omega arith)))

pub small_unless : (xs : List ℕ) → position (λ x. leb 65536 x) xs ≡ None → small xs ≡ true
small_unless xs e = small_from xs (none_found (λ x. leb 65536 x) xs e)

module _ (ws : List ℕ) (l d : ℕ) where
  pub work_over : (n : ℕ) → ws ≡ 0 ∷ n ∷ drop 2 ws → 65536 ≤ n → NoneBegins ws l d
  work_over n e m p r h o s =
      let q = of 0 (n ∷ drop 2 ws) p r (sym e ∙ h) in
      let w : n ∷ drop 2 ws ≡ q.0 ∷ r = q.2 in
      let i : n ≡ q.0 = cc in
      omega (arith, ltb-true q.0 65536 (sym (ap (ok l 0) q.1) ∙ o))

  -- what a touch that begins a program keeps
  pub touch_keeps : (b : ℕ) (ks : List ℕ) → ws ≡ 1 ∷ b ∷ length ks ∷ (ks ++ drop (3 + length ks) ws) → (p : P) (r : List ℕ) → ws ≡ row p ++ r → ok l 0 p ≡ true → (b < 65536) × (length ks ≤ l) × (small ks ≡ true)
  touch_keeps b ks e p r h o =
      let q = of 1 (b ∷ length ks ∷ (ks ++ drop (3 + length ks) ws)) p r (sym e ∙ h) in
      let w : b ∷ length ks ∷ (ks ++ drop (3 + length ks) ws) ≡ q.0 ∷ length q.1 ∷ (q.1 ++ r) = q.3 in
      let i : q.0 ≡ b = cc in
      let j = (same_parts q.1 ks r (drop (3 + length ks) ws) (cc) (cc)).0 in
      let t : p ≡ touch b ks = q.2 ∙ cc in
      let a = and_parts _ _ (sym (ap (ok l 0) t) ∙ o) in
      let c = and_parts _ _ a.1 in
      (ltb-true b 65536 a.0, leb-true (length ks) l c.0, c.1)

  pub seq_too_deep : ws ≡ 2 ∷ drop 1 ws → 200 ≤ d → NoneBegins ws l d
  seq_too_deep e f p r h o s = let q = of 2 (drop 1 ws) p r (sym e ∙ h) in omega (arith, ap deep q.2)

  pub either_too_deep : ws ≡ 3 ∷ drop 1 ws → 200 ≤ d → NoneBegins ws l d
  either_too_deep e f p r h o s = let q = of 3 (drop 1 ws) p r (sym e ∙ h) in omega (arith, ap deep q.2)

  -- what a loop that begins a program keeps
  pub loop_keeps : (n : ℕ) → ws ≡ 4 ∷ n ∷ drop 2 ws → (p : P) (r : List ℕ) → ws ≡ row p ++ r → ok l 0 p ≡ true → d + deep p ≤ 200 → (n ≤ 4096) × (l < 8) × (d < 200)
  loop_keeps n e p r h o s =
      let q = of 4 (n ∷ drop 2 ws) p r (sym e ∙ h) in
      let w : n ∷ drop 2 ws ≡ q.0 ∷ (row q.1 ++ r) = q.3 in
      let i : n ≡ q.0 = cc in
      let a = and_parts _ _ (sym (ap (ok l 0) q.2) ∙ o) in
      (omega (arith, leb-true q.0 4096 (and_parts _ _ a.1).0), ltb-true l 8 a.0, omega (arith, ap deep q.2))

-- what is told of a node is told of what it is equal to
pub judges_as : (l d : ℕ) (node n : Node) (r : Result (Unit {0}) Fault) → node ≡ n → Judges l d n r → Judges l d node r
judges_as l d node n r e h = subst (λ v. Judges l d v r) (sym e) h

pub begins_as : (ws : List ℕ) {node n : Node} → node ≡ n → Begins ws (Ok node) → Begins ws (Ok n)
begins_as ws e b = subst (λ v. Begins ws (Ok v)) e b

-- a node that may stand too deep
by_depth : (l d : ℕ) (node : Node) (r : Result (Unit {0}) Fault) → (d < 200 → Keeps l d node) → ((ws : List ℕ) → Begins ws (Ok node) → (2 ≤ get_or ws 0 0) × (get_or ws 0 0 ≤ 4) × (200 ≤ d → NoneBegins ws l d) × (0 < length ws)) → MatchResult r (λ _. d < 200) (λ f. (200 ≤ d) × (f.place ≡ 0) × (f.rule ≡ Depth)) → Judges l d node r
by_depth l d node (Ok u) keeps none h = keeps h
by_depth l d node (Err f) keeps none h = λ us ws b.
    let n = none ws b in
    let w : get_or (us ++ ws) (length us + 0) 0 ≡ get_or ws 0 0 = get_or-append-add us ws 0 0 in
    let at : Breaks (us ++ ws) (length us + 0) Depth = (omega arith, omega arith) in
    (subst (λ k. Breaks (us ++ ws) (length us + k) f.rule) (sym h.1) (subst (λ e. Breaks (us ++ ws) (length us + 0) e) (sym h.2) at), n.2 h.0, omega (arith, n.3, h.1))

module _ (l d : ℕ) (r : Result (Unit {0}) Fault) (h : MatchResult r (λ _. d < 200) (λ f. (200 ≤ d) × (f.place ≡ 0) × (f.rule ≡ Depth))) where
  pub judge_seq : Judges l d Seq r
  judge_seq = by_depth l d Seq r (λ k. k) (λ ws b. (omega (arith, ap (λ xs. get_or xs 0 0) b), omega (arith, ap (λ xs. get_or xs 0 0) b), seq_too_deep ws l d b, omega (arith, ap length b))) h

  pub judge_either : Judges l d Either r
  judge_either = by_depth l d Either r (λ k. k) (λ ws b. (omega (arith, ap (λ xs. get_or xs 0 0) b), omega (arith, ap (λ xs. get_or xs 0 0) b), either_too_deep ws l d b, omega (arith, ap length b))) h

  pub judge_loop : (n : ℕ) → n ≤ 4096 → l < 8 → Judges l d (Loop n) r
  judge_loop n a b =
      by_depth l d (Loop n) r (λ k. (a, b, k)) (λ ws e. (omega (arith, ap (λ xs. get_or xs 0 0) e), omega (arith, ap (λ xs. get_or xs 0 0) e), (λ k p rest f o s. let x = loop_keeps ws l d n e p rest f o s in omega arith), omega (arith, ap length e))) h
