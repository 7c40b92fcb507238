-- What words begin with, by their places: enough words for a node, or a rule that is broken.
use Rattle.std.proofs.Common.{◌≡◌, ℕ, ◌+◌, ◌<◌, ◌≤◌, ◌⊎◌, List, ◌++◌, length, get_or, Err, sym, refl, ap, ◌∙◌, inl, inr, add-zero, arith, length-append}
use Rattle.std.proofs.lemmas.List.{get_or-append-add}
use Rattle.cycles.specs.declared.fault.Rule.TheVariants.{NodeMissing, WorkCut, TouchCut, LoopCut, UnknownNode}
use Rattle.cycles.specs.Code.{P, work, touch, seq, either, times, skip}
use Rattle.cycles.specs.Rows.{row}
use Rattle.cycles.specs.Reading.{Begins}

-- words that begin with a program's are as many as its first node takes
abbrev Enough : ℕ → ℕ → ℕ → Type 0
Enough tag count n = ((tag ≡ 0) × (2 ≤ n)) ⊎ (((tag ≡ 1) × (3 + count ≤ n)) ⊎ (((tag ≡ 4) × (2 ≤ n)) ⊎ ((tag ≡ 4 → ⊥) × (2 ≤ tag) × (tag ≤ 5) × (1 ≤ n))))

enough : (ws : List ℕ) (p : P) (r : List ℕ) → ws ≡ row p ++ r → Enough (get_or ws 0 0) (get_or ws 2 0) (length ws)
enough ws (work n) r e = rw e (inl (refl, omega arith))
enough ws (touch b ks) r e = rw e (inr (inl (refl, simp length-append (omega arith))))
enough ws (seq p q) r e = rw e (inr (inr (inr ((λ h. omega arith), omega arith, omega arith, omega arith))))
enough ws (either p q) r e = rw e (inr (inr (inr ((λ h. omega arith), omega arith, omega arith, omega arith))))
enough ws (times n p) r e = rw e (inr (inr (inl (refl, omega arith))))
enough ws skip r e = rw e (inr (inr (inr ((λ h. omega arith), omega arith, omega arith, omega arith))))

-- the first word behind others
seam : (us ws : List ℕ) → get_or (us ++ ws) (length us) 0 ≡ get_or ws 0 0
seam us ws = ap (λ k. get_or (us ++ ws) k 0) (sym (add-zero (length us))) ∙ get_or-append-add us ws 0 0

module _ (ws : List ℕ) where
  pub missing : length ws ≡ 0 → Begins ws (Err NodeMissing)
  missing l = ((λ us. omega (arith, length-append us ws)), λ p r e. let f = enough ws p r e in omega arith)

  pub work_cut : get_or ws 0 0 ≡ 0 → length ws ≡ 1 → Begins ws (Err WorkCut)
  work_cut t l = ((λ us. (seam us ws ∙ t, omega (arith, length-append us ws))), λ p r e. let f = enough ws p r e in omega arith)

  pub loop_cut : get_or ws 0 0 ≡ 4 → length ws ≡ 1 → Begins ws (Err LoopCut)
  loop_cut t l = ((λ us. (seam us ws ∙ t, omega (arith, length-append us ws))), λ p r e. let f = enough ws p r e in omega arith)

  pub touch_cut : get_or ws 0 0 ≡ 1 → 0 < length ws → (2 < length ws → length ws < 3 + get_or ws 2 0) → Begins ws (Err TouchCut)
  touch_cut t l s =
      ((λ us. (seam us ws ∙ t, omega (arith, length-append us ws), λ h. let g = s (omega (arith, length-append us ws)) in omega (arith, length-append us ws, get_or-append-add us ws 2 0))), λ p r e. let f = enough ws p r e in let g = s (omega arith) in omega arith)

  pub unknown : 5 < get_or ws 0 0 → Begins ws (Err (UnknownNode (get_or ws 0 0)))
  unknown t = ((λ us. (sym (seam us ws), t)), λ p r e. let f = enough ws p r e in omega arith)
