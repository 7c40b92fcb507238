-- Nodes and the words that they stand in.
use Rattle.std.proofs.Common.{◌≡◌, ℕ, ◌+◌, ◌-◌, ◌≤◌, List, ◌++◌, length, take, drop, Ok, Err, Result, MatchResult, sym, ap, subst, add-zero, arith, length-append, length-take}
use Rattle.std.proofs.lemmas.List.{take_rest, take-append-drop}
use Rattle.cycles.specs.declared.fault.Rule.{Rule}
use Rattle.cycles.specs.declared.node.Node.{Node}
use Rattle.cycles.specs.declared.node.Node.TheVariants.{Work, Touch, Seq, Either, Loop, Skip}
use Rattle.cycles.specs.declared.fault.Fault.{Fault}
use Rattle.cycles.specs.Reading.{Begins, Breaks, Judges, Stands, size_of}

-- a node that stands first has all its words there
pub fits : (ws : List ℕ) (node : Node) → Begins ws (Ok node) → (size_of node ≤ length ws) × (1 ≤ size_of node)
fits ws (Work n) b = (omega (arith, ap length b), omega arith)
fits ws (Touch n ks) b = (omega (arith, ap length b, length-append ks.now (drop (3 + length ks.now) ws)), omega arith)
fits ws Seq b = (omega (arith, ap length b), omega arith)
fits ws Either b = (omega (arith, ap length b), omega arith)
fits ws (Loop n) b = (omega (arith, ap length b), omega arith)
fits ws Skip b = (omega (arith, ap length b), omega arith)

-- what the words from a place on begin with
pub begins_rest : (ws : List ℕ) (at : ℕ) (r : Result Node Rule) → Begins (take (length ws - at) (drop at ws)) r → Begins (drop at ws) r
begins_rest ws at r b = subst (λ xs. Begins xs r) (take_rest ws at) b

-- a rule that is broken behind the words before a place is broken there
at_place : (ws : List ℕ) (at k : ℕ) (e : Rule) → at ≤ length ws → Breaks (take at ws ++ drop at ws) (length (take at ws) + k) e → Breaks ws (at + k) e
at_place ws at k e h b =
    let l : length (take at ws) ≡ at = simp length-take (omega arith) in
    subst (λ n. Breaks ws (n + k) e) l (subst (λ xs. Breaks xs (length (take at ws) + k) e) (take-append-drop at ws) b)

module _ (ws : List ℕ) (at loops depth : ℕ) where
  -- no node stands at a place, and why
  pub none_stands : (r : Result Node Rule) (f : Fault) → at ≤ length ws → Begins (take (length ws - at) (drop at ws)) r → MatchResult r (λ _. ⊥) (λ e. f ≡ record { place = at; rule = e }) → Stands ws at loops depth (Err f)
  none_stands (Ok node) f h b m = absurd m
  none_stands (Err e) f h b m =
      let a = begins_rest ws at (Err e) b in
      let k = subst (λ n. Breaks (take at ws ++ drop at ws) n e) (sym (add-zero _)) (a.0 (take at ws)) in
      rw m (subst (λ n. Breaks ws n e) (add-zero _) (at_place ws at 0 e h k), λ p r i o s. a.1 p r i)

  -- a node that breaks a limit
  pub none_keeps : (node : Node) (r : Result (Unit {0}) Fault) (f : Fault) → at ≤ length ws → Begins (take (length ws - at) (drop at ws)) (Ok node) → Judges loops depth node r → MatchResult r (λ _. ⊥) (λ e. f ≡ record { place = at + e.place; rule = e.rule }) → Stands ws at loops depth (Err f)
  none_keeps node (Ok u) f h b j m = absurd m
  none_keeps node (Err e) f h b j m =
      let k = j (take at ws) (drop at ws) (begins_rest ws at (Ok node) b) in
      rw m (at_place ws at e.place e.rule h k.0, k.1)
