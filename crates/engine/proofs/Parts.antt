-- The parts of the program that stands at a place, by its first node.
use Rattle.std.proofs.Common.{◌≡◌, ℕ, suc, ◌+◌, ◌<◌, ◌≤◌, true, ◌&&◌, ltb, leb, List, ◌∷◌, ◌++◌, length, drop, Ok, sym, refl, ap, ◌∙◌, subst, add-one, arith, length-append, length-drop}
use Rattle.std.proofs.lemmas.List.{drop-drop, drop_at}
use Rattle.std.proofs.lemmas.Bool.{and_parts, ltb-true, leb-true}
use Rattle.cycles.specs.declared.node.Node.TheVariants.{Work, Seq, Either, Loop, Skip}
use Rattle.cycles.specs.Code.{P, work, touch, seq, either, times, skip}
use Rattle.cycles.specs.Reading.{Begins}
use Rattle.cycles.specs.Rows.{row, ok, small}
use Rattle.cycles.proofs.Unique.{of, same_parts}
use Rattle.engine.specs.Passing.{Fit}

module _ {ws : List ℕ} {loops at : ℕ} {q : P} {rest : List ℕ} (h : Fit ws loops at q rest) where
  pub is_work : (n : ℕ) → Begins (drop at ws) (Ok (Work n)) → (q ≡ work n) × (n ≤ 65535)
  is_work n b =
      let x = of 0 (n ∷ drop 2 (drop at ws)) q rest (sym b ∙ h.is) in
      let w : n ∷ drop 2 (drop at ws) ≡ x.0 ∷ rest = x.2 in
      let i : x.0 ≡ n = cc in
      let o = ltb-true x.0 65536 (sym (ap (ok loops 0) x.1) ∙ h.fine) in
      (x.1 ∙ ap work i, omega arith)

  pub is_skip : Begins (drop at ws) (Ok Skip) → q ≡ skip
  is_skip b = (of 5 (drop 1 (drop at ws)) q rest (sym b ∙ h.is)).0

  pub is_touch : (b : ℕ) (ks : List ℕ) → drop at ws ≡ 1 ∷ b ∷ length ks ∷ (ks ++ drop (3 + length ks) (drop at ws)) → (q ≡ touch b ks) × (b < 65536) × (length ks ≤ loops) × (small ks ≡ true)
  is_touch b ks n =
      let x = of 1 (b ∷ length ks ∷ (ks ++ drop (3 + length ks) (drop at ws))) q rest (sym n ∙ h.is) in
      let w : b ∷ length ks ∷ (ks ++ drop (3 + length ks) (drop at ws)) ≡ x.0 ∷ length x.1 ∷ (x.1 ++ rest) = x.3 in
      let i : x.0 ≡ b = cc in
      let j = (same_parts x.1 ks rest (drop (3 + length ks) (drop at ws)) (cc) (cc)).0 in
      let t : q ≡ touch b ks = x.2 ∙ cc in
      let a = and_parts _ _ (sym (ap (ok loops 0) t) ∙ h.fine) in
      let d = and_parts _ _ a.1 in
      (t, ltb-true b 65536 a.0, leb-true (length ks) loops d.0, d.1)

  -- two programs behind one word
  both_parts : (k : ℕ) (a b : P) → drop at ws ≡ k ∷ drop 1 (drop at ws) → drop 1 (drop at ws) ≡ row a ++ (row b ++ rest) → ok loops 0 a ≡ true → ok loops 0 b ≡ true → Fit ws loops (at + 1) a (row b ++ rest) × Fit ws loops (at + 1 + length (row a)) b rest
  both_parts k a b n e x y =
      let w : at + 1 ≤ length ws = omega (arith, ap length n, length-drop at ws, h.within) in
      let i : drop (at + 1) ws ≡ row a ++ (row b ++ rest) = sym (drop-drop 1 at ws) ∙ e in (
        record { is = i; within = w; fine = x },
        record {
          is = sym (drop-drop (length (row a)) (at + 1) ws) ∙ ap (drop (length (row a))) i ∙ drop_at (row a) (row b ++ rest) (length (row a)) refl;
          within = omega (arith, w, ap length i, length-append (row a) (row b ++ rest), length-drop (at + 1) ws);
          fine = y;
        },
      )

  pub is_seq : Begins (drop at ws) (Ok Seq) → (a : P) × (b : P) × (q ≡ seq a b) × Fit ws loops (at + 1) a (row b ++ rest) × Fit ws loops (at + 1 + length (row a)) b rest
  is_seq n =
      let x = of 2 (drop 1 (drop at ws)) q rest (sym n ∙ h.is) in
      let o = and_parts (ok loops 0 x.0) (ok loops 0 x.1) (sym (ap (ok loops 0) x.2) ∙ h.fine) in
      let f = both_parts 2 x.0 x.1 n x.3 o.0 o.1 in
      (x.0, x.1, x.2, f.0, f.1)

  pub is_either : Begins (drop at ws) (Ok Either) → (a : P) × (b : P) × (q ≡ either a b) × Fit ws loops (at + 1) a (row b ++ rest) × Fit ws loops (at + 1 + length (row a)) b rest
  is_either n =
      let x = of 3 (drop 1 (drop at ws)) q rest (sym n ∙ h.is) in
      let o = and_parts (ok loops 0 x.0) (ok loops 0 x.1) (sym (ap (ok loops 0) x.2) ∙ h.fine) in
      let f = both_parts 3 x.0 x.1 n x.3 o.0 o.1 in
      (x.0, x.1, x.2, f.0, f.1)

  pub is_loop : (n : ℕ) → Begins (drop at ws) (Ok (Loop n)) → (a : P) × (q ≡ times n a) × Fit ws (loops + 1) (at + 2) a rest × (n ≤ 4096) × (loops < 8)
  is_loop n b =
      let x = of 4 (n ∷ drop 2 (drop at ws)) q rest (sym b ∙ h.is) in
      let w : n ∷ drop 2 (drop at ws) ≡ x.0 ∷ (row x.1 ++ rest) = x.3 in
      let i : x.0 ≡ n = cc in
      let e : q ≡ times n x.1 = x.2 ∙ ap (λ k. times k x.1) i in
      let o = and_parts (ltb loops 8) (leb n 4096 && ok (suc loops) 0 x.1) (sym (ap (ok loops 0) e) ∙ h.fine) in
      let p = and_parts (leb n 4096) (ok (suc loops) 0 x.1) o.1 in
      (x.1, e, record { is = sym (drop-drop 2 at ws) ∙ cc; within = omega (arith, ap length b, length-drop at ws, h.within); fine = rw add-one p.1 }, leb-true n 4096 p.0, ltb-true loops 8 o.0)

  -- the body of a loop, by whatever it is known to be
  pub body_fits : (n : ℕ) (b : P) → Begins (drop at ws) (Ok (Loop n)) → q ≡ times n b → Fit ws (loops + 1) (at + 2) b rest
  body_fits n b i e =
      let (x, k, f, few, nested) = is_loop n i in
      let s : x ≡ b = cc in
      subst (λ z. Fit ws (loops + 1) (at + 2) z rest) s f
