-- How the reading of a program goes on behind the first of two, and ends.
use Rattle.std.proofs.Common.{◌≡◌, ℕ, zero, suc, ◌+◌, ◌*◌, ◌<◌, ◌≤◌, min, max, true, ◌&&◌, ltb, leb, List, ◌∷◌, ◌++◌, length, drop, Ok, sym, refl, ap, ◌∙◌, subst, inl, inr, append_assoc, suc-mul, zero-mul, add-one, arith, length-append, length-drop}
use Rattle.std.proofs.lemmas.List.{drop-drop}
use Rattle.std.proofs.lemmas.Bool.{and_parts, and_from, cases_lt, lt-ltb, le-leb}
use Rattle.cycles.specs.declared.node.Node.TheVariants.{Work, Seq, Either, Loop, Skip}
use Rattle.cycles.specs.Code.{P, work, touch, seq, either, times, skip}
use Rattle.cycles.specs.Rows.{row, ok, deep, amount, small}
use Rattle.cycles.specs.Reading.{Spans, NoneBegins, Begins}
use Rattle.cycles.proofs.Unique.{of, unique}

-- what is told of the words from a place on, or that no program begins there, is so from the start; much was done before
pub record Along (ws : List ℕ) (loops depth start at much : ℕ) : Type 0 where
  pub within : at ≤ length ws
  pub spans : (end m n : ℕ) → Spans ws loops depth at end m → n ≡ min 4294967297 (much + m) → Spans ws loops depth start end n
  pub none : NoneBegins (drop at ws) loops depth → NoneBegins (drop start ws) loops depth

-- a program's words from a place, and what is behind them
spans_by : (ws : List ℕ) (l d at k m : ℕ) (p : P) → drop at ws ≡ row p ++ drop (at + k) ws → k ≡ length (row p) → at ≤ length ws → ok l 0 p ≡ true → d + deep p ≤ 200 → m ≡ min 4294967297 (amount p) → Spans ws l d at (at + k) m
spans_by ws l d at k m p e len w o s a =
    record {
      p = p;
      is = e;
      long = ap (λ n. at + n) len;
      fine = o;
      shallow = s;
      done = a;
      within = omega (arith, ap length e ∙ length-append (row p) (drop (at + k) ws), length-drop at ws, length-drop (at + k) ws);
    }

-- rounds of what was counted up to a limit come to the same there: none is 0 however large
capped : (n a m : ℕ) → m ≡ min 4294967297 a → min 4294967297 (n * m) ≡ min 4294967297 (n * a)
capped zero a m e = simp zero-mul
capped (suc k) a m e =
    elim (cases_lt 4294967297 a) [ inl h ↦ omega (arith, suc-mul k m, suc-mul k a) | inr h ↦ (let g : m ≡ a = omega arith in ap (λ x. min 4294967297 (suc k * x)) g) ]

-- the words of one program and of another behind it
both_rows : (ws : List ℕ) (p q : P) (at mid end : ℕ) → drop at ws ≡ row p ++ drop mid ws → drop mid ws ≡ row q ++ drop end ws → drop at ws ≡ (row p ++ row q) ++ drop end ws
both_rows ws p q at mid end e f = e ∙ ap (λ t. row p ++ t) f ∙ sym (append_assoc (row p) (row q) (drop end ws))

pub spans_to : (ws : List ℕ) (l d at end m v n : ℕ) → Spans ws l d at end m → v ≡ end → n ≡ m → Spans ws l d at v n
spans_to ws l d at end m v n f e g = subst (λ k. Spans ws l d at k n) (sym e) (subst (λ k. Spans ws l d at end k) (sym g) f)

module _ (ws : List ℕ) (l d at : ℕ) where
  pub further : {start much : ℕ} → Along ws l d start at much → (at' more n : ℕ) → Along ws l d at at' more → n ≡ min 4294967297 (much + more) → Along ws l d start at' n
  further {start} {much} a at' more n b e =
      record {
        within = b.within;
        spans = λ end m k f g. a.spans end (min 4294967297 (more + m)) k (b.spans end m (min 4294967297 (more + m)) f refl) (omega arith);
        none = λ h. a.none (b.none h);
      }

  pub spans_work : (n : ℕ) → at ≤ length ws → d ≤ 200 → Begins (drop at ws) (Ok (Work n)) → n < 65536 → Spans ws l d at (at + 2) 1
  spans_work n w s e h =
      spans_by ws l d at 2 1 (work n) (e ∙ ap (λ t. 0 ∷ n ∷ t) (drop-drop 2 at ws)) refl w (lt-ltb n 65536 h) (omega arith) (omega arith)

  pub spans_skip : at ≤ length ws → d ≤ 200 → Begins (drop at ws) (Ok Skip) → Spans ws l d at (at + 1) 0
  spans_skip w s e = spans_by ws l d at 1 0 skip (e ∙ ap (λ t. 5 ∷ t) (drop-drop 1 at ws)) refl w refl (omega arith) (omega arith)

  pub spans_touch : (b : ℕ) (ks : List ℕ) → at ≤ length ws → d ≤ 200 → drop at ws ≡ 1 ∷ b ∷ length ks ∷ (ks ++ drop (3 + length ks) (drop at ws)) → b < 65536 → length ks ≤ l → small ks ≡ true → Spans ws l d at (at + (3 + length ks)) 1
  spans_touch b ks w s e h k m =
      spans_by ws l d at (3 + length ks) 1 (touch b ks) (e ∙ ap (λ t. 1 ∷ b ∷ length ks ∷ (ks ++ t)) (drop-drop (3 + length ks) at ws)) (omega arith) w (and_from _ _ (lt-ltb b 65536 h) (and_from _ _ (le-leb (length ks) l k) m)) (omega arith) (omega arith)

  -- two one after the other
  pub seq_none : Begins (drop at ws) (Ok Seq) → NoneBegins (drop (at + 1) ws) l (d + 1) → NoneBegins (drop at ws) l d
  seq_none e none p r h o s =
      let q = of 2 (drop 1 (drop at ws)) p r (sym e ∙ h) in
      none q.0 (row q.1 ++ r) (sym (drop-drop 1 at ws) ∙ q.3) (and_parts _ _ (sym (ap (ok l 0) q.2) ∙ o)).0 (omega (arith, ap deep q.2))

  pub seq_along : (mid m : ℕ) → Begins (drop at ws) (Ok Seq) → Spans ws l (d + 1) (at + 1) mid m → Along ws l d at mid m
  seq_along mid m e f =
      record {
        within = f.within;
        spans = λ end k n g i. record {
          p = seq f.p g.p;
          is = e ∙ ap (λ t. 2 ∷ t) (drop-drop 1 at ws ∙ both_rows ws f.p g.p (at + 1) mid end f.is g.is);
          long = omega (arith, f.long, g.long, length-append (row f.p) (row g.p));
          fine = and_from _ _ f.fine g.fine;
          shallow = omega (arith, f.shallow, g.shallow);
          done = omega (arith, f.done, g.done);
          within = g.within;
        };
        none = λ none p r h o s.
            let q = of 2 (drop 1 (drop at ws)) p r (sym e ∙ h) in
            let x = unique q.0 f.p (row q.1 ++ r) (drop mid ws) (sym q.3 ∙ drop-drop 1 at ws ∙ f.is) in
            none q.1 r (sym x.1) (and_parts _ _ (sym (ap (ok l 0) q.2) ∙ o)).1 (omega (arith, ap deep q.2));
      }

  -- either of two
  pub either_none_first : Begins (drop at ws) (Ok Either) → NoneBegins (drop (at + 1) ws) l (d + 1) → NoneBegins (drop at ws) l d
  either_none_first e none p r h o s =
      let q = of 3 (drop 1 (drop at ws)) p r (sym e ∙ h) in
      none q.0 (row q.1 ++ r) (sym (drop-drop 1 at ws) ∙ q.3) (and_parts _ _ (sym (ap (ok l 0) q.2) ∙ o)).0 (omega (arith, ap deep q.2))

  pub either_none_second : (mid m : ℕ) → Begins (drop at ws) (Ok Either) → Spans ws l (d + 1) (at + 1) mid m → NoneBegins (drop mid ws) l (d + 1) → NoneBegins (drop at ws) l d
  either_none_second mid m e f none p r h o s =
      let q = of 3 (drop 1 (drop at ws)) p r (sym e ∙ h) in
      let x = unique q.0 f.p (row q.1 ++ r) (drop mid ws) (sym q.3 ∙ drop-drop 1 at ws ∙ f.is) in
      none q.1 r (sym x.1) (and_parts _ _ (sym (ap (ok l 0) q.2) ∙ o)).1 (omega (arith, ap deep q.2))

  pub spans_either : (mid m end n : ℕ) → Begins (drop at ws) (Ok Either) → Spans ws l (d + 1) (at + 1) mid m → Spans ws l (d + 1) mid end n → Spans ws l d at end (min 4294967297 (1 + max m n))
  spans_either mid m end n e f g =
      record {
        p = either f.p g.p;
        is = e ∙ ap (λ t. 3 ∷ t) (drop-drop 1 at ws ∙ both_rows ws f.p g.p (at + 1) mid end f.is g.is);
        long = omega (arith, f.long, g.long, length-append (row f.p) (row g.p));
        fine = and_from _ _ f.fine g.fine;
        shallow = omega (arith, f.shallow, g.shallow);
        done = omega (arith, f.done, g.done);
        within = g.within;
      }

  -- rounds of one
  pub loop_none : (n : ℕ) → Begins (drop at ws) (Ok (Loop n)) → NoneBegins (drop (at + 2) ws) (l + 1) (d + 1) → NoneBegins (drop at ws) l d
  loop_none n e none p r h o s =
      let q = of 4 (n ∷ drop 2 (drop at ws)) p r (sym e ∙ h) in
      let w : n ∷ drop 2 (drop at ws) ≡ q.0 ∷ (row q.1 ++ r) = q.3 in
      let a = and_parts (ltb l 8) (leb q.0 4096 && ok (suc l) 0 q.1) (sym (ap (ok l 0) q.2) ∙ o) in
      none q.1 r (sym (drop-drop 2 at ws) ∙ cc) (rw add-one (and_parts (leb q.0 4096) (ok (suc l) 0 q.1) a.1).1) (omega (arith, ap deep q.2))

  pub spans_loop : (n end m : ℕ) → Begins (drop at ws) (Ok (Loop n)) → n ≤ 4096 → l < 8 → Spans ws (l + 1) (d + 1) (at + 2) end m → Spans ws l d at end (min 4294967297 (1 + min 4294967297 (n * m)))
  spans_loop n end m e k h f =
      record {
        p = times n f.p;
        is = e ∙ ap (λ t. 4 ∷ n ∷ t) (drop-drop 2 at ws ∙ f.is);
        long = omega (arith, f.long);
        fine = and_from _ _ (lt-ltb l 8 h) (and_from _ _ (le-leb n 4096 k) (rw (← add-one) f.fine));
        shallow = omega (arith, f.shallow);
        done = omega (arith, capped n (amount f.p) m f.done);
        within = f.within;
      }
