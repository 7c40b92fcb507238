-- What slots show as they are changed: cycles spent, an address touched, a choice noted, the better of two tellings kept.
use Rattle.std.proofs.Common.{◌≡◌, ℕ, ◌+◌, ◌≤◌, Bool, List, [], ◌∷◌, ◌++◌, length, drop, sym, ap, ◌∙◌, subst, append-nil, arith}
use Rattle.std.proofs.lemmas.List.{drop-drop}
use Rattle.cycles.specs.Code.{pick, Cache, after, cost}
use Rattle.machine.specs.Cells.{state_of, TidyCells}
use Rattle.machine.proofs.CellLaws.{sets_take}
use Rattle.machine.proofs.Tidying.{tidy_front}
use Rattle.trails.specs.declared.telling.Telling.{Telling}
use Rattle.trails.specs.Trails.{Keeps, telling_of}
use Rattle.tables.specs.declared.slot.Extreme.{Extreme}
use Rattle.tables.specs.declared.slot.Extreme.TheVariants.{Longest, Shortest}
use Rattle.tables.specs.Best.{Val, Both, plus, longer, shorter, told}
use Rattle.tables.specs.Showing.{cells, width, Matches, Shown, Retold, Put, later, as_good, better_of}
use Rattle.tables.specs.Tables.{Entry, spent, touched, chose}
use Rattle.tables.proofs.Lifts.{pick_both}
use Rattle.tables.proofs.Overs.{retold}

pub matches_later : (a : ℕ) (s : List ℕ) (t : Telling) (v : Val) (n : ℕ) → Matches a s t v → Matches a s (later n t) (plus v n [])
matches_later a s t v n m =
    let k = m.sound in
    let l = m.tells in
    let e : v.choices ++ [] ≡ v.choices = append-nil v.choices in
    record {
      time = ap (λ x. x + n) m.time;
      sound = record { few = k.few; within = k.within; small = k.small; lies = k.lies; all = k.all };
      tells = rw e (record { count = l.count; front = l.front });
    }

pub matches_kept : (a : ℕ) (s s' : List ℕ) (t : Telling) (v : Val) → Keeps s s' → Matches a s t v → Matches a s' t v
matches_kept a s s' t v k m = let r = k a t v.choices m.sound m.tells in record { time = m.time; sound = r.0; tells = r.1 }

pub matches_as : (a : ℕ) (s : List ℕ) (t u : Telling) (v : Val) → u ≡ t → Matches a s t v → Matches a s u v
matches_as a s t u v e m = subst (λ z. Matches a s z v) (sym e) m

pub shown_kept : (c : Cache) (a : Both ℕ) (s t ws : List ℕ) (e : Entry (Both Val)) → Keeps s t → Shown c a s ws e → Shown c a t ws e
shown_kept c a s t ws e k m = record { tidy = m.tidy; state = m.state; long = matches_kept a.long s t _ e.val.long k m.long; short = matches_kept a.short s t _ e.val.short k m.short }

-- tellings compare as what they show
abbrev pub as_good_val : Extreme → Val → Val → Bool
as_good_val Longest v w = longer v w
as_good_val Shortest v w = shorter v w

pub compares : (x : Extreme) (t u : Telling) (v w : Val) → t.time ≡ v.time → t.count ≡ length v.choices → u.time ≡ w.time → u.count ≡ length w.choices → as_good x t u ≡ as_good_val x v w
compares Longest t u v w a b c d = rw (a, b, c, d)
compares Shortest t u v w a b c d = rw (a, b, c, d)

matches_better : (x : Extreme) (a : ℕ) (s : List ℕ) (t u : Telling) (v w : Val) → Matches a s t v → Matches a s u w → Matches a s (better_of x t u) (pick (as_good_val x v w) v w)
matches_better x a s t u v w m n = pick_both (Matches a s) (as_good x t u) (as_good_val x v w) t u v w (compares x t u v w m.time m.tells.count n.time n.tells.count) m n

-- a slot whose cells stay shows the same state
pub shown_retold : (c : Cache) (a b : Both ℕ) (s s' ws ws' : List ℕ) (e : Entry (Both Val)) (t u : Telling) (v w : Val) → width c ≤ length ws → length ws' ≡ length ws → Shown c a s ws e → Retold (cells c) ws ws' t u → Matches b.long s' t v → Matches b.short s' u w → Shown c b s' ws' (record { st = e.st; val = record { long = v; short = w } })
shown_retold c a b s s' ws ws' e t u v w h l m r p q =
    let i : cells c ≤ length ws = omega arith in
    let j : cells c ≤ length ws' = omega arith in
    record {
      tidy = tidy_front c.sets c.ways ws ws' (sym r.same) i j m.tidy;
      state = sym (sets_take c.sets c.ways (cells c) ws' (omega arith) j) ∙ ap (state_of c) r.same ∙ sets_take c.sets c.ways (cells c) ws (omega arith) i ∙ m.state;
      long = matches_as b.long s' t _ v r.longest p;
      short = matches_as b.short s' u _ w r.shortest q;
    }

pub shown_spent : (c : Cache) (a : Both ℕ) (s ws ws' : List ℕ) (n : ℕ) (e : Entry (Both Val)) → width c ≤ length ws → length ws' ≡ length ws → Retold (cells c) ws ws' (later n (telling_of (drop (cells c) ws))) (later n (telling_of (drop (cells c + 7) ws))) → Shown c a s ws e → Shown c a s ws' (spent told n e)
shown_spent c a s ws ws' n e h l r m = shown_retold c a a s s ws ws' e _ _ _ _ h l m r (matches_later a.long s _ e.val.long n m.long) (matches_later a.short s _ e.val.short n m.short)

-- the cells touched, the tellings as they were
pub shown_touched : (c : Cache) (a : Both ℕ) (s ws ws' : List ℕ) (w : ℕ) (e : Entry (Both Val)) → state_of c ws' ≡ after c (state_of c ws) w → (TidyCells c ws → TidyCells c ws') → drop (cells c) ws' ≡ drop (cells c) ws → Shown c a s ws e → Shown c a s ws' (record { st = after c e.st w; val = e.val })
shown_touched c a s ws ws' w e after_is tidy same m =
    let d : drop (cells c + 7) ws' ≡ drop (cells c + 7) ws = sym (drop-drop 7 (cells c) ws') ∙ ap (drop 7) same ∙ drop-drop 7 (cells c) ws in
    record {
      tidy = tidy m.tidy;
      state = after_is ∙ ap (λ z. after c z w) m.state;
      long = matches_as a.long s _ _ e.val.long (ap telling_of same) m.long;
      short = matches_as a.short s _ _ e.val.short (ap telling_of d) m.short;
    }

pub shown_improved : (c : Cache) (a : Both ℕ) (s ws ws' vs : List ℕ) (e f : Entry (Both Val)) → width c ≤ length ws → length ws' ≡ length ws → Retold (cells c) ws ws' (better_of Longest (telling_of (drop (cells c) ws)) (telling_of (drop (cells c) vs))) (better_of Shortest (telling_of (drop (cells c + 7) ws)) (telling_of (drop (cells c + 7) vs))) → Shown c a s ws e → Shown c a s vs f → Shown c a s ws' (record { st = e.st; val = told.best e.val f.val })
shown_improved c a s ws ws' vs e f h l r m n =
    shown_retold c a a s s ws ws' e _ _ _ _ h l m r
    (matches_better Longest a.long s (telling_of (drop (cells c) ws)) (telling_of (drop (cells c) vs)) e.val.long f.val.long m.long n.long)
    (matches_better Shortest a.short s (telling_of (drop (cells c + 7) ws)) (telling_of (drop (cells c + 7) vs)) e.val.short f.val.short m.short n.short)

-- a slot of k cells, as the code computes that number
module _ (c : Cache) (a : Both ℕ) (ws xs ys : List ℕ) (k : ℕ) (is : k ≡ cells c) (wide : width c ≤ length ws) (long : length xs ≡ length ws) (as_long : length ys ≡ length xs) where
  -- an address touched, and its cycles spent
  pub shown_touch : (s : List ℕ) (w n : ℕ) (e : Entry (Both Val)) → state_of c xs ≡ after c (state_of c ws) w → (TidyCells c ws → TidyCells c xs) → drop (cells c) xs ≡ drop (cells c) ws → n ≡ cost c (state_of c ws) w → Retold k xs ys (later n (telling_of (drop k xs))) (later n (telling_of (drop (k + 7) xs))) → Shown c a s ws e → Shown c a s ys (touched told c w e)
  shown_touch s w n e after_is tidy same cycles r m =
      let x = shown_touched c a s ws xs w e after_is tidy same m in
      let q : n ≡ cost c e.st w = cycles ∙ ap (λ z. cost c z w) m.state in
      let t = subst (λ j. Retold j xs ys (later n (telling_of (drop j xs))) (later n (telling_of (drop (j + 7) xs)))) is r in
      subst (λ j. Shown c a s ys (record { st = after c e.st w; val = told.spend j e.val })) q (shown_spent c a s xs ys n (record { st = after c e.st w; val = e.val }) (omega arith) as_long t x)

  -- a choice noted in both tellings, one after the other
  pub shown_note : (s s₁ s₂ : List ℕ) (b : Bool) (e : Entry (Both Val)) → Put k ws xs (telling_of (drop k xs)) → Put (k + 7) xs ys (telling_of (drop (k + 7) ys)) → Keeps s s₁ → Keeps s₁ s₂ → ((v : Val) → Matches a.long s (telling_of (drop k ws)) v → Matches a.long s₁ (telling_of (drop k xs)) (plus v 0 (b ∷ []))) → ((v : Val) → Matches a.short s₁ (telling_of (drop (k + 7) xs)) v → Matches a.short s₂ (telling_of (drop (k + 7) ys)) (plus v 0 (b ∷ []))) → Shown c a s ws e → Shown c a s₂ ys (chose told b e)
  shown_note s s₁ s₂ b e p q keeps keeps' f g m =
      let r = retold k ws xs ys _ _ p q in
      let l = f e.val.long (subst (λ j. Matches a.long s (telling_of (drop j ws)) e.val.long) (sym is) m.long) in
      let h = subst (λ j. Matches a.short s (telling_of (drop (j + 7) ws)) e.val.short) (sym is) m.short in
      let i = g e.val.short (matches_as a.short s₁ (telling_of (drop (k + 7) ws)) _ e.val.short (ap telling_of p.behind) (matches_kept a.short s s₁ _ e.val.short keeps h)) in
      shown_retold c a a s s₂ ws ys e (telling_of (drop k xs)) (telling_of (drop (k + 7) ys)) _ _ wide (as_long ∙ long) m (subst (λ j. Retold j ws ys (telling_of (drop k xs)) (telling_of (drop (k + 7) ys))) is r) (matches_kept a.long s₁ s₂ _ _ keeps' l) i
