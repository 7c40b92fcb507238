-- All states behind a program, as they are computed, are those that plays come to.
use Rattle.std.proofs.Common.{◌≡◌, ℕ, zero, suc, ◌+◌, Bool, true, false, eqb, ◌⊎◌, List, [], ◌∷◌, ◌++◌, sym, refl, subst, ap₂, inl, inr, ⊎_elim}
use Rattle.std.proofs.lemmas.Bool.{both_ways, or_cases, or_left, or_right, and_parts, and_from, eqb-true, eq-eqb}
use Rattle.cycles.specs.Code.{P, work, touch, seq, either, times, skip, Cache, St, after, cost, place}
use Rattle.cycles.specs.Plays.{same_l, same_s, has, both, all_after, loop, through}
use Rattle.cycles.specs.Says.{AllStates}
use Rattle.machine.proofs.Lists.{by}
use Rattle.machine.proofs.Runs.{Run, works, touches, seqs, firsts, seconds, loops, skips, Loop, done, more, Play-is-Run}

pub same_l_is : (x y : List ℕ) → same_l x y ≡ true → x ≡ y
same_l_is [] [] h = refl
same_l_is [] (b ∷ y) h = absurd (both_ways false refl h)
same_l_is (a ∷ x) [] h = absurd (both_ways false refl h)
same_l_is (a ∷ x) (b ∷ y) h = let e = and_parts (eqb a b) (same_l x y) h in ap₂ ◌∷◌ (eqb-true a b e.0) (same_l_is x y e.1)

pub same_l_refl : (x : List ℕ) → same_l x x ≡ true
same_l_refl [] = refl
same_l_refl (a ∷ x) = and_from (eqb a a) (same_l x x) (eq-eqb a a refl) (same_l_refl x)

pub same_s_is : (x y : St) → same_s x y ≡ true → x ≡ y
same_s_is [] [] h = refl
same_s_is [] (b ∷ y) h = absurd (both_ways false refl h)
same_s_is (a ∷ x) [] h = absurd (both_ways false refl h)
same_s_is (a ∷ x) (b ∷ y) h = let e = and_parts (same_l a b) (same_s x y) h in ap₂ ◌∷◌ (same_l_is a b e.0) (same_s_is x y e.1)

pub same_s_refl : (x : St) → same_s x x ≡ true
same_s_refl [] = refl
same_s_refl (a ∷ x) = and_from (same_l a a) (same_s x x) (same_l_refl a) (same_s_refl x)

-- a list of states as a set
abbrev pub In : List St → St → Type 0
In ss s = has ss s ≡ true

pub in_here : (s : St) (ss : List St) → In (s ∷ ss) s
in_here s ss = or_left (same_s s s) (has ss s) (same_s_refl s)

pub in_more : (s t : St) (ss : List St) → In ss s → In (t ∷ ss) s
in_more s t ss h = or_right (same_s t s) (has ss s) h

pub in_cases : (s t : St) (ss : List St) → In (t ∷ ss) s → (t ≡ s) ⊎ In ss s
in_cases s t ss h = ⊎_elim (λ e. inl (same_s_is t s e)) inr (or_cases (same_s t s) (has ss s) h)

pub in_right : (ss ts : List St) (t : St) → In ts t → In (both ss ts) t
in_right [] ts t h = h
in_right (s ∷ ss) ts t h = by (has ts s) (λ z. In z t) (both ss ts) (s ∷ both ss ts) (λ _. in_right ss ts t h) (λ _. in_more t s (both ss ts) (in_right ss ts t h))

pub in_left : (ss ts : List St) (t : St) → In ss t → In (both ss ts) t
in_left [] ts t h = absurd (both_ways false refl h)
in_left (s ∷ ss) ts t h = ⊎_elim
    (λ e. by (has ts s) (λ z. In z t) (both ss ts) (s ∷ both ss ts) (λ k. in_right ss ts t (rw e at k)) (λ _. rw e (in_here t (both ss ts))))
    (λ k. by (has ts s) (λ z. In z t) (both ss ts) (s ∷ both ss ts) (λ _. in_left ss ts t k) (λ _. in_more t s (both ss ts) (in_left ss ts t k)))
    (in_cases t s ss h)

pub in_both : (ss ts : List St) (t : St) → In (both ss ts) t → In ss t ⊎ In ts t
in_both [] ts t h = inr h
in_both (s ∷ ss) ts t h = by (has ts s) (λ z. In z t → In (s ∷ ss) t ⊎ In ts t) (both ss ts) (s ∷ both ss ts)
    (λ _ k. ⊎_elim (λ i. inl (in_more t s ss i)) inr (in_both ss ts t k))
    (λ _ k. ⊎_elim (λ e. inl (rw e (in_here t ss))) (λ k. ⊎_elim (λ i. inl (in_more t s ss i)) inr (in_both ss ts t k)) (in_cases t s (both ss ts) k))
    h

pub after_in : (c : Cache) (w : ℕ) (ss : List St) (s : St) → In ss s → In (all_after c w ss) (after c s w)
after_in c w [] s h = absurd (both_ways false refl h)
after_in c w (t ∷ ss) s h = ⊎_elim
    (λ e. in_left (after c t w ∷ []) (all_after c w ss) (after c s w) (rw e (in_here (after c s w) [])))
    (λ k. in_right (after c t w ∷ []) (all_after c w ss) (after c s w) (after_in c w ss s k))
    (in_cases s t ss h)

pub after_out : (c : Cache) (w : ℕ) (ss : List St) (t : St) → In (all_after c w ss) t → (s : St) × In ss s × (after c s w ≡ t)
after_out c w [] t h = absurd (both_ways false refl h)
after_out c w (s ∷ ss) t h = ⊎_elim
    (λ k. ⊎_elim (λ e. (s, in_here s ss, e)) (λ z. absurd (both_ways false refl z)) (in_cases t (after c s w) [] k))
    (λ k. let (u, i, e) = after_out c w ss t k in (u, in_more u s ss i, e))
    (in_both (after c s w ∷ []) (all_after c w ss) t h)

mutual
  pub through_in : {c : Cache} {p : P} {rs : List ℕ} {s t : St} {bs : List Bool} {n : ℕ} → Run c p rs s bs n t → (ss : List St) → In ss s → In (through c p rs ss) t
  through_in works ss h = h
  through_in {c} (touches {b = b} {ks = ks} {rs = rs} {s = s}) ss h = after_in c (place b ks rs) ss s h
  through_in {c} (seqs {p = p} {rs = rs} r q) ss h = through_in q (through c p rs ss) (through_in r ss h)
  through_in {c} (firsts {p = p} {q = q} {rs = rs} {t = t} r) ss h = in_left (through c p rs ss) (through c q rs ss) t (through_in r ss h)
  through_in {c} (seconds {p = p} {q = q} {rs = rs} {t = t} r) ss h = in_right (through c p rs ss) (through c q rs ss) t (through_in r ss h)
  through_in (loops l) ss h = loop_in l ss h
  through_in skips ss h = h

  pub loop_in : {c : Cache} {k i : ℕ} {p : P} {rs : List ℕ} {s t : St} {bs : List Bool} {n : ℕ} → Loop c k i p rs s bs n t → (ss : List St) → In ss s → In (loop k i (λ j. through c p (j ∷ rs)) ss) t
  loop_in done ss h = h
  loop_in {c} (more {i = i} {p = p} {rs = rs} r l) ss h = loop_in l (through c p (i ∷ rs) ss) (through_in r ss h)

-- come to from one of them
pub record Came (c : Cache) (p : P) (rs : List ℕ) (ss : List St) (t : St) : Type 0 where
  pub from : St
  pub bs : List Bool
  pub n : ℕ
  pub is : In ss from
  pub run : Run c p rs from bs n t

pub record CameL (c : Cache) (k i : ℕ) (p : P) (rs : List ℕ) (ss : List St) (t : St) : Type 0 where
  pub from : St
  pub bs : List Bool
  pub n : ℕ
  pub is : In ss from
  pub run : Loop c k i p rs from bs n t

loop_out : (c : Cache) (p : P) (rs : List ℕ) → ((j : ℕ) (ss : List St) (t : St) → In (through c p (j ∷ rs) ss) t → Came c p (j ∷ rs) ss t) → (k i : ℕ) (ss : List St) (t : St) → In (loop k i (λ j. through c p (j ∷ rs)) ss) t → CameL c k i p rs ss t
loop_out c p rs f zero i ss t h = record { from = t; bs = []; n = 0; is = h; run = done }
loop_out c p rs f (suc k) i ss t h =
    let l = loop_out c p rs f k (suc i) (through c p (i ∷ rs) ss) t h in
    let r = f i ss l.from l.is in
    record { from = r.from; bs = r.bs ++ l.bs; n = r.n + l.n; is = r.is; run = more r.run l.run }

pub through_out : (c : Cache) (p : P) (rs : List ℕ) (ss : List St) (t : St) → In (through c p rs ss) t → Came c p rs ss t
through_out c (work k) rs ss t h = record { from = t; bs = []; n = k; is = h; run = works }
through_out c (touch b ks) rs ss t h =
    let (s, i, e) = after_out c (place b ks rs) ss t h in
    subst (Came c (touch b ks) rs ss) e (record { from = s; bs = []; n = cost c s (place b ks rs); is = i; run = touches })
through_out c (seq p q) rs ss t h =
    let l = through_out c q rs (through c p rs ss) t h in
    let r = through_out c p rs ss l.from l.is in
    record { from = r.from; bs = r.bs ++ l.bs; n = r.n + l.n; is = r.is; run = seqs r.run l.run }
through_out c (either p q) rs ss t h = ⊎_elim
    (λ i. let r = through_out c p rs ss t i in record { from = r.from; bs = true ∷ r.bs; n = r.n; is = r.is; run = firsts r.run })
    (λ i. let r = through_out c q rs ss t i in record { from = r.from; bs = false ∷ r.bs; n = r.n; is = r.is; run = seconds r.run })
    (in_both (through c p rs ss) (through c q rs ss) t h)
through_out c (times k p) rs ss t h =
    let l = loop_out c p rs (λ j. through_out c p (j ∷ rs)) k 0 ss t h in
    record { from = l.from; bs = l.bs; n = l.n; is = l.is; run = loops l.run }
through_out c skip rs ss t h = record { from = t; bs = []; n = 0; is = h; run = skips }

-- from one state alone
pub from_one : (c : Cache) (p : P) (rs : List ℕ) (s t : St) → Came c p rs (s ∷ []) t → (bs : List Bool) × (n : ℕ) × Run c p rs s bs n t
from_one c p rs s t r = ⊎_elim
    (λ e. (r.bs, r.n, subst (λ (u : St). Run c p rs u r.bs r.n t) (sym e) r.run))
    (λ z. absurd (both_ways false refl z))
    (in_cases r.from s [] r.is)

pub all_states : AllStates
all_states c p s t = (
  λ bs n x. through_in ((Play-is-Run c p s t bs n).0 x) (s ∷ []) (in_here s []),
  λ h. let (bs, n, r) = from_one c p [] s t (through_out c p [] (s ∷ []) t h) in (bs, n, (Play-is-Run c p s t bs n).1 r),
)
