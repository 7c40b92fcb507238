-- A touch keeps a state sound: no line twice, and no more lines in a set than ways.
use Rattle.std.proofs.Common.{◌≡◌, ℕ, zero, suc, ◌≤◌, true, false, eqb, ◌⊎◌, List, [], ◌∷◌, length, take, sym, refl, ap, ◌∙◌, subst, inl, inr, ⊎_elim, arith, length-take}
use mathlib.Core.Option.{Option, some, none}
use Rattle.std.proofs.lemmas.Bool.{both_ways, or_cases, eqb-true, eq-eqb, cases_Bool}
use Rattle.cycles.specs.Code.{pick, opt, nth, put, Cache, St, among, without, line_of, set_of, there, come, after}
use Rattle.cycles.specs.Says.{Sound, StaysSound}
use Rattle.machine.proofs.Lists.{by, lines}

-- no line twice
pub data Once : List ℕ → Type 0 where
  nil : Once []
  one : {x : ℕ} {l : List ℕ} → among x l ≡ false → Once l → Once (x ∷ l)

pub nth_among : (l : List ℕ) (j x : ℕ) → nth l j ≡ some x → among x l ≡ true
nth_among [] j x h = grind arith
nth_among (y ∷ l) zero x h = grind (arith, eq-eqb)
nth_among (y ∷ l) (suc j) x h = let r = nth_among l j x h in grind arith

pub among_nth : (l : List ℕ) (x : ℕ) → among x l ≡ true → (j : ℕ) × (nth l j ≡ some x)
among_nth [] x h = absurd (both_ways false refl h)
among_nth (y ∷ l) x h = ⊎_elim
    (λ e. (0, ap some (sym (eqb-true x y e))))
    (λ e. let r = among_nth l x e in (suc r.0, r.1))
    (or_cases (eqb x y) (among x l) h)

pub among_without : (x z : ℕ) (l : List ℕ) → among z l ≡ false → among z (without x l) ≡ false
among_without x z [] h = h
among_without x z (y ∷ l) h = let r = among_without x z l in grind arith

pub without_gone : (x : ℕ) {l : List ℕ} → Once l → among x (without x l) ≡ false
without_gone x nil = refl
without_gone x (one {x = y} {l = l} h o) = let r = without_gone x o in grind (arith, eqb-true)

pub without_once : (x : ℕ) {l : List ℕ} → Once l → Once (without x l)
without_once x nil = nil
without_once x (one {x = y} {l = l} h o) = by (eqb x y) Once l (y ∷ without x l) (λ _. o) (λ _. one (among_without x y l h) (without_once x o))

pub without_length : (x : ℕ) (l : List ℕ) → among x l ≡ true → suc (length (without x l)) ≡ length l
without_length x [] h = grind arith
without_length x (y ∷ l) h = let r = without_length x l in grind arith

pub among_take : (z n : ℕ) (l : List ℕ) → among z l ≡ false → among z (take n l) ≡ false
among_take z zero l h = refl
among_take z (suc n) [] h = refl
among_take z (suc n) (y ∷ l) h = let r = among_take z n l in grind arith

pub take_once : (n : ℕ) {l : List ℕ} → Once l → Once (take n l)
take_once zero o = nil
take_once (suc n) nil = nil
take_once (suc n) (one {x = x} {l = l} h o) = one (among_take x n l h) (take_once n o)

-- by places, as the statement has it
abbrev pub Apart : List ℕ → Type 0
Apart l = (x j k : ℕ) → nth l j ≡ some x → nth l k ≡ some x → j ≡ k

pub once_in : (l : List ℕ) → Apart l → Once l
once_in [] h = nil
once_in (x ∷ l) h = one
    (⊎_elim (λ e. let r = among_nth l x e in absurd (let z = h x 0 (suc r.0) refl r.1 in omega arith)) (λ e. e) (cases_Bool (among x l)))
    (once_in l (λ z j k p q. let e = h z (suc j) (suc k) p q in omega arith))

pub once_out : {l : List ℕ} → Once l → Apart l
once_out nil x j k p q = grind arith
once_out (one h o) x zero zero p q = refl
once_out (one {l = l} h o) x zero (suc k) p q = let r = nth_among l k x q in grind arith
once_out (one {l = l} h o) x (suc j) zero p q = let r = nth_among l j x p in grind arith
once_out (one h o) x (suc j) (suc k) p q = ap suc (once_out o x j k p q)

-- a set as it should be
pub record Good (w : ℕ) (l : List ℕ) : Type 0 where
  pub few : length l ≤ w
  pub once : Once l

pub put_nth : (s : St) (j i : ℕ) (v l : List ℕ) → nth (put s j v) i ≡ some l → (l ≡ v) ⊎ (nth s i ≡ some l)
put_nth [] j i v l h = inr h
put_nth (x ∷ s) zero zero v l h = inl (cc)
put_nth (x ∷ s) zero (suc i) v l h = inr h
put_nth (x ∷ s) (suc j) zero v l h = inr h
put_nth (x ∷ s) (suc j) (suc i) v l h = put_nth s j i v l h

pub put_length : (s : St) (j : ℕ) (v : List ℕ) → length (put s j v) ≡ length s
put_length [] j v = refl
put_length (x ∷ s) zero v = refl
put_length (x ∷ s) (suc j) v = ap suc (put_length s j v)

pub lines_good : (w : ℕ) (s : St) (i : ℕ) → ((i : ℕ) (l : List ℕ) → nth s i ≡ some l → Good w l) → Good w (lines s i)
lines_good w s i g = go (nth s i) refl
  where
    go : (o : Option (List ℕ)) → nth s i ≡ o → Good w (opt o [] (λ l. l))
    go none e = record { few = omega arith; once = nil }
    go (some l) e = g i l e

pub come_good : (w x : ℕ) (l : List ℕ) → among x l ≡ false → Good w l → Good w (take w (x ∷ l))
come_good w x l h g = record { few = simp length-take (omega arith); once = take_once w (one h g.once) }

pub used_good : (w x : ℕ) (l : List ℕ) → among x l ≡ true → Good w l → Good w (x ∷ without x l)
used_good w x l h g = record { few = omega (arith, without_length x l h, g.few); once = one (without_gone x g.once) (without_once x g.once) }

-- the sets of a sound cache
good_in : (c : Cache) (s : St) → Sound c s → (i : ℕ) (l : List ℕ) → nth s i ≡ some l → Good c.ways l
good_in c s h i l e = record { few = h.ways i l e; once = once_in l (λ x j k. h.once i x j k l e) }

put_sound : (c : Cache) (s : St) (i : ℕ) (v : List ℕ) → Sound c s → Good c.ways v → Sound c (put s i v)
put_sound c s i v h g = record {
  sets = put_length s i v ∙ h.sets;
  ways = λ j l e. (good j l e).few;
  once = λ j x k m l e. once_out (good j l e).once x k m;
}
  where
    good : (j : ℕ) (l : List ℕ) → nth (put s i v) j ≡ some l → Good c.ways l
    good j l e = ⊎_elim (λ z. subst (Good c.ways) (sym z) g) (λ z. good_in c s h j l z) (put_nth s i j v l e)

pub after_sound : (c : Cache) (s : St) (a : ℕ) → Sound c s → Sound c (after c s a)
after_sound c s a h =
    let i = set_of c a in
    let x = line_of c a in
    let l = lines s i in
    let g = lines_good c.ways s i (good_in c s h) in
    by (there c s a) (Sound c) (pick c.used (put s i (x ∷ without x l)) s) (put s i (come c x l))
    (λ e. by c.used (Sound c) (put s i (x ∷ without x l)) s (λ _. put_sound c s i (x ∷ without x l) h (used_good c.ways x l e g)) (λ _. h))
    (λ e. put_sound c s i (come c x l) h (come_good c.ways x l e g))

pub stays_sound : StaysSound
stays_sound s c p t a r h = after_sound c t a h
