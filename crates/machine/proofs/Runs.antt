-- A program's runs as a relation, for inductions, and that they are its plays.
use Rattle.std.proofs.Common.{◌≡◌, ℕ, zero, suc, ◌+◌, Bool, true, false, ◌↔◌, List, [], ◌∷◌, ◌++◌, refl, ap, ◌∙◌, subst, append_assoc, append-nil, add-zero, add_assoc, zero-add, arith}
use mathlib.Core.Option.{Option, some, none}
use Rattle.std.proofs.lemmas.List.{append_cancel_right}
use Rattle.cycles.specs.Code.{P, work, touch, seq, either, times, skip, Cache, St, after, cost, place}
use Rattle.machine.proofs.Both.{touched}
use Rattle.cycles.specs.Plays.{At, on, spend, choose, left, which, rounds, play, Play}

mutual
  -- the program, the rounds that the loops around are in, the cache before, the choices, the time, the cache behind
  pub data Run (c : Cache) : P → List ℕ → St → List Bool → ℕ → St → Type 0 where
    works : {k : ℕ} {rs : List ℕ} {s : St} → Run c (work k) rs s [] k s
    touches : {b : ℕ} {ks rs : List ℕ} {s : St} → Run c (touch b ks) rs s [] (cost c s (place b ks rs)) (after c s (place b ks rs))
    seqs : {p q : P} {rs : List ℕ} {s t u : St} {bs cs : List Bool} {m n : ℕ} → Run c p rs s bs m t → Run c q rs t cs n u → Run c (seq p q) rs s (bs ++ cs) (m + n) u
    firsts : {p q : P} {rs : List ℕ} {s t : St} {bs : List Bool} {n : ℕ} → Run c p rs s bs n t → Run c (either p q) rs s (true ∷ bs) n t
    seconds : {p q : P} {rs : List ℕ} {s t : St} {bs : List Bool} {n : ℕ} → Run c q rs s bs n t → Run c (either p q) rs s (false ∷ bs) n t
    loops : {k : ℕ} {p : P} {rs : List ℕ} {s t : St} {bs : List Bool} {n : ℕ} → Loop c k 0 p rs s bs n t → Run c (times k p) rs s bs n t
    skips : {rs : List ℕ} {s : St} → Run c skip rs s [] 0 s

  -- so many rounds, from the round i on
  pub data Loop (c : Cache) : ℕ → ℕ → P → List ℕ → St → List Bool → ℕ → St → Type 0 where
    done : {i : ℕ} {p : P} {rs : List ℕ} {s : St} → Loop c 0 i p rs s [] 0 s
    more : {k i : ℕ} {p : P} {rs : List ℕ} {s t u : St} {bs cs : List Bool} {m n : ℕ} → Run c p (i ∷ rs) s bs m t → Loop c k (suc i) p rs t cs n u → Loop c (suc k) i p rs s (bs ++ cs) (m + n) u

-- a place on the way
abbrev pub at : ℕ → St → List Bool → At
at m s bs = record { time = m; st = s; choices = bs }

on_then : (o : Option At) (f : At → Option At) (a : At) (r : Option At) → o ≡ some a → f a ≡ r → on o f ≡ r
on_then o f a r e h = ap (λ (z : Option At). on z f) e ∙ h

mutual
  pub run_play : {c : Cache} {p : P} {rs : List ℕ} {s t : St} {bs : List Bool} {n : ℕ} → Run c p rs s bs n t → (m : ℕ) (ds : List Bool) → play c p rs (at m s (bs ++ ds)) ≡ some (at (m + n) t ds)
  run_play works m ds = refl
  run_play touches m ds = refl
  run_play (seqs {cs = cs} {m = k} r q) m ds = rw append_assoc (on_then _ _ _ _ (run_play r m (cs ++ ds)) (rw add_assoc at (run_play q (m + k) ds)))
  run_play (firsts r) m ds = run_play r m ds
  run_play (seconds r) m ds = run_play r m ds
  run_play (loops l) m ds = loop_play l m ds
  run_play skips m ds = rw add-zero

  pub loop_play : {c : Cache} {k i : ℕ} {p : P} {rs : List ℕ} {s t : St} {bs : List Bool} {n : ℕ} → Loop c k i p rs s bs n t → (m : ℕ) (ds : List Bool) → rounds k i (λ j. play c p (j ∷ rs)) (at m s (bs ++ ds)) ≡ some (at (m + n) t ds)
  loop_play done m ds = rw add-zero
  loop_play (more {cs = cs} {m = k} r l) m ds = rw append_assoc (on_then _ _ _ _ (run_play r m (cs ++ ds)) (rw add_assoc at (loop_play l (m + k) ds)))

-- what a play is, taken apart
pub on_some : (o : Option At) (f : At → Option At) (b : At) → on o f ≡ some b → (x : At) × (o ≡ some x) × (f x ≡ some b)
on_some none f b e = absurd (none≢some b e)
  where
    none≢some : (b : At) → none ≡ some b → ⊥
    none≢some b e = let z : ◌≡◌ {A = ℕ} 0 1 = cc in omega arith
on_some (some x) f b e = (x, refl, e)

choose_some : (xs : List Bool) (f : Bool → List Bool → Option At) (b : At) → choose xs f ≡ some b → (x : Bool) × (ys : List Bool) × (xs ≡ x ∷ ys) × (f x ys ≡ some b)
choose_some [] f b e = absurd (let z : ◌≡◌ {A = ℕ} 0 1 = cc in omega arith)
choose_some (x ∷ ys) f b e = (x, ys, refl, e)

-- a run between two places on the way
pub record Ran (c : Cache) (p : P) (rs : List ℕ) (a b : At) : Type 0 where
  pub bs : List Bool
  pub n : ℕ
  pub used : a.choices ≡ bs ++ b.choices
  pub took : b.time ≡ a.time + n
  pub run : Run c p rs a.st bs n b.st

pub record Looped (c : Cache) (k i : ℕ) (p : P) (rs : List ℕ) (a b : At) : Type 0 where
  pub bs : List Bool
  pub n : ℕ
  pub used : a.choices ≡ bs ++ b.choices
  pub took : b.time ≡ a.time + n
  pub run : Loop c k i p rs a.st bs n b.st

both_used : (xs ys zs bs cs : List Bool) → xs ≡ bs ++ ys → ys ≡ cs ++ zs → xs ≡ (bs ++ cs) ++ zs
both_used xs ys zs bs cs e f = cc (append_assoc bs cs zs)

either_ran : (c : Cache) (p q : P) (rs : List ℕ) (a b : At) {xs : List Bool} → (play c p rs (left a xs) ≡ some b → Ran c p rs (left a xs) b) → (play c q rs (left a xs) ≡ some b → Ran c q rs (left a xs) b)
    → (x : Bool) → a.choices ≡ x ∷ xs → which x (play c p rs) (play c q rs) (left a xs) ≡ some b → Ran c (either p q) rs a b
either_ran c p q rs a b f g true e h = let r = f h in record { bs = true ∷ r.bs; n = r.n; used = cc r.used; took = r.took; run = firsts r.run }
either_ran c p q rs a b f g false e h = let r = g h in record { bs = false ∷ r.bs; n = r.n; used = cc r.used; took = r.took; run = seconds r.run }

rounds_ran : (c : Cache) (p : P) (rs : List ℕ) → ((j : ℕ) (a b : At) → play c p (j ∷ rs) a ≡ some b → Ran c p (j ∷ rs) a b) → (k i : ℕ) (a b : At) → rounds k i (λ j. play c p (j ∷ rs)) a ≡ some b → Looped c k i p rs a b
rounds_ran c p rs f zero i a b e = let z : a ≡ b = cc in subst (Looped c 0 i p rs a) z (record { bs = []; n = 0; used = refl; took = omega arith; run = done })
rounds_ran c p rs f (suc k) i a b e =
    let (x, e₁, e₂) = on_some (play c p (i ∷ rs) a) (rounds k (suc i) (λ j. play c p (j ∷ rs))) b e in
    let r = f i a x e₁ in
    let l = rounds_ran c p rs f k (suc i) x b e₂ in
    record { bs = r.bs ++ l.bs; n = r.n + l.n; used = both_used a.choices x.choices b.choices r.bs l.bs r.used l.used; took = omega arith; run = more r.run l.run }

pub play_run : (c : Cache) (p : P) (rs : List ℕ) (a b : At) → play c p rs a ≡ some b → Ran c p rs a b
play_run c (work k) rs a b e = let z : spend k a ≡ b = cc in subst (Ran c (work k) rs a) z (record { bs = []; n = k; used = refl; took = refl; run = works })
play_run c (touch w ks) rs a b e = let z : touched c (place w ks rs) a ≡ b = cc in subst (Ran c (touch w ks) rs a) z (record { bs = []; n = cost c a.st (place w ks rs); used = refl; took = refl; run = touches })
play_run c (seq p q) rs a b e =
    let (x, e₁, e₂) = on_some (play c p rs a) (play c q rs) b e in
    let r = play_run c p rs a x e₁ in
    let l = play_run c q rs x b e₂ in
    record { bs = r.bs ++ l.bs; n = r.n + l.n; used = both_used a.choices x.choices b.choices r.bs l.bs r.used l.used; took = omega arith; run = seqs r.run l.run }
play_run c (either p q) rs a b e =
    let (x, xs, e₁, e₂) = choose_some a.choices _ b e in
    either_ran c p q rs a b (play_run c p rs (left a xs) b) (play_run c q rs (left a xs) b) x e₁ e₂
play_run c (times k p) rs a b e =
    let l = rounds_ran c p rs (λ j. play_run c p (j ∷ rs)) k 0 a b e in
    record { bs = l.bs; n = l.n; used = l.used; took = l.took; run = loops l.run }
play_run c skip rs a b e = let z : a ≡ b = cc in subst (Ran c skip rs a) z (record { bs = []; n = 0; used = refl; took = omega arith; run = skips })

-- the two say the same
pub run_exact : (c : Cache) (p : P) (rs : List ℕ) (m n : ℕ) (s t : St) (bs ds : List Bool) → play c p rs (at m s (bs ++ ds)) ≡ some (at (m + n) t ds) → Run c p rs s bs n t
run_exact c p rs m n s t bs ds e =
    let r = play_run c p rs (at m s (bs ++ ds)) (at (m + n) t ds) e in
    let z : r.n ≡ n = omega (arith, r.took) in
    rw (z, ← append_cancel_right bs r.bs ds r.used) at r.run

pub runs_are_plays : (c : Cache) (p : P) (rs : List ℕ) (m n : ℕ) (s t : St) (bs ds : List Bool) → Run c p rs s bs n t ↔ (play c p rs (at m s (bs ++ ds)) ≡ some (at (m + n) t ds))
runs_are_plays c p rs m n s t bs ds = (λ r. run_play r m ds, run_exact c p rs m n s t bs ds)

pub Play-is-Run : (c : Cache) (p : P) (s t : St) (bs : List Bool) (n : ℕ) → Play c p s bs n t ↔ Run c p [] s bs n t
Play-is-Run c p s t bs n = (
  λ e. run_exact c p [] 0 n s t bs [] (rw (append-nil bs, zero-add n) e),
  λ r. rw (append-nil bs, zero-add n) at (run_play r 0 []),
)
