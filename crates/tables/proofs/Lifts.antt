-- Two tables whose entries stand for one another stay so, whatever is kept of the plays.
use Rattle.std.proofs.Common.{◌≡◌, ℕ, zero, suc, ◌+◌, max, Bool, true, false, List, [], ◌∷◌, map, refl, ap, ap₂}
use Rattle.cycles.specs.Code.{pick, P, work, touch, seq, either, times, skip, Cache, after, cost, place}
use Rattle.cycles.specs.Plays.{same_s}
use Rattle.tables.specs.Tables.{Entry, Values, join, gather, dedup, turns, turns_need, spent, chose, touched, run, need}
use Rattle.tables.specs.Best.{Val, plus, longer, shorter, Both, told}
use Rattle.tables.specs.Each.{Each, no_more, also}
use Rattle.tables.proofs.Eaches.{each_length}

pub each_map : {A B C D : Type 0} {R : A → B → Type 0} (S : C → D → Type 0) (f : A → C) (g : B → D) {xs : List A} {ys : List B} → ((x : A) (y : B) → R x y → S (f x) (g y)) → Each R xs ys → Each S (map f xs) (map g ys)
each_map S f g k no_more = no_more
each_map S f g k (also {x = x} {y = y} r l) = also (k x y r) (each_map S f g k l)

-- the same state, and values that R ties
pub record Like {V W : Type 0} (R : V → W → Type 0) (e : Entry V) (f : Entry W) : Type 0 where
  pub st : e.st ≡ f.st
  pub val : R e.val f.val

-- what is done with values keeps them tied
pub record Respects {V W : Type 0} (o : Values V) (u : Values W) (R : V → W → Type 0) : Type 0 where
  pub spend : (n : ℕ) (v : V) (w : W) → R v w → R (o.spend n v) (u.spend n w)
  pub note : (b : Bool) (v : V) (w : W) → R v w → R (o.note b v) (u.note b w)
  pub best : (v v' : V) (w w' : W) → R v w → R v' w' → R (o.best v v') (u.best w w')

-- one test on both sides
pub pick_both : {A B : Type 0} (S : A → B → Type 0) (b d : Bool) (x y : A) (x' y' : B) → b ≡ d → S x x' → S y y' → S (pick b x y) (pick d x' y')
pick_both S b d x y x' y' e f g = rw e (go d)
  where
    go : (t : Bool) → S (pick t x y) (pick t x' y')
    go true = f
    go false = g

module _ {V W : Type 0} (o : Values V) (u : Values W) (R : V → W → Type 0) (r : Respects o u R) where
  pub join_lift : {T : List (Entry V)} {U : List (Entry W)} (e : Entry V) (f : Entry W) → Like R e f → Each (Like R) T U → Each (Like R) (join o.best T e) (join u.best U f)
  join_lift e f h no_more = also h no_more
  join_lift e f h (also {x = g} {y = k} {xs = T} {ys = U} m l) =
      pick_both (Each (Like R)) (same_s g.st e.st) (same_s k.st f.st)
      (record { st = g.st; val = o.best g.val e.val } ∷ T) (g ∷ join o.best T e)
      (record { st = k.st; val = u.best k.val f.val } ∷ U) (k ∷ join u.best U f)
      (ap₂ same_s m.st h.st)
      (also (record { st = m.st; val = r.best g.val e.val k.val f.val m.val h.val }) l)
      (also m (join_lift e f h l))

  -- what is gathered into stands last, and is written out: the recursion changes it
  pub gather_lift : {T' : List (Entry V)} {U' : List (Entry W)} → Each (Like R) T' U' → (T : List (Entry V)) (U : List (Entry W)) → Each (Like R) T U → Each (Like R) (gather o.best T T') (gather u.best U U')
  gather_lift no_more T U l = l
  gather_lift (also {x = e} {y = f} h k) T U l = gather_lift k (join o.best T e) (join u.best U f) (join_lift e f h l)

  pub dedup_lift : {T : List (Entry V)} {U : List (Entry W)} → Each (Like R) T U → Each (Like R) (dedup o.best T) (dedup u.best U)
  dedup_lift l = gather_lift l [] [] no_more

  pub spent_lift : (n : ℕ) {T : List (Entry V)} {U : List (Entry W)} → Each (Like R) T U → Each (Like R) (map (spent o n) T) (map (spent u n) U)
  spent_lift n = each_map (Like R) (spent o n) (spent u n) (λ e f m. record { st = m.st; val = r.spend n e.val f.val m.val })

  pub chose_lift : (b : Bool) {T : List (Entry V)} {U : List (Entry W)} → Each (Like R) T U → Each (Like R) (map (chose o b) T) (map (chose u b) U)
  chose_lift b = each_map (Like R) (chose o b) (chose u b) (λ e f m. record { st = m.st; val = r.note b e.val f.val m.val })

  pub touched_lift : (c : Cache) (w : ℕ) {T : List (Entry V)} {U : List (Entry W)} → Each (Like R) T U → Each (Like R) (map (touched o c w) T) (map (touched u c w) U)
  touched_lift c w = each_map (Like R) (touched o c w) (touched u c w) (λ e f m. record { st = ap (λ s. after c s w) m.st; val = rw m.st (r.spend (cost c f.st w) e.val f.val m.val) })

  turns_lift : (f : ℕ → List (Entry V) → List (Entry V)) (g : ℕ → List (Entry W) → List (Entry W)) → ((j : ℕ) (T : List (Entry V)) (U : List (Entry W)) → Each (Like R) T U → Each (Like R) (f j T) (g j U)) → (n i : ℕ) (T : List (Entry V)) (U : List (Entry W)) → Each (Like R) T U → Each (Like R) (turns n i f T) (turns n i g U)
  turns_lift f g k zero i T U l = l
  turns_lift f g k (suc n) i T U l = turns_lift f g k n (suc i) (f i T) (g i U) (k i T U l)

  pub run_lift : (c : Cache) (p : P) (rs : List ℕ) (T : List (Entry V)) (U : List (Entry W)) → Each (Like R) T U → Each (Like R) (run o c p rs T) (run u c p rs U)
  run_lift c (work n) rs T U l = spent_lift n l
  run_lift c (touch b ks) rs T U l = touched_lift c (place b ks rs) l
  run_lift c (seq p q) rs T U l = run_lift c q rs (run o c p rs T) (run u c p rs U) (run_lift c p rs T U l)
  run_lift c (either p q) rs T U l =
      let a = dedup_lift l in
      gather_lift
      (run_lift c q rs (map (chose o false) (dedup o.best T)) (map (chose u false) (dedup u.best U)) (chose_lift false a))
      (dedup o.best (run o c p rs (map (chose o true) (dedup o.best T)))) (dedup u.best (run u c p rs (map (chose u true) (dedup u.best U))))
      (dedup_lift (run_lift c p rs (map (chose o true) (dedup o.best T)) (map (chose u true) (dedup u.best U)) (chose_lift true a)))
  run_lift c (times n p) rs T U l = turns_lift (λ i. run o c p (i ∷ rs)) (λ i. run u c p (i ∷ rs)) (λ j. run_lift c p (j ∷ rs)) n 0 T U l
  run_lift c skip rs T U l = l

  -- and as much is asked for
  turns_need_lift : (c : Cache) (p : P) (rs : List ℕ) → ((j : ℕ) (T : List (Entry V)) (U : List (Entry W)) → Each (Like R) T U → need o c p (j ∷ rs) T ≡ need u c p (j ∷ rs) U) → (n i : ℕ) (T : List (Entry V)) (U : List (Entry W)) → Each (Like R) T U
      → turns_need n i (λ j. run o c p (j ∷ rs)) (λ j. need o c p (j ∷ rs)) T ≡ turns_need n i (λ j. run u c p (j ∷ rs)) (λ j. need u c p (j ∷ rs)) U
  turns_need_lift c p rs k zero i T U l = refl
  turns_need_lift c p rs k (suc n) i T U l = ap₂ max (k i T U l) (turns_need_lift c p rs k n (suc i) (run o c p (i ∷ rs) T) (run u c p (i ∷ rs) U) (run_lift c p (i ∷ rs) T U l))

  pub need_lift : (c : Cache) (p : P) (rs : List ℕ) (T : List (Entry V)) (U : List (Entry W)) → Each (Like R) T U → need o c p rs T ≡ need u c p rs U
  need_lift c (work n) rs T U l = refl
  need_lift c (touch b ks) rs T U l = refl
  need_lift c (seq p q) rs T U l = ap₂ max (need_lift c p rs T U l) (need_lift c q rs (run o c p rs T) (run u c p rs U) (run_lift c p rs T U l))
  need_lift c (either p q) rs T U l =
      let a = dedup_lift l in
      let n = each_length a in
      let x : List (Entry V) = map (chose o true) (dedup o.best T) in
      let y : List (Entry W) = map (chose u true) (dedup u.best U) in
      let m = each_length (dedup_lift (run_lift c p rs x y (chose_lift true a))) in
      ap₂ max (ap₂ ◌+◌ n n) (ap₂ max
      (ap₂ ◌+◌ n (need_lift c p rs x y (chose_lift true a)))
      (ap₂ ◌+◌ m (need_lift c q rs (map (chose o false) (dedup o.best T)) (map (chose u false) (dedup u.best U)) (chose_lift false a))))
  need_lift c (times n p) rs T U l = turns_need_lift c p rs (λ j. need_lift c p (j ∷ rs)) n 0 T U l
  need_lift c skip rs T U l = refl

-- one direction alone: a time and choices, and of two the better
abbrev pub single : (Val → Val → Bool) → Values Val
single better = record { spend = λ n v. plus v n []; note = λ b v. plus v 0 (b ∷ []); best = λ v w. pick (better v w) v w }

-- what is told, seen from one side, is such a direction
abbrev pub Sided : (Both Val → Val) → (Val → Val → Bool) → Type 0
Sided side better = Respects told (single better) (λ b v. side b ≡ v)

pub long_side : Sided (λ b. b.long) longer
long_side = record {
  spend = λ n v w e. ap (λ x. plus x n []) e;
  note = λ b v w e. ap (λ x. plus x 0 (b ∷ [])) e;
  best = λ v v' w w' e f. ap₂ (λ x y. pick (longer x y) x y) e f;
}

pub short_side : Sided (λ b. b.short) shorter
short_side = record {
  spend = λ n v w e. ap (λ x. plus x n []) e;
  note = λ b v w e. ap (λ x. plus x 0 (b ∷ [])) e;
  best = λ v v' w w' e f. ap₂ (λ x y. pick (shorter x y) x y) e f;
}
