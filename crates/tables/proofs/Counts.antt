-- A table has the states that are computed, and asks for no more entries than can stand at once.
use Rattle.std.proofs.Common.{◌≡◌, ℕ, zero, suc, ◌≤◌, Bool, true, false, ◌⊎◌, List, [], ◌∷◌, map, length, sym, refl, ◌∙◌, subst, inl, inr, ⊎_elim, zero-le, arith}
use mathlib.Core.List.{map-map}
use Rattle.std.proofs.lemmas.List.{length-map}
use Rattle.std.proofs.lemmas.Bool.{both_ways}
use Rattle.cycles.specs.Code.{pick, P, work, touch, seq, either, times, skip, Cache, St, empty, after, place}
use Rattle.cycles.specs.Plays.{same_s, has, both, all_after, loop, through, most_loop, widest}
use Rattle.machine.proofs.Lists.{by}
use Rattle.machine.proofs.States.{same_s_is, same_s_refl, In, in_here, in_more, in_cases, in_left, in_right, in_both, after_in, after_out}
use Rattle.tables.specs.Tables.{Entry, Values, join, gather, dedup, turns, turns_need, spent, chose, touched, run, need}
use Rattle.tables.specs.Best.{told, start, NeedWithin}

-- no state twice
pub data Once : List St → Type 0 where
  nil : Once []
  one : {s : St} {l : List St} → (In l s → ⊥) → Once l → Once (s ∷ l)

none_in : (t : St) → In [] t → ⊥
none_in t h = both_ways false refl h

pub once_one : (s : St) → Once (s ∷ [])
once_one s = one (none_in s) nil

-- one state taken out
without_s : St → List St → List St
without_s x [] = []
without_s x (y ∷ l) = pick (same_s y x) l (y ∷ without_s x l)

without_length : (x : St) (l : List St) → In l x → suc (length (without_s x l)) ≡ length l
unfolding without_s
without_length x [] h = absurd (none_in x h)
without_length x (y ∷ l) h = let r = without_length x l in grind arith

without_in : (x t : St) (l : List St) → In l t → (x ≡ t → ⊥) → In (without_s x l) t
unfolding without_s
without_in x t [] h n = h
without_in x t (y ∷ l) h n = by (same_s y x) (λ z. In z t) l (y ∷ without_s x l)
    (λ e. ⊎_elim (λ k. absurd (n (sym (same_s_is y x e) ∙ k))) (λ k. k) (in_cases t y l h))
    (λ _. ⊎_elim (λ k. rw k (in_here t (without_s x l))) (λ k. in_more t y (without_s x l) (without_in x t l k n)) (in_cases t y l h))

-- states that are all among others, each once, are no more than those
pub fewer : {xs : List St} → Once xs → (ys : List St) → ((t : St) → In xs t → In ys t) → length xs ≤ length ys
fewer nil ys f = zero-le
fewer (one {s = x} {l = l} n o) ys f =
    let i : In ys x = f x (in_here x l) in
    let r = fewer o (without_s x ys) (λ t h. without_in x t ys (f t (in_more t x l h)) (λ e. n (rw e h))) in
    omega (arith, without_length x ys i)

-- the states that are computed stand there once each
once_both : {ss ts : List St} → Once ss → Once ts → Once (both ss ts)
once_both nil o = o
once_both {ts = ts} (one {s = s} {l = ss} n q) o = by (has ts s) Once (both ss ts) (s ∷ both ss ts)
    (λ _. once_both q o)
    (λ e. one (λ h. ⊎_elim n (λ k. both_ways (has ts s) e k) (in_both ss ts s h)) (once_both q o))

once_after : (c : Cache) (w : ℕ) (ss : List St) → Once (all_after c w ss)
once_after c w [] = nil
once_after c w (s ∷ ss) = once_both (once_one (after c s w)) (once_after c w ss)

once_loop : (f : ℕ → List St → List St) → ((j : ℕ) (ss : List St) → Once ss → Once (f j ss)) → (k i : ℕ) (ss : List St) → Once ss → Once (loop k i f ss)
once_loop f g zero i ss o = o
once_loop f g (suc k) i ss o = once_loop f g k (suc i) (f i ss) (g i ss o)

pub once_through : (c : Cache) (p : P) (rs : List ℕ) (ss : List St) → Once ss → Once (through c p rs ss)
once_through c (work n) rs ss o = o
once_through c (touch b ks) rs ss o = once_after c (place b ks rs) ss
once_through c (seq p q) rs ss o = once_through c q rs (through c p rs ss) (once_through c p rs ss o)
once_through c (either p q) rs ss o = once_both (once_through c p rs ss o) (once_through c q rs ss o)
once_through c (times n p) rs ss o = once_loop (λ i. through c p (i ∷ rs)) (λ j. once_through c p (j ∷ rs)) n 0 ss o
once_through c skip rs ss o = o

-- no fewer are kept on the way than stand before it
pub widest_least : (c : Cache) (p : P) (rs : List ℕ) (ss : List St) → length ss ≤ widest c p rs ss
widest_least c (work n) rs ss = omega arith
widest_least c (touch b ks) rs ss = omega arith
widest_least c (seq p q) rs ss = omega (arith, widest_least c p rs ss)
widest_least c (either p q) rs ss = omega arith
widest_least c (times zero p) rs ss = omega arith
widest_least c (times (suc n) p) rs ss = omega (arith, widest_least c p (0 ∷ rs) ss)
widest_least c skip rs ss = omega arith

module _ {V : Type 0} where
  -- a table's states
  abbrev pub states : List (Entry V) → List St
  states T = map (λ e. e.st) T

  module _ (best : V → V → V) where
    join_out : (t : St) (T : List (Entry V)) (e : Entry V) → In (states (join best T e)) t → (e.st ≡ t) ⊎ In (states T) t
    join_out t [] e h = in_cases t e.st [] h
    join_out t (f ∷ T) e h = by (same_s f.st e.st) (λ z. In (states z) t → (e.st ≡ t) ⊎ In (f.st ∷ states T) t) (record { st = f.st; val = best f.val e.val } ∷ T) (f ∷ join best T e)
        (λ _ k. inr k)
        (λ _ k. ⊎_elim (λ i. inr (rw i (in_here t (states T)))) (λ i. ⊎_elim inl (λ j. inr (in_more t f.st (states T) j)) (join_out t T e i)) (in_cases t f.st (states (join best T e)) k))
        h

    join_old : (t : St) (T : List (Entry V)) (e : Entry V) → In (states T) t → In (states (join best T e)) t
    join_old t [] e h = absurd (none_in t h)
    join_old t (f ∷ T) e h = by (same_s f.st e.st) (λ z. In (states z) t) (record { st = f.st; val = best f.val e.val } ∷ T) (f ∷ join best T e)
        (λ _. h)
        (λ _. ⊎_elim (λ i. rw i (in_here t (states (join best T e)))) (λ i. in_more t f.st (states (join best T e)) (join_old t T e i)) (in_cases t f.st (states T) h))

    join_new : (T : List (Entry V)) (e : Entry V) → In (states (join best T e)) e.st
    join_new [] e = in_here e.st []
    join_new (f ∷ T) e = by (same_s f.st e.st) (λ z. In (states z) e.st) (record { st = f.st; val = best f.val e.val } ∷ T) (f ∷ join best T e)
        (λ h. rw (same_s_is f.st e.st h) (in_here e.st (states T)))
        (λ _. in_more e.st f.st (states (join best T e)) (join_new T e))

    gather_out : (t : St) (U T : List (Entry V)) → In (states (gather best T U)) t → In (states T) t ⊎ In (states U) t
    gather_out t [] T h = inl h
    gather_out t (e ∷ U) T h = ⊎_elim
        (λ i. ⊎_elim (λ j. inr (rw j (in_here t (states U)))) inl (join_out t T e i))
        (λ i. inr (in_more t e.st (states U) i))
        (gather_out t U (join best T e) h)

    gather_old : (t : St) (U T : List (Entry V)) → In (states T) t → In (states (gather best T U)) t
    gather_old t [] T h = h
    gather_old t (e ∷ U) T h = gather_old t U (join best T e) (join_old t T e h)

    gather_new : (t : St) (U T : List (Entry V)) → In (states U) t → In (states (gather best T U)) t
    gather_new t [] T h = absurd (none_in t h)
    gather_new t (e ∷ U) T h = ⊎_elim
        (λ i. gather_old t U (join best T e) (subst (In (states (join best T e))) i (join_new T e)))
        (λ i. gather_new t U (join best T e) i)
        (in_cases t e.st (states U) h)

    once_join : (T : List (Entry V)) (e : Entry V) → Once (states T) → Once (states (join best T e))
    once_join [] e o = once_one e.st
    once_join (f ∷ T) e (one n o) = by (same_s f.st e.st) (λ z. Once (states z)) (record { st = f.st; val = best f.val e.val } ∷ T) (f ∷ join best T e)
        (λ _. one n o)
        (λ h. one (λ k. ⊎_elim (λ i. both_ways (same_s f.st e.st) h (rw i (same_s_refl f.st))) n (join_out f.st T e k)) (once_join T e o))

    once_gather : (U T : List (Entry V)) → Once (states T) → Once (states (gather best T U))
    once_gather [] T o = o
    once_gather (e ∷ U) T o = once_gather U (join best T e) (once_join T e o)

  -- the states of a table, each as often as may be, and the same states
  pub record Same (T : List (Entry V)) (ss : List St) : Type 0 where
    pub there : (t : St) → In (states T) t → In ss t
    pub back : (t : St) → In ss t → In (states T) t

module _ {V : Type 0} where
  same_as : (T U : List (Entry V)) (ss : List St) → states U ≡ states T → Same T ss → Same U ss
  same_as T U ss e m = record { there = λ t h. m.there t (rw e at h); back = λ t h. rw e (m.back t h) }

  pub same_dedup : (best : V → V → V) (T : List (Entry V)) (ss : List St) → Same T ss → Same (dedup best T) ss
  same_dedup best T ss m = record {
    there = λ t h. ⊎_elim (λ i. absurd (none_in t i)) (m.there t) (gather_out best t T [] h);
    back = λ t h. gather_new best t T [] (m.back t h);
  }

  -- with each state once, a table is as long as its states are many
  pub dedup_length : (best : V → V → V) (T : List (Entry V)) (ss : List St) → Same T ss → Once ss → length (dedup best T) ≡ length ss
  dedup_length best T ss m o =
      let d = same_dedup best T ss m in
      let a = fewer (once_gather best T [] nil) ss d.there in
      let b = fewer o (states (dedup best T)) d.back in
      omega (arith, length-map (dedup best T) (λ e. e.st))

module _ {V : Type 0} (o : Values V) (c : Cache) where
  same_chose : (b : Bool) (T : List (Entry V)) (ss : List St) → Same T ss → Same (map (chose o b) T) ss
  same_chose b T ss = same_as T (map (chose o b) T) ss (map-map (λ e. e.st) (chose o b) T)

  touched_out : (w : ℕ) (t : St) (T : List (Entry V)) → In (states (map (touched o c w) T)) t → (s : St) × In (states T) s × (after c s w ≡ t)
  touched_out w t [] h = absurd (none_in t h)
  touched_out w t (e ∷ T) h = ⊎_elim
      (λ i. (e.st, in_here e.st (states T), i))
      (λ i. let (s, k, is) = touched_out w t T i in (s, in_more s e.st (states T) k, is))
      (in_cases t (after c e.st w) (states (map (touched o c w) T)) h)

  touched_in : (w : ℕ) (s : St) (T : List (Entry V)) → In (states T) s → In (states (map (touched o c w) T)) (after c s w)
  touched_in w s [] h = absurd (none_in s h)
  touched_in w s (e ∷ T) h = ⊎_elim
      (λ i. rw i (in_here (after c s w) (states (map (touched o c w) T))))
      (λ i. in_more (after c s w) (after c e.st w) (states (map (touched o c w) T)) (touched_in w s T i))
      (in_cases s e.st (states T) h)

  same_touched : (w : ℕ) (T : List (Entry V)) (ss : List St) → Same T ss → Same (map (touched o c w) T) (all_after c w ss)
  same_touched w T ss m = record {
    there = λ t h. let (s, i, e) = touched_out w t T h in subst (In (all_after c w ss)) e (after_in c w ss s (m.there s i));
    back = λ t h. let (s, i, e) = after_out c w ss t h in subst (In (states (map (touched o c w) T))) e (touched_in w s T (m.back s i));
  }

  same_turns : (f : ℕ → List (Entry V) → List (Entry V)) (g : ℕ → List St → List St) → ((j : ℕ) (T : List (Entry V)) (ss : List St) → Same T ss → Same (f j T) (g j ss)) → (n i : ℕ) (T : List (Entry V)) (ss : List St) → Same T ss → Same (turns n i f T) (loop n i g ss)
  same_turns f g k zero i T ss m = m
  same_turns f g k (suc n) i T ss m = same_turns f g k n (suc i) (f i T) (g i ss) (k i T ss m)

  -- the states behind a program are those that are computed
  pub same_run : (p : P) (rs : List ℕ) (T : List (Entry V)) (ss : List St) → Same T ss → Same (run o c p rs T) (through c p rs ss)
  same_run (work n) rs T ss m = same_as T (map (spent o n) T) ss (map-map (λ e. e.st) (spent o n) T) m
  same_run (touch b ks) rs T ss m = same_touched (place b ks rs) T ss m
  same_run (seq p q) rs T ss m = same_run q rs (run o c p rs T) (through c p rs ss) (same_run p rs T ss m)
  same_run (either p q) rs T ss m =
      let D : List (Entry V) = dedup o.best T in
      let d = same_dedup o.best T ss m in
      let X : List (Entry V) = dedup o.best (run o c p rs (map (chose o true) D)) in
      let Y : List (Entry V) = run o c q rs (map (chose o false) D) in
      let x = same_dedup o.best (run o c p rs (map (chose o true) D)) (through c p rs ss) (same_run p rs (map (chose o true) D) ss (same_chose true D ss d)) in
      let y = same_run q rs (map (chose o false) D) ss (same_chose false D ss d) in
      record {
        there = λ t h. ⊎_elim (λ i. in_left (through c p rs ss) (through c q rs ss) t (x.there t i)) (λ i. in_right (through c p rs ss) (through c q rs ss) t (y.there t i)) (gather_out o.best t Y X h);
        back = λ t h. ⊎_elim (λ i. gather_old o.best t Y X (x.back t i)) (λ i. gather_new o.best t Y X (y.back t i)) (in_both (through c p rs ss) (through c q rs ss) t h);
      }
  same_run (times n p) rs T ss m = same_turns (λ i. run o c p (i ∷ rs)) (λ i. through c p (i ∷ rs)) (λ j. same_run p (j ∷ rs)) n 0 T ss m
  same_run skip rs T ss m = m

  need_turns : (p : P) (rs : List ℕ) → ((j : ℕ) (T : List (Entry V)) (ss : List St) → Same T ss → Once ss → need o c p (j ∷ rs) T ≤ widest c p (j ∷ rs) ss) → (n i : ℕ) (T : List (Entry V)) (ss : List St) → Same T ss → Once ss
      → turns_need n i (λ j. run o c p (j ∷ rs)) (λ j. need o c p (j ∷ rs)) T ≤ most_loop n i (λ j. through c p (j ∷ rs)) (λ j. widest c p (j ∷ rs)) ss
  need_turns p rs f zero i T ss m u = zero-le
  need_turns p rs f (suc n) i T ss m u =
      let a = f i T ss m u in
      let b = need_turns p rs f n (suc i) (run o c p (i ∷ rs) T) (through c p (i ∷ rs) ss) (same_run p (i ∷ rs) T ss m) (once_through c p (i ∷ rs) ss u) in
      omega arith

  -- no more is asked for than is kept on the way
  pub need_bound : (p : P) (rs : List ℕ) (T : List (Entry V)) (ss : List St) → Same T ss → Once ss → need o c p rs T ≤ widest c p rs ss
  need_bound (work n) rs T ss m u = zero-le
  need_bound (touch b ks) rs T ss m u = zero-le
  need_bound (seq p q) rs T ss m u =
      let a = need_bound p rs T ss m u in
      let b = need_bound q rs (run o c p rs T) (through c p rs ss) (same_run p rs T ss m) (once_through c p rs ss u) in
      omega arith
  need_bound (either p q) rs T ss m u =
      let D : List (Entry V) = dedup o.best T in
      let d = same_dedup o.best T ss m in
      let X : List (Entry V) = map (chose o true) D in
      let Y : List (Entry V) = map (chose o false) D in
      let x = same_chose true D ss d in
      let a = need_bound p rs X ss x u in
      let b = need_bound q rs Y ss (same_chose false D ss d) u in
      let k = dedup_length o.best T ss m u in
      let l = dedup_length o.best (run o c p rs X) (through c p rs ss) (same_run p rs X ss x) (once_through c p rs ss u) in
      let w = widest_least c p rs ss in
      omega arith
  need_bound (times n p) rs T ss m u = need_turns p rs (λ j. need_bound p (j ∷ rs)) n 0 T ss m u
  need_bound skip rs T ss m u = zero-le

pub need_within : NeedWithin
need_within c p = need_bound told c p [] (start c ∷ []) (empty c ∷ []) (record { there = λ t h. h; back = λ t h. h }) (once_one (empty c))
