-- The table behind a program is exact: each entry is come to, and nothing comes to a state with better.
use Rattle.std.proofs.Common.{◌≡◌, ℕ, zero, suc, ◌+◌, Bool, true, false, List, [], ◌∷◌, ◌++◌, map, sym, refl, ap, ◌∙◌, subst, append_assoc, append-nil, add-zero, add_assoc, arith, length-append}
use Rattle.cycles.specs.Code.{pick, P, work, touch, seq, either, times, skip, Cache, St, after, cost, place}
use Rattle.cycles.specs.Plays.{same_s}
use Rattle.machine.proofs.Lists.{by}
use Rattle.machine.proofs.States.{same_s_is}
use Rattle.machine.proofs.Runs.{Run, works, touches, seqs, firsts, seconds, loops, skips, Loop, done, more, Play-is-Run}
use Rattle.tables.specs.Tables.{Entry, join, gather, dedup, turns, spent, chose, touched, run}
use Rattle.tables.specs.Best.{Val, plus, longer, shorter, Both, told, Table, Has, first, later, ExactBy, TableExact}
use Rattle.tables.proofs.Lifts.{Sided, long_side, short_side}

-- a total order on values that a common sequel keeps
pub record Order (better : Val → Val → Bool) : Type 0 where
  pub itself : (v : Val) → better v v ≡ true
  pub chain : (u v w : Val) → better u v ≡ true → better v w ≡ true → better u w ≡ true
  pub total : (v w : Val) → better v w ≡ false → better w v ≡ true
  pub sequel : (v w : Val) (n : ℕ) (bs : List Bool) → better v w ≡ true → better (plus v n bs) (plus w n bs) ≡ true

pub longest_first : Order longer
longest_first = record {
  itself = λ v. grind arith;
  chain = λ u v w h k. grind arith;
  total = λ v w h. grind arith;
  sequel = λ v w n bs h. grind (arith, length-append);
}

pub shortest_first : Order shorter
shortest_first = record {
  itself = λ v. grind arith;
  chain = λ u v w h k. grind arith;
  total = λ v w h. grind arith;
  sequel = λ v w n bs h. grind (arith, length-append);
}

pub plus_plus : (v : Val) (m n : ℕ) (bs cs : List Bool) → plus (plus v m bs) n cs ≡ plus v (m + n) (bs ++ cs)
plus_plus v m n bs cs = simp (add_assoc, append_assoc)

pub plus_none : (v : Val) → plus v 0 [] ≡ v
plus_none v = simp (add-zero, append-nil)

plus_mark : (v : Val) (b : Bool) (n : ℕ) (bs : List Bool) → plus (plus v 0 (b ∷ [])) n bs ≡ plus v n (b ∷ bs)
plus_mark v b n bs = simp (add-zero, append_assoc)

-- come to from what Q holds of
pub record After (c : Cache) (p : P) (rs : List ℕ) (Q : St → Val → Type 0) (t : St) (w : Val) : Type 0 where
  pub from : St
  pub val : Val
  pub bs : List Bool
  pub n : ℕ
  pub was : Q from val
  pub ran : Run c p rs from bs n t
  pub is : w ≡ plus val n bs

record AfterL (c : Cache) (k i : ℕ) (p : P) (rs : List ℕ) (Q : St → Val → Type 0) (t : St) (w : Val) : Type 0 where
  pub from : St
  pub val : Val
  pub bs : List Bool
  pub n : ℕ
  pub was : Q from val
  pub ran : Loop c k i p rs from bs n t
  pub is : w ≡ plus val n bs

-- marked by a choice
abbrev Marked : Bool → (St → Val → Type 0) → St → Val → Type 0
Marked b Q s v = (u : Val) × Q s u × (v ≡ plus u 0 (b ∷ []))

two_plus : (u v w : Val) (m n : ℕ) (bs cs : List Bool) → v ≡ plus u m bs → w ≡ plus v n cs → w ≡ plus u (m + n) (bs ++ cs)
two_plus u v w m n bs cs e f = cc (plus_plus u m n bs cs)

marked : (b : Bool) (u v w : Val) (n : ℕ) (bs : List Bool) → v ≡ plus u 0 (b ∷ []) → w ≡ plus v n bs → w ≡ plus u n (b ∷ bs)
marked b u v w n bs e f = cc (plus_mark u b n bs)

module _ (c : Cache) (rs : List ℕ) (Q : St → Val → Type 0) (s : St) (v : Val) where
  after_work : (k : ℕ) → Q s v → After c (work k) rs Q s (plus v k [])
  after_work k q = record { from = s; val = v; bs = []; n = k; was = q; ran = works; is = refl }

  after_touch : (b : ℕ) (ks : List ℕ) → Q s v → After c (touch b ks) rs Q (after c s (place b ks rs)) (plus v (cost c s (place b ks rs)) [])
  after_touch b ks q = record { from = s; val = v; bs = []; n = cost c s (place b ks rs); was = q; ran = touches; is = refl }

  after_seq : (p q : P) → After c q rs (After c p rs Q) s v → After c (seq p q) rs Q s v
  after_seq p q l = let r = l.was in record { from = r.from; val = r.val; bs = r.bs ++ l.bs; n = r.n + l.n; was = r.was; ran = seqs r.ran l.ran; is = two_plus r.val l.val v r.n l.n r.bs l.bs r.is l.is }

  after_first : (p q : P) → After c p rs (Marked true Q) s v → After c (either p q) rs Q s v
  after_first p q l = let (u, z, e) = l.was in record { from = l.from; val = u; bs = true ∷ l.bs; n = l.n; was = z; ran = firsts l.ran; is = marked true u l.val v l.n l.bs e l.is }

  after_second : (p q : P) → After c q rs (Marked false Q) s v → After c (either p q) rs Q s v
  after_second p q l = let (u, z, e) = l.was in record { from = l.from; val = u; bs = false ∷ l.bs; n = l.n; was = z; ran = seconds l.ran; is = marked false u l.val v l.n l.bs e l.is }

  after_done : (i : ℕ) (p : P) → Q s v → AfterL c 0 i p rs Q s v
  after_done i p q = record { from = s; val = v; bs = []; n = 0; was = q; ran = done; is = sym (plus_none v) }

  after_more : (k i : ℕ) (p : P) → AfterL c k (suc i) p rs (After c p (i ∷ rs) Q) s v → AfterL c (suc k) i p rs Q s v
  after_more k i p l = let r = l.was in record { from = r.from; val = r.val; bs = r.bs ++ l.bs; n = r.n + l.n; was = r.was; ran = more r.ran l.ran; is = two_plus r.val l.val v r.n l.n r.bs l.bs r.is l.is }

  after_times : (k : ℕ) (p : P) → AfterL c k 0 p rs Q s v → After c (times k p) rs Q s v
  after_times k p l = record { from = l.from; val = l.val; bs = l.bs; n = l.n; was = l.was; ran = loops l.ran; is = l.is }

  after_skip : Q s v → After c skip rs Q s v
  after_skip q = record { from = s; val = v; bs = []; n = 0; was = q; ran = skips; is = sym (plus_none v) }

module _ (side : Both Val → Val) where
  -- what holds of each entry, as one side tells it
  pub data All (Q : St → Val → Type 0) : Table → Type 0 where
    no_entry : All Q []
    entry : {e : Entry (Both Val)} {T : Table} → Q e.st (side e.val) → All Q T → All Q (e ∷ T)

module _ (side : Both Val → Val) where
  pub all_map : (Q R : St → Val → Type 0) {T : Table} → ((s : St) (v : Val) → Q s v → R s v) → All side Q T → All side R T
  all_map Q R f no_entry = no_entry
  all_map Q R f (entry {e = e} q a) = entry (f e.st (side e.val) q) (all_map Q R f a)

  -- each entry changed
  all_each : (Q R : St → Val → Type 0) (g : Entry (Both Val) → Entry (Both Val)) {T : Table} → ((e : Entry (Both Val)) → Q e.st (side e.val) → R (g e).st (side (g e).val)) → All side Q T → All side R (map g T)
  all_each Q R g f no_entry = no_entry
  all_each Q R g f (entry {e = e} q a) = entry (f e q) (all_each Q R g f a)

  pub all_of : (Q : St → Val → Type 0) (T : Table) → ((e : Entry (Both Val)) → Has e T → Q e.st (side e.val)) → All side Q T
  all_of Q [] f = no_entry
  all_of Q (e ∷ T) f = entry (f e first) (all_of Q T (λ g h. f g (later h)))

  pub all_at : (Q : St → Val → Type 0) (e : Entry (Both Val)) {T : Table} → Has e T → All side Q T → Q e.st (side e.val)
  all_at Q e first (entry q a) = q
  all_at Q e (later h) (entry q a) = all_at Q e h a

module _ (side : Both Val → Val) (better : Val → Val → Bool) (d : Sided side better) where
  side_best : (v w : Both Val) → side (told.best v w) ≡ pick (better (side v) (side w)) (side v) (side w)
  side_best v w = d.best v w (side v) (side w) refl refl

  all_join : (Q : St → Val → Type 0) (e : Entry (Both Val)) {T : Table} → Q e.st (side e.val) → All side Q T → All side Q (join told.best T e)
  all_join Q e q no_entry = entry q no_entry
  all_join Q e q (entry {e = f} {T = T} r a) =
      by (same_s f.st e.st) (All side Q) (record { st = f.st; val = told.best f.val e.val } ∷ T) (f ∷ join told.best T e)
      (λ h. entry (subst (Q f.st) (sym (side_best f.val e.val)) (by (better (side f.val) (side e.val)) (Q f.st) (side f.val) (side e.val) (λ _. r) (λ _. subst (λ (z : St). Q z (side e.val)) (sym (same_s_is f.st e.st h)) q))) a)
      (λ _. entry r (all_join Q e q a))

  pub all_gather : (Q : St → Val → Type 0) {U : Table} → All side Q U → (T : Table) → All side Q T → All side Q (gather told.best T U)
  all_gather Q no_entry T a = a
  all_gather Q (entry {e = e} q b) T a = all_gather Q b (join told.best T e) (all_join Q e q a)

  pub all_dedup : (Q : St → Val → Type 0) {T : Table} → All side Q T → All side Q (dedup told.best T)
  all_dedup Q a = all_gather Q a [] no_entry

  all_chose : (b : Bool) (Q : St → Val → Type 0) {T : Table} → All side Q T → All side (Marked b Q) (map (chose told b) T)
  all_chose b Q a = all_each side Q (Marked b Q) (chose told b) (λ e q. (side e.val, q, d.note b e.val (side e.val) refl)) a

  turns_after : (c : Cache) (p : P) (rs : List ℕ) → ((j : ℕ) (Q : St → Val → Type 0) (T : Table) → All side Q T → All side (After c p (j ∷ rs) Q) (run told c p (j ∷ rs) T)) → (k i : ℕ) (Q : St → Val → Type 0) (T : Table) → All side Q T → All side (AfterL c k i p rs Q) (turns k i (λ j. run told c p (j ∷ rs)) T)
  turns_after c p rs f zero i Q T a = all_map side Q (AfterL c 0 i p rs Q) (λ s v. after_done c rs Q s v i p) a
  turns_after c p rs f (suc k) i Q T a =
      all_map side (AfterL c k (suc i) p rs (After c p (i ∷ rs) Q)) (AfterL c (suc k) i p rs Q) (λ s v. after_more c rs Q s v k i p)
      (turns_after c p rs f k (suc i) (After c p (i ∷ rs) Q) (run told c p (i ∷ rs) T) (f i Q T a))

  -- each entry is come to
  pub run_after : (c : Cache) (p : P) (rs : List ℕ) (Q : St → Val → Type 0) (T : Table) → All side Q T → All side (After c p rs Q) (run told c p rs T)
  run_after c (work k) rs Q T a = all_each side Q (After c (work k) rs Q) (spent told k)
      (λ e q. rw (d.spend k e.val (side e.val) refl) (after_work c rs Q e.st (side e.val) k q)) a
  run_after c (touch b ks) rs Q T a = all_each side Q (After c (touch b ks) rs Q) (touched told c (place b ks rs))
      (λ e q. rw (d.spend (cost c e.st (place b ks rs)) e.val (side e.val) refl) (after_touch c rs Q e.st (side e.val) b ks q)) a
  run_after c (seq p q) rs Q T a =
      all_map side (After c q rs (After c p rs Q)) (After c (seq p q) rs Q) (λ s v. after_seq c rs Q s v p q)
      (run_after c q rs (After c p rs Q) (run told c p rs T) (run_after c p rs Q T a))
  run_after c (either p q) rs Q T a =
      let x : Table = map (chose told true) (dedup told.best T) in
      let y : Table = map (chose told false) (dedup told.best T) in
      let one = all_map side (After c p rs (Marked true Q)) (After c (either p q) rs Q) (λ s v. after_first c rs Q s v p q) (run_after c p rs (Marked true Q) x (all_chose true Q (all_dedup Q a))) in
      let two = all_map side (After c q rs (Marked false Q)) (After c (either p q) rs Q) (λ s v. after_second c rs Q s v p q) (run_after c q rs (Marked false Q) y (all_chose false Q (all_dedup Q a))) in
      all_gather (After c (either p q) rs Q) two (dedup told.best (run told c p rs x)) (all_dedup (After c (either p q) rs Q) one)
  run_after c (times k p) rs Q T a =
      all_map side (AfterL c k 0 p rs Q) (After c (times k p) rs Q) (λ s v. after_times c rs Q s v k p)
      (turns_after c p rs (λ j. run_after c p (j ∷ rs)) k 0 Q T a)
  run_after c skip rs Q T a = all_map side Q (After c skip rs Q) (λ s v. after_skip c rs Q s v) a

-- at t, something at least as good as v
module _ (side : Both Val → Val) (better : Val → Val → Bool) where
  pub data Holds (t : St) (v : Val) : Table → Type 0 where
    here : {e : Entry (Both Val)} {T : Table} → e.st ≡ t → better (side e.val) v ≡ true → Holds t v (e ∷ T)
    next : {e : Entry (Both Val)} {T : Table} → Holds t v T → Holds t v (e ∷ T)

module _ (side : Both Val → Val) (better : Val → Val → Bool) (d : Sided side better) (o : Order better) where
  holds_less : {t : St} (v w : Val) {T : Table} → better v w ≡ true → Holds side better t v T → Holds side better t w T
  holds_less v w h (here {e = e} is b) = here is (o.chain (side e.val) v w b h)
  holds_less v w h (next k) = next (holds_less v w h k)

  -- the better of two is at least as good as each
  of_left : (v w : Both Val) → better (side (told.best v w)) (side v) ≡ true
  of_left v w = rw (side_best side better d v w) (by (better (side v) (side w)) (λ z. better z (side v) ≡ true) (side v) (side w) (λ _. o.itself (side v)) (λ e. o.total (side v) (side w) e))

  of_right : (v w : Both Val) → better (side (told.best v w)) (side w) ≡ true
  of_right v w = rw (side_best side better d v w) (by (better (side v) (side w)) (λ z. better z (side w) ≡ true) (side v) (side w) (λ e. e) (λ _. o.itself (side w)))

  join_new : (e : Entry (Both Val)) (T : Table) → Holds side better e.st (side e.val) (join told.best T e)
  join_new e [] = here refl (o.itself (side e.val))
  join_new e (f ∷ T) = by (same_s f.st e.st) (Holds side better e.st (side e.val)) (record { st = f.st; val = told.best f.val e.val } ∷ T) (f ∷ join told.best T e)
      (λ h. here (same_s_is f.st e.st h) (of_right f.val e.val))
      (λ _. next (join_new e T))

  join_old : {t : St} {v : Val} {T : Table} (e : Entry (Both Val)) → Holds side better t v T → Holds side better t v (join told.best T e)
  join_old {t} {v} e (here {e = f} {T = T} is b) = by (same_s f.st e.st) (Holds side better t v) (record { st = f.st; val = told.best f.val e.val } ∷ T) (f ∷ join told.best T e)
      (λ _. here is (o.chain (side (told.best f.val e.val)) (side f.val) v (of_left f.val e.val) b))
      (λ _. here is b)
  join_old {t} {v} e (next {e = f} {T = T} k) = by (same_s f.st e.st) (Holds side better t v) (record { st = f.st; val = told.best f.val e.val } ∷ T) (f ∷ join told.best T e)
      (λ _. next k)
      (λ _. next (join_old e k))

  gather_old : {t : St} {v : Val} (U T : Table) → Holds side better t v T → Holds side better t v (gather told.best T U)
  gather_old [] T h = h
  gather_old (e ∷ U) T h = gather_old U (join told.best T e) (join_old e h)

  gather_new : {t : St} {v : Val} {U : Table} → Holds side better t v U → (T : Table) → Holds side better t v (gather told.best T U)
  gather_new {t} {v} (here {e = e} {T = U} is b) T = gather_old U (join told.best T e)
      (subst (λ (z : St). Holds side better z v (join told.best T e)) is (holds_less (side e.val) v b (join_new e T)))
  gather_new (next {e = e} k) T = gather_new k (join told.best T e)

  dedup_holds : {t : St} {v : Val} {T : Table} → Holds side better t v T → Holds side better t v (dedup told.best T)
  dedup_holds h = gather_new h []

  -- each entry goes on by as much
  spent_holds : {t : St} {v : Val} {T : Table} (n : ℕ) → Holds side better t v T → Holds side better t (plus v n []) (map (spent told n) T)
  spent_holds {v = v} n (here {e = e} is b) = here is (rw (d.spend n e.val (side e.val) refl) (o.sequel (side e.val) v n [] b))
  spent_holds n (next k) = next (spent_holds n k)

  chose_holds : {t : St} {v : Val} {T : Table} (b : Bool) → Holds side better t v T → Holds side better t (plus v 0 (b ∷ [])) (map (chose told b) T)
  chose_holds {v = v} b (here {e = e} is h) = here is (rw (d.note b e.val (side e.val) refl) (o.sequel (side e.val) v 0 (b ∷ []) h))
  chose_holds b (next k) = next (chose_holds b k)

  touched_holds : {t : St} {v : Val} {T : Table} (c : Cache) (w : ℕ) → Holds side better t v T → Holds side better (after c t w) (plus v (cost c t w) []) (map (touched told c w) T)
  touched_holds {v = v} c w (here {e = e} {T = T} is b) =
      subst (λ (z : St). Holds side better (after c z w) (plus v (cost c z w) []) (map (touched told c w) (e ∷ T))) is
      (here refl (rw (d.spend (cost c e.st w) e.val (side e.val) refl) (o.sequel (side e.val) v (cost c e.st w) [] b)))
  touched_holds c w (next k) = next (touched_holds c w k)

  pub has_holds : {e : Entry (Both Val)} {T : Table} → Has e T → Holds side better e.st (side e.val) T
  has_holds {e} first = here refl (o.itself (side e.val))
  has_holds (later h) = next (has_holds h)

  pub holds_has : {t : St} {v : Val} {T : Table} → Holds side better t v T → (e : Entry (Both Val)) × Has e T × (e.st ≡ t) × (better (side e.val) v ≡ true)
  holds_has (here {e = e} is b) = (e, first, is, b)
  holds_has (next k) = let (e, h, is, b) = holds_has k in (e, later h, is, b)

  mutual
    -- each run ends in a state whose entry is at least as good
    pub run_holds : {c : Cache} {p : P} {rs : List ℕ} {s t : St} {bs : List Bool} {n : ℕ} → Run c p rs s bs n t → (v : Val) (T : Table) → Holds side better s v T → Holds side better t (plus v n bs) (run told c p rs T)
    run_holds (works {k = k}) v T h = spent_holds k h
    run_holds {c} (touches {b = b} {ks = ks} {rs = rs}) v T h = touched_holds c (place b ks rs) h
    run_holds {c} (seqs {p = p} {rs = rs} {bs = bs} {cs = cs} {m = m} {n = n} r q) v T h = rw (← plus_plus v m n bs cs) (run_holds q (plus v m bs) (run told c p rs T) (run_holds r v T h))
    run_holds {c} (firsts {p = p} {q = q} {rs = rs} {bs = bs} {n = n} r) v T h =
        let x : Table = map (chose told true) (dedup told.best T) in
        let y : Table = map (chose told false) (dedup told.best T) in
        rw (← plus_mark v true n bs) (gather_old (run told c q rs y) (dedup told.best (run told c p rs x)) (dedup_holds (run_holds r (plus v 0 (true ∷ [])) x (chose_holds true (dedup_holds h)))))
    run_holds {c} (seconds {p = p} {q = q} {rs = rs} {bs = bs} {n = n} r) v T h =
        let x : Table = map (chose told true) (dedup told.best T) in
        let y : Table = map (chose told false) (dedup told.best T) in
        rw (← plus_mark v false n bs) (gather_new (run_holds r (plus v 0 (false ∷ [])) y (chose_holds false (dedup_holds h))) (dedup told.best (run told c p rs x)))
    run_holds (loops l) v T h = turns_hold l v T h
    run_holds skips v T h = rw plus_none h

    turns_hold : {c : Cache} {k i : ℕ} {p : P} {rs : List ℕ} {s t : St} {bs : List Bool} {n : ℕ} → Loop c k i p rs s bs n t → (v : Val) (T : Table) → Holds side better s v T → Holds side better t (plus v n bs) (turns k i (λ j. run told c p (j ∷ rs)) T)
    turns_hold done v T h = rw plus_none h
    turns_hold {c} (more {i = i} {p = p} {rs = rs} {bs = bs} {cs = cs} {m = m} {n = n} r l) v T h = rw (← plus_plus v m n bs cs) (turns_hold l (plus v m bs) (run told c p (i ∷ rs) T) (run_holds r v T h))

-- an entry behind a program, with the entry and the run that it comes from
pub record From (side : Both Val → Val) (c : Cache) (p : P) (rs : List ℕ) (T : Table) (e : Entry (Both Val)) : Type 0 where
  pub before : Entry (Both Val)
  pub bs : List Bool
  pub n : ℕ
  pub has : Has before T
  pub ran : Run c p rs before.st bs n e.st
  pub is : side e.val ≡ plus (side before.val) n bs

module _ (side : Both Val → Val) (better : Val → Val → Bool) (d : Sided side better) (c : Cache) (p : P) (rs : List ℕ) (T : Table) where
  -- an entry of the table, as one side tells it
  abbrev Of : St → Val → Type 0
  Of s v = (f : Entry (Both Val)) × Has f T × (f.st ≡ s) × (side f.val ≡ v)

  pub run_from : (e : Entry (Both Val)) → Has e (run told c p rs T) → From side c p rs T e
  run_from e h =
      let r = all_at side (After c p rs Of) e h (run_after side better d c p rs Of T (all_of side Of T (λ f k. (f, k, refl, refl)))) in
      let (f, k, i, j) = r.was in
      record { before = f; bs = r.bs; n = r.n; has = k; ran = subst (λ (s : St). Run c p rs s r.bs r.n e.st) (sym i) r.ran; is = r.is ∙ ap (λ (v : Val). plus v r.n r.bs) (sym j) }

  module _ (o : Order better) where
    pub run_to : (f : Entry (Both Val)) (bs : List Bool) (n : ℕ) (t : St) → Has f T → Run c p rs f.st bs n t → (e : Entry (Both Val)) × Has e (run told c p rs T) × (e.st ≡ t) × (better (side e.val) (plus (side f.val) n bs) ≡ true)
    run_to f bs n t h x = holds_has side better d o (run_holds side better d o x (side f.val) T (has_holds side better d o h))

exact_by : (side : Both Val → Val) (better : Val → Val → Bool) → Sided side better → Order better → (c : Cache) (p : P) (T : Table) → ExactBy side better c p T
exact_by side better d o c p T = (
  λ e h. let r = run_from side better d c p [] T e h in (r.before, r.bs, r.n, r.has, (Play-is-Run c p r.before.st e.st r.bs r.n).1 r.ran, r.is),
  λ f bs n t h x. run_to side better d c p [] T o f bs n t h ((Play-is-Run c p f.st t bs n).0 x),
)

pub table_exact : TableExact
table_exact c p T = (exact_by (λ b. b.long) longer long_side longest_first c p T, exact_by (λ b. b.short) shorter short_side shortest_first c p T)
