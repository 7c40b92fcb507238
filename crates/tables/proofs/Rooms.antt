-- Times and choices fit: a table with room for all that a program does has the rest of it behind the program.
use Rattle.std.proofs.Common.{◌≡◌, ℕ, suc, ◌+◌, ◌*◌, ◌≤◌, Bool, true, List, [], ◌∷◌, map, length, suc-mul, mul-add, arith, length-append}
use Rattle.cycles.specs.Code.{P, Cache, St}
use Rattle.cycles.specs.Rows.{ok, amount}
use Rattle.machine.proofs.Runs.{Run, works, touches, seqs, firsts, seconds, loops, skips, Loop, done, more}
use Rattle.machine.proofs.Times.{Quick, run_bound}
use Rattle.tables.specs.Tables.{Entry, dedup, chose, run}
use Rattle.tables.specs.Best.{Val, plus, longer, shorter, Both, told, Table, Has, first, later, Roomy, Room}
use Rattle.tables.proofs.Lifts.{Sided, long_side, short_side}
use Rattle.tables.proofs.Exact.{all_of, all_at, all_dedup, run_from}

mutual
  -- a run makes no more choices than it does works, touches and eithers
  pub run_choices : {c : Cache} {p : P} {rs : List ℕ} {s t : St} {bs : List Bool} {n : ℕ} → Run c p rs s bs n t → length bs ≤ amount p
  run_choices works = omega arith
  run_choices touches = omega arith
  run_choices (seqs {bs = bs} {cs = cs} x y) = omega (arith, run_choices x, run_choices y, length-append bs cs)
  run_choices (firsts x) = omega (arith, run_choices x)
  run_choices (seconds x) = omega (arith, run_choices x)
  run_choices (loops x) = omega (arith, loop_choices x)
  run_choices skips = omega arith

  loop_choices : {c : Cache} {k i : ℕ} {p : P} {rs : List ℕ} {s t : St} {bs : List Bool} {n : ℕ} → Loop c k i p rs s bs n t → length bs ≤ k * amount p
  loop_choices done = omega arith
  loop_choices (more {k = k} {p = p} {bs = bs} {cs = cs} x y) = omega (arith, run_choices x, loop_choices y, length-append bs cs, suc-mul k (amount p))

roomy_less : (j k : ℕ) (v : Val) → j ≤ k → Roomy k v → Roomy j v
roomy_less j k v h r = (omega arith, omega arith)

-- as much is left as is not used
roomy_plus : (j k n : ℕ) (bs : List Bool) (v : Val) → n ≤ 65535 * j → length bs ≤ j → Roomy (j + k) v → Roomy k (plus v n bs)
roomy_plus j k n bs v h l r = (omega (arith, mul-add 65535 j k), omega (arith, length-append v.choices bs))

pub room_less : (j k : ℕ) (T : Table) → j ≤ k → Room k T → Room j T
room_less j k T h r e i = let (l, s) = r e i in (roomy_less j k e.val.long h l, roomy_less j k e.val.short h s)

room_side : (side : Both Val → Val) (better : Val → Val → Bool) → Sided side better → (k : ℕ) (T : Table) → ((e : Entry (Both Val)) → Has e T → Roomy k (side e.val)) → (e : Entry (Both Val)) → Has e (dedup told.best T) → Roomy k (side e.val)
room_side side better d k T r e h = all_at side (λ s. Roomy k) e h (all_dedup side better d (λ s. Roomy k) (all_of side (λ s. Roomy k) T r))

pub room_dedup : (k : ℕ) (T : Table) → Room k T → Room k (dedup told.best T)
room_dedup k T r e h = (room_side (λ b. b.long) longer long_side k T (λ f i. (r f i).0) e h, room_side (λ b. b.short) shorter short_side k T (λ f i. (r f i).1) e h)

pub room_chose : (k : ℕ) (b : Bool) (T : Table) → Room (suc k) T → Room k (map (chose told b) T)
room_chose k b [] r e h = elim h [ ]
room_chose k b (f ∷ T) r e first =
    let i : suc k ≡ 1 + k = omega arith in
    let (l, s) = r f first in
    (roomy_plus 1 k 0 (b ∷ []) f.val.long (omega arith) (omega arith) (rw i at l), roomy_plus 1 k 0 (b ∷ []) f.val.short (omega arith) (omega arith) (rw i at s))
room_chose k b (f ∷ T) r e (later h) = room_chose k b T (λ g i. r g (later i)) e h

module _ (c : Cache) (p : P) (rs : List ℕ) (l k : ℕ) (T : Table) (q : Quick c) (fine : ok l 0 p ≡ true) where
  run_side : (side : Both Val → Val) (better : Val → Val → Bool) → Sided side better → ((f : Entry (Both Val)) → Has f T → Roomy (amount p + k) (side f.val)) → (e : Entry (Both Val)) → Has e (run told c p rs T) → Roomy k (side e.val)
  run_side side better d r e h =
      let x = run_from side better d c p rs T e h in
      rw x.is (roomy_plus (amount p) k x.n x.bs (side x.before.val) (run_bound q l fine x.ran) (run_choices x.ran) (r x.before x.has))

  pub room_run : Room (amount p + k) T → Room k (run told c p rs T)
  room_run r e h = (run_side (λ b. b.long) longer long_side (λ f i. (r f i).0) e h, run_side (λ b. b.short) shorter short_side (λ f i. (r f i).1) e h)
