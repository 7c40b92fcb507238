-- Under LRU: a cache with more ways beside one with fewer, and any start beside the empty one. Both are one simulation: each set of the one is a front of the same set of the other.
use Rattle.std.proofs.Common.{◌≡◌, ℕ, suc, ◌≤◌, Bool, true, false, ◌&&◌, T, List, [], refl, arith, leb→le}
use lib.ListN.{length-replicate}
use Rattle.cycles.specs.Code.{put, P, Cache, St, empty, line_of, set_of, after, cost}
use Rattle.cycles.specs.Plays.{At, play, Play}
use Rattle.cycles.specs.Rows.{Reads}
use Rattle.cycles.specs.Says.{Fronts, WiderHolds, WiderNeverSlower, EmptyIsWorst}
use Rattle.machine.proofs.Lists.{among_front, use_line, use_front, lines, fronts_at, fronts_put, fronts_empty}
use Rattle.machine.proofs.Both.{Both, both_some, play_both}

-- the same cache with so many ways to a set
abbrev pub with_ways : Cache → ℕ → Cache
with_ways c w = record { sets = c.sets; ways = w; line = c.line; hit = c.hit; miss = c.miss; used = c.used }

-- under LRU a touch changes its set by use_line alone
pub after_used : (c : Cache) (s : St) (a : ℕ) → c.used ≡ true → after c s a ≡ put s (set_of c a) (use_line c.ways (line_of c a) (lines s (set_of c a)))
after_used c s a u = grind arith

-- what the simulation keeps: all lines of the one are in front in the other, which is no slower, by the same choices
pub record Sim (a b : At) : Type 0 where
  pub fronts : Fronts a.st b.st
  pub quick : b.time ≤ a.time
  pub same : a.choices ≡ b.choices

module _ (c : Cache) (w : ℕ) (u : c.used ≡ true) (wide : c.ways ≤ w) (fair : c.hit ≤ c.miss) where
  after_fronts : (a : ℕ) (s t : St) → Fronts s t → Fronts (after c s a) (after (with_ways c w) t a)
  after_fronts a s t f =
      rw (after_used c s a u, after_used (with_ways c w) t a u)
      (fronts_put f (set_of c a) (use_front c.ways w (line_of c a) wide (fronts_at f (set_of c a))))

  cost_less : (a : ℕ) (s t : St) → Fronts s t → cost (with_ways c w) t a ≤ cost c s a
  cost_less a s t f = let r = among_front (line_of c a) (fronts_at f (set_of c a)) in grind arith

  pub plays_sim : (p : P) (rs : List ℕ) (a b : At) → Sim a b → Both Sim (play c p rs a) (play (with_ways c w) p rs b)
  plays_sim = play_both c (with_ways c w) Sim
      (λ n a b r. record { fronts = r.fronts; quick = omega (arith, r.quick); same = r.same })
      (λ v a b r. record { fronts = after_fronts v a.st b.st r.fronts; quick = omega (arith, cost_less v a.st b.st r.fronts); same = r.same })
      (λ a b r. r.same)
      (λ bs a b r. record { fronts = r.fronts; quick = r.quick; same = refl })

-- the parts of a test that holds
pub T-left : (x y : Bool) → T (x && y) → T x
T-left true y t = tt
T-left false y t = t

pub T-right : (x y : Bool) → T (x && y) → T y
T-right true y t = t
T-right false y t = absurd t

fair_from : (s : List ℕ) (c : Cache) (p : P) → Reads s c p → c.hit ≤ c.miss
fair_from s c p r = leb→le c.hit c.miss (search (T-left, T-right, r.fine) depth 9)

start : (c d : Cache) (bs : List Bool) (s t : St) → Fronts s t → Sim (record { time = 0; st = s; choices = bs }) (record { time = 0; st = t; choices = bs })
start c d bs s t f = record { fronts = f; quick = omega arith; same = refl }

ends : (c : Cache) (w : ℕ) (p : P) (bs : List Bool) (m n : ℕ) (s s' t u : St) → c.used ≡ true → c.ways ≤ w → c.hit ≤ c.miss → Fronts s s' → Play c p s bs m t → Play (with_ways c w) p s' bs n u → Sim (record { time = m; st = t; choices = [] }) (record { time = n; st = u; choices = [] })
ends c w p bs m n s s' t u used wide fair f x y = both_some (rw (x, y) at (plays_sim c w used wide fair p [] _ _ (start c c bs s s' f)))

-- the empty caches are fronts of one another
pub wider_holds : WiderHolds
wider_holds s c p bs m n t u r used x y =
    (ends c (suc c.ways) p bs m n (empty c) (empty c) t u used (omega arith) (fair_from s c p r) (fronts_empty c.sets (empty c) (length-replicate c.sets [])) x y).fronts

pub wider_never_slower : WiderNeverSlower
wider_never_slower s c p bs m n t u r used fair x y =
    (ends c (suc c.ways) p bs m n (empty c) (empty c) t u used (omega arith) fair (fronts_empty c.sets (empty c) (length-replicate c.sets [])) x y).quick

-- the empty cache is a front of every one with as many sets
pub empty_is_worst : EmptyIsWorst
empty_is_worst s c p bs m n v t u r used fair sound x y =
    (ends c c.ways p bs m n (empty c) v t u used (omega arith) fair (fronts_empty c.sets v sound.sets) x y).quick
