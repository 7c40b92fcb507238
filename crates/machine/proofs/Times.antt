-- What a run takes at most, by how much it does.
use Rattle.std.proofs.Common.{◌≡◌, ℕ, suc, ◌+◌, ◌*◌, ◌≤◌, Bool, true, false, ◌&&◌, ltb, leb, List, suc-mul, mul-add, arith}
use mathlib.Core.Option.{some}
use Rattle.std.proofs.lemmas.Bool.{and_parts, ltb-true}
use Rattle.cycles.specs.Code.{pick, P, Cache, St, there, cost, place}
use Rattle.cycles.specs.Plays.{At, play}
use Rattle.cycles.specs.Rows.{ok, amount}
use Rattle.machine.proofs.Runs.{Run, Loop, works, touches, seqs, firsts, seconds, loops, skips, done, more, play_run}

-- no hit or miss takes more than 65,535 cycles
pub record Quick (c : Cache) : Type 0 where
  pub hit : c.hit ≤ 65535
  pub miss : c.miss ≤ 65535

pub cost_bound : (c : Cache) (s : St) (w : ℕ) → Quick c → cost c s w ≤ 65535
cost_bound c s w q = by (there c s w)
  where
    by : (b : Bool) → pick b c.hit c.miss ≤ 65535
    by true = q.hit
    by false = q.miss

mutual
  pub run_bound : {c : Cache} {p : P} {rs : List ℕ} {s t : St} {bs : List Bool} {n : ℕ} → Quick c → (l : ℕ) → ok l 0 p ≡ true → Run c p rs s bs n t → n ≤ 65535 * amount p
  run_bound q l o (works {k = k}) = omega (arith, ltb-true k 65536 o)
  run_bound {c} q l o (touches {b = b} {ks = ks} {rs = rs} {s = s}) = omega (arith, cost_bound c s (place b ks rs) q)
  run_bound q l o (seqs {p = p} {q = r} x y) =
      let a = and_parts (ok l 0 p) (ok l 0 r) o in
      omega (arith, run_bound q l a.0 x, run_bound q l a.1 y, mul-add 65535 (amount p) (amount r))
  run_bound q l o (firsts {p = p} {q = r} x) = let a = and_parts (ok l 0 p) (ok l 0 r) o in omega (arith, run_bound q l a.0 x)
  run_bound q l o (seconds {p = p} {q = r} x) = let a = and_parts (ok l 0 p) (ok l 0 r) o in omega (arith, run_bound q l a.1 x)
  run_bound q l o (loops {k = k} {p = p} x) =
      let a = and_parts (ltb l 8) (leb k 4096 && ok (suc l) 0 p) o in
      omega (arith, loop_bound q (suc l) (and_parts (leb k 4096) (ok (suc l) 0 p) a.1).1 x)
  run_bound q l o skips = omega arith

  pub loop_bound : {c : Cache} {k i : ℕ} {p : P} {rs : List ℕ} {s t : St} {bs : List Bool} {n : ℕ} → Quick c → (l : ℕ) → ok l 0 p ≡ true → Loop c k i p rs s bs n t → n ≤ 65535 * (k * amount p)
  loop_bound q l o done = omega arith
  loop_bound q l o (more {k = k} {p = p} x y) = omega (arith, run_bound q l o x, loop_bound q l o y, suc-mul k (amount p), mul-add 65535 (amount p) (k * amount p))

pub play_bound : (c : Cache) (p : P) (rs : List ℕ) (l : ℕ) (a b : At) → Quick c → ok l 0 p ≡ true → play c p rs a ≡ some b → b.time ≤ a.time + 65535 * amount p
play_bound c p rs l a b q o e = let r = play_run c p rs a b e in omega (arith, r.took, run_bound q l o r.run)
