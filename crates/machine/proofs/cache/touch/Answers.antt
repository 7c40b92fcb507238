use Rattle.std.proofs.Common.{◌≡◌, ℕ, ◌+◌, ◌-◌, ◌*◌, ◌%◌, ◌<◌, ◌≤◌, refl, ◌∙◌, mod-lt, arith}
use Rattle.cycles.specs.Code.{Cache, set_of}
use Rattle.cycles.specs.Reading.{cache}
use Rattle.machine.proofs.CellLaws.{within, outcome_at, hit_at, after_at, behind_at}
use Rattle.machine.proofs.Tidying.{tidy_touched}
use Rattle.machine.proofs.cache.touch.Goals as goal

-- the set of an address is one of the cache's
in_sets : (c : Cache) (a : ℕ) → 1 ≤ c.sets → set_of c a < c.sets
in_sets c a h = mod-lt _ h

-- whatever number its place is taken from
within_any : (n w x : ℕ) → 1 ≤ n → x % n * w + w ≤ n * w
within_any n w x h = within n w (x % n) (mod-lt x h)

pub returns : goal.returns
returns c =
    let g : Cache = cache c.args.cache in
    let i = in_sets g c.args.address.word c.args.cache.sets_fit.0 in
    let from : ℕ = set_of g c.args.address.word * g.ways in
    let w : from + g.ways - from ≡ g.ways = omega arith in
    let o = c.touch_set-outcome.ensures in
    record {
      after = after_at g c.args.cells.now c.args.address.word (from + g.ways - from) i c.requires w c.touch_set-outcome.new.ways c.touch_set-outcome.auto.ways o.after;
      outcome = outcome_at g c.args.cells.now c.args.address.word (from + g.ways - from) i c.requires w _ o.outcome;
      cycles = c.cycles.ensures ∙ hit_at g c.args.cells.now c.args.address.word (from + g.ways - from) i c.requires w _ o.outcome;
      line = refl;
      set = refl;
      tidy = tidy_touched g c.args.cells.now c.args.address.word (from + g.ways - from) i c.requires w c.touch_set-outcome.new.ways c.touch_set-outcome.auto.ways o.tidy;
      behind = behind_at g c.args.cells.now c.args.address.word (from + g.ways - from) i c.requires w c.touch_set-outcome.new.ways c.touch_set-outcome.auto.ways;
    }
