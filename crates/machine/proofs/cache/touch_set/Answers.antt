use Rattle.std.proofs.Common.{length, ap, ◌∙◌, arith}
use Rattle.cycles.specs.Reading.{is_lru}
use Rattle.machine.specs.Cells.{lines_of}
use Rattle.machine.proofs.WayLaws.{there_held, renewed, came_in, last_way, last_taken, hit_lru, hit_fifo, missed, outcome_hit, outcome_free, outcome_full}
use Rattle.machine.proofs.Tidying.{tidy_push, tidy_renewed}
use Rattle.machine.proofs.cache.touch_set.Goals as goal

pub overflow_sub-last-in-Full : goal.overflow_sub-last-in-Full
overflow_sub-last-in-Full c = last_taken c.args.ways.now c.requires.some c.in-Full.ensures.1

pub returns-in-Lru : goal.returns-in-Lru
returns-in-Lru c =
    let p = c.in-Held.ensures in
    let t = there_held c.args.ways.now c.args.line c.in-Held.place p.0 p.1 p.2 in
    record {
      after = renewed c.args.ways.now c.args.line c.in-Held.place p.0 p.1 p.2 c.push_front.new.ways c.push_front.ensures ∙ hit_lru (length c.args.ways.now) c.args.line (lines_of c.args.ways.now) (is_lru c.args.policy) t (ap is_lru c.in-Lru.is);
      outcome = outcome_hit (length c.args.ways.now) c.args.line (lines_of c.args.ways.now) t;
      tidy = tidy_renewed c.args.ways.now c.args.line c.in-Held.place p.0 p.1 p.2 c.push_front.new.ways c.push_front.ensures;
    }

pub returns-in_default : goal.returns-in_default
returns-in_default c =
    let p = c.in-Held.ensures in
    let t = there_held c.args.ways.now c.args.line c.in-Held.place p.0 p.1 p.2 in
    record {
      after = hit_fifo (length c.args.ways.now) c.args.line (lines_of c.args.ways.now) (is_lru c.args.policy) t (ap is_lru c.in_default.is);
      outcome = outcome_hit (length c.args.ways.now) c.args.line (lines_of c.args.ways.now) t;
      tidy = λ t. t;
    }

pub returns-in-Free : goal.returns-in-Free
returns-in-Free c =
    let p = c.in-Free.ensures in
    record {
      after = came_in c.args.ways.now c.push_front-in-Free.new.ways c.args.line c.push_front-in-Free.ensures ∙ missed (length c.args.ways.now) c.args.line (lines_of c.args.ways.now) (is_lru c.args.policy) p.0;
      outcome = outcome_free (length c.args.ways.now) c.args.line (lines_of c.args.ways.now) p.0 p.1;
      tidy = tidy_push c.args.ways.now c.push_front-in-Free.new.ways c.args.line c.push_front-in-Free.ensures;
    }

pub returns-in-Full : goal.returns-in-Full
returns-in-Full c =
    let p = c.in-Full.ensures in
    record {
      after = came_in c.args.ways.now c.push_front-in-Full.new.ways c.args.line c.push_front-in-Full.ensures ∙ missed (length c.args.ways.now) c.args.line (lines_of c.args.ways.now) (is_lru c.args.policy) p.0;
      outcome = outcome_full (length c.args.ways.now) c.args.line (lines_of c.args.ways.now) _ p.0 (omega (arith, p.1)) (last_way c.args.ways.now c.requires.some p.1);
      tidy = tidy_push c.args.ways.now c.push_front-in-Full.new.ways c.args.line c.push_front-in-Full.ensures;
    }
