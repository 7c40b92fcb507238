use Rattle.std.proofs.Common.{◌≡◌, ◌+◌, ◌-◌, ◌*◌, ◌≤◌, length}
use Rattle.cycles.specs.Code.{P, times}
use Rattle.cycles.specs.Reading.{cache}
use Rattle.machine.specs.Around.{around}
use Rattle.tables.specs.Showing.{firsts_of}
use Rattle.engine.specs.Passing.{TaskOf}
use Rattle.engine.proofs.Chains.{Onward}
use Rattle.engine.proofs.Turns.{Turned}
use Rattle.engine.proofs.pass.+run_run_branch_run_either_run_first_run_rounds.Given as goal

abbrev pub decreases-run : goal.decreases-run
decreases-run l = 4 * (length l.pass.words.now - l.from.at) + 3

abbrev pub decreases-run_rounds : goal.decreases-run_rounds
decreases-run_rounds l = 4 * (length l.pass.words.now - l.from.at) + 2

abbrev pub decreases-run_branch : goal.decreases-run_branch
decreases-run_branch l = 4 * (length l.pass.words.now - l.from.at) + 4

abbrev pub decreases-run_either : goal.decreases-run_either
decreases-run_either l = 4 * (length l.pass.words.now - l.from.at) + 2

abbrev pub decreases-run_first : goal.decreases-run_first
decreases-run_first l = 4 * (length l.pass.words.now - l.from.at) + 1

abbrev pub invariant-run-loop-cycles : goal.invariant-run-loop-cycles
invariant-run-loop-cycles l =
    record {
      count : l.here.count ≤ l.room;
      further : l.initial.here.at ≤ l.here.at;
      onward : (k : TaskOf l.pass l.initial.here l.initial.slots l.initial.store) → Onward (cache l.pass.cache) (firsts_of l.pass.firsts) (around l.pass.rounds.at l.pass.rounds.depth) l.pass.words.now l.pass.rounds.depth l.room k.p k.T l.initial.here l.here l.initial.store l.slots l.store;
    }

abbrev pub decreases-run-loop-cycles : goal.decreases-run-loop-cycles
decreases-run-loop-cycles l = length l.pass.words.now - l.here.at

abbrev pub invariant-run_rounds-loop-round : goal.invariant-run_rounds-loop-round
invariant-run_rounds-loop-round l =
    record {
      count : l.here.count ≤ l.room;
      turned : (k : TaskOf l.pass l.initial.here l.initial.slots l.initial.store) (b : P) → k.p ≡ times l.count b → Turned (cache l.pass.cache) (firsts_of l.pass.firsts) (around l.pass.rounds.at l.pass.rounds.depth) l.room b l.count l.round k.p k.T l.initial.here l.here l.initial.store l.slots l.store;
    }
