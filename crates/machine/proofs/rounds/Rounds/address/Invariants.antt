use Rattle.std.proofs.Common.{◌≡◌, ◌+◌, ◌*◌, ◌≤◌, drop, length}
use Rattle.cycles.specs.Code.{place}
use Rattle.machine.specs.Around.{around}
use Rattle.machine.proofs.rounds.Rounds.address.Given as goal

-- what the steps that are left add makes it the address of all
abbrev pub invariant-loop-step : goal.invariant-loop-step
invariant-loop-step l =
    (l.word ≤ 65535 + length l.yielded * 268365825) × (place l.word (drop (length l.yielded) l.steps) (drop (length l.yielded) (around l.fn.self.at l.fn.self.depth)) ≡ place l.base l.steps (around l.fn.self.at l.fn.self.depth))
