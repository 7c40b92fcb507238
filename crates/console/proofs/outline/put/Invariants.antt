use Rattle.std.proofs.Common.{◌≡◌, ◌+◌, vec_len}
use Rattle.console.proofs.outline.put.Given as goal

abbrev pub invariant-loop-task : goal.invariant-loop-task
invariant-loop-task l = vec_len l.tasks ≡ vec_len l.initial.tasks + l.task-index
