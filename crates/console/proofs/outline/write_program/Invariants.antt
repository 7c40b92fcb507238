use Rattle.std.proofs.Common.{◌+◌, ◌*◌, length, vec_len}
use Rattle.console.proofs.outline.write_program.Given as goal

-- a node takes one word at least and plans four tasks at most
abbrev pub decreases-loop-task : goal.decreases-loop-task
decreases-loop-task g l = 4 * length l.rest + vec_len l.tasks
