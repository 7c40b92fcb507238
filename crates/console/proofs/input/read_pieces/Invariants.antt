use Rattle.std.proofs.Common.{◌≡◌, length}
use Rattle.console.proofs.input.read_pieces.Given as goal

-- the piece keeps its length, so what was read of it can be cut off
abbrev pub invariant-loop : goal.invariant-loop
invariant-loop g l = (length l.piece ≡ 4096) × goal.T-IsAlwaysCallable g l.take
