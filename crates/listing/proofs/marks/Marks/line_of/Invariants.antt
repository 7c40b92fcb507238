use Rattle.std.proofs.Common.{◌≡◌, ◌+◌, ◌≤◌, length}
use Rattle.listing.specs.Lines.{line_of}
use Rattle.listing.specs.Packed.{ahead, marks_of}
use Rattle.listing.proofs.Counts.{raised}
use Rattle.listing.proofs.marks.Marks.line_of.Given as goal

abbrev pub invariant-loop-newline : goal.invariant-loop-newline
invariant-loop-newline l =
    (l.newlines + length (ahead l.newline-iterator) ≤ length (marks_of l.self))
    × (raised l.newlines (line_of (ahead l.newline-iterator) l.before) ≡ line_of (marks_of l.self) l.word)
