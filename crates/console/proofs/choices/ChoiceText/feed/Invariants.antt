use Rattle.std.proofs.Common.{◌≡◌, drop}
use Rattle.console.specs.Chosen.{shown, reads}
use Rattle.console.proofs.choices.ChoiceText.feed.Given as goal

abbrev pub invariant-loop-byte : goal.invariant-loop-byte
invariant-loop-byte l =
    (l.self.most ≡ l.initial.self.most)
    × (reads l.initial.self.most (drop l.byte-index l.bytes) (shown l.self) ≡ reads l.initial.self.most l.bytes (shown l.initial.self))
