use Rattle.std.proofs.Common.{◌≡◌, drop}
use Rattle.listing.specs.Text.{shown, limits_of, reads}
use Rattle.listing.proofs.text.Listing.feed.Given as goal

abbrev pub invariant-loop-byte : goal.invariant-loop-byte
invariant-loop-byte l =
    (limits_of l.self ≡ limits_of l.initial.self)
    × (reads (limits_of l.initial.self) (drop l.byte-index l.bytes) (shown l.self) ≡ reads (limits_of l.initial.self) l.bytes (shown l.initial.self))
