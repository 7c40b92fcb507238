-- The theorems about reading.
use Rattle.listing.proofs.Comments.{comments_skipped}
use Rattle.listing.proofs.Decimals.{cut_anywhere, read_back}

pub ruleset theorems = (cut_anywhere, read_back, comments_skipped)
