use Rattle.std.proofs.Common.{rules}
use Rattle.std.proofs.lemmas.Result.{err_from_is_err_and}
use Rattle.console.proofs.Sums.{played, unplayed}
use Rattle.console.proofs.replay.total_of.Goals as goal

pub returns : goal.returns
returns c = played _ _ _ _ _ c.words.ensures c.in_ok-played.played (search rules) c.in_ok-played.ensures

pub returns-in_err-played : goal.returns-in_err-played
returns-in_err-played c =
    let p = err_from_is_err_and c.from_residual.result c.from_residual.ensures.1 in
    rw (p.1, p.2) (unplayed _ _ _ _ _ c.words.ensures c.in_err-played.field-0.0 c.in_err-played.ensures)
