use Rattle.std.proofs.Common.{rules}
use Rattle.std.proofs.lemmas.Result.{err_from_is_err_and, MatchResult-weaker}
use Rattle.cycles.proofs.Fits.{none_stands, none_keeps}
use Rattle.cycles.proofs.reader.node_at.Goals as goal

pub returns-in_err-node : goal.returns-in_err-node
returns-in_err-node c =
    let p = err_from_is_err_and c.from_residual.result c.from_residual.ensures.1 in
    rw (p.1, p.2) (none_stands _ _ _ _ c.first_node.result _ c.requires c.first_node.ensures (MatchResult-weaker c.first_node.result c.in_err-node.ensures.cases (λ x h. cc) (λ e h. search rules)))

pub returns-in_err-map_err : goal.returns-in_err-map_err
returns-in_err-map_err c =
    let p = err_from_is_err_and c.from_residual-in_err-map_err.result c.from_residual-in_err-map_err.ensures.1 in
    rw (p.1, p.2) (none_keeps _ _ _ _ _ c.check.result _ c.requires (search rules) c.check.ensures (MatchResult-weaker c.check.result c.in_err-map_err.ensures.cases (λ x h. cc) (λ e h. search rules)))
