use Rattle.std.proofs.Common.{◌≡◌, length, replicate, sym, ap, ◌∙◌, subst}
use Rattle.machine.specs.Cells.{state_of, TidyCells}
use Rattle.machine.proofs.CellLaws.{state_clear}
use Rattle.machine.proofs.Tidying.{tidy_clear}
use Rattle.machine.proofs.cache.clear.Goals as goal

pub returns : goal.returns
returns c =
    let z : c.fill.new.self ≡ replicate (length c.args.cells.now) 0 = c.fill.ensures.after (λ y h. h) in
    record { zeros = z; empty = λ g h. ap (state_of g) z ∙ state_clear g (length c.args.cells.now); tidy = λ g. subst (TidyCells g) (sym z) (tidy_clear g.sets g.ways (length c.args.cells.now)) }
