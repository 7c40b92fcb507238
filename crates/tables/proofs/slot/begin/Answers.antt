use Rattle.std.proofs.Common.{◌≤◌, length, replicate, sym, ap, ◌∙◌, arith}
use Rattle.cycles.specs.Reading.{cache}
use Rattle.tables.specs.Showing.{cells}
use Rattle.tables.proofs.Beginning.{begun}
use Rattle.tables.proofs.slot.begin.Goals as goal

pub returns : goal.returns
returns c a s =
    let g = cache c.args.cache in
    let e = c.clear.ensures in
    let h : cells g ≤ length c.args.slot.now = omega (arith, c.requires) in
    begun g a s c.clear.new.cells (e.zeros ∙ ap (λ n. replicate n 0) (sym c.clear.auto.cells)) (e.empty g h) (e.tidy g)
