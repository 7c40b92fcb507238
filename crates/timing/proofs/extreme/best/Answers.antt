use Rattle.std.proofs.Common.{◌≡◌, ℕ, ◌+◌, sym, ◌∙◌, subst, ap₂, arith}
use Rattle.cycles.specs.Reading.{cache}
use Rattle.trails.specs.declared.telling.Telling.{Telling}
use Rattle.tables.specs.Showing.{as_good}
use Rattle.timing.specs.Retelling.{told_at}
use Rattle.timing.proofs.Orders.{Champion, champion_stays, champion_falls}
use Rattle.timing.proofs.extreme.best.Goals as goal
use Rattle.timing.proofs.extreme.best.Goals.{then-not-is_as_good, else-not-is_as_good}

pub loop-k-preserved : goal.loop-k-preserved
loop-k-preserved c =
    let f : ℕ → Telling = λ j. told_at (cache c.args.cache) c.args.extreme j c.args.slots.now in
    let b = c.loop-k.invariant.0 in
    let e : c.is_as_good.result ≡ as_good c.args.extreme (f c.loop-k.best) (f c.loop-k.k) = c.is_as_good.ensures ∙ ap₂ (as_good c.args.extreme) c.telling_of-champion.ensures c.telling_of-rival.ensures in
    elim c.if-not-is_as_good.branch [
      | then-not-is_as_good w ↦ (omega (arith, w.best-is), subst (λ z. Champion c.args.extreme f z (c.loop-k.k + 1)) (sym w.best-is) (champion_falls c.args.extreme f c.loop-k.best c.loop-k.k c.loop-k.invariant.1 (sym e ∙ w.if-not-is_as_good.true)))
      | else-not-is_as_good w ↦ (omega (arith, w.best-is), subst (λ z. Champion c.args.extreme f z (c.loop-k.k + 1)) (sym w.best-is) (champion_stays c.args.extreme f c.loop-k.best c.loop-k.k c.loop-k.invariant.1 (sym e ∙ w.if-not-is_as_good.false)))
    ]
