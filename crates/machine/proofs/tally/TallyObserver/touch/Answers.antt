use Rattle.std.proofs.Common.{ℕ, ap, arith}
use Rattle.cycles.specs.Code.{pick}
use Rattle.machine.specs.declared.observer.Event.TheVariants.{Touch}
use Rattle.machine.specs.Cells.{is_hit}
use Rattle.machine.specs.Counts.{hits_of, misses_of, work_of}
use Rattle.machine.proofs.Totals.{total_push}
use Rattle.machine.proofs.tally.TallyObserver.touch.Goals as goal

pub returns-in-Hit : goal.returns-in-Hit
returns-in-Hit c =
    record {
      now_told = λ es k. let h = ap (λ o. pick {A = ℕ} (is_hit o) 1 0) c.in-Hit.is in let m = ap (λ o. pick {A = ℕ} (is_hit o) 0 1) c.in-Hit.is in
          (omega (arith, k.0, h, c.saturating_add-self.ensures, total_push hits_of es (Touch c.args.access)), omega (arith, k.1, m, total_push misses_of es (Touch c.args.access)), omega (arith, k.2, total_push work_of es (Touch c.args.access)));
    }

pub returns-in-Miss : goal.returns-in-Miss
returns-in-Miss c =
    record {
      now_told = λ es k. let h = ap (λ o. pick {A = ℕ} (is_hit o) 1 0) c.in-Miss.is in let m = ap (λ o. pick {A = ℕ} (is_hit o) 0 1) c.in-Miss.is in
          (omega (arith, k.0, h, total_push hits_of es (Touch c.args.access)), omega (arith, k.1, m, c.saturating_add-self-in-Miss.ensures, total_push misses_of es (Touch c.args.access)), omega (arith, k.2, total_push work_of es (Touch c.args.access)));
    }
