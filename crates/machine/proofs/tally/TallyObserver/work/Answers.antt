use Rattle.std.proofs.Common.{arith}
use Rattle.machine.specs.declared.observer.Event.TheVariants.{Work}
use Rattle.machine.specs.Counts.{hits_of, misses_of, work_of}
use Rattle.machine.proofs.Totals.{total_push}
use Rattle.machine.proofs.tally.TallyObserver.work.Goals as goal

pub returns : goal.returns
returns c =
    record {
      now_told = λ es k.
          (omega (arith, k.0, total_push hits_of es (Work c.args._start c.args.cycles)), omega (arith, k.1, total_push misses_of es (Work c.args._start c.args.cycles)), omega (arith, k.2, c.saturating_add-self.ensures, total_push work_of es (Work c.args._start c.args.cycles)));
    }
