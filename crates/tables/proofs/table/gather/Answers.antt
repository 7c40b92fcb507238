use Rattle.std.proofs.Common.{◌+◌, length, arith}
use Rattle.cycles.specs.Code.{Cache}
use Rattle.cycles.specs.Reading.{cache}
use Rattle.tables.specs.Showing.{width}
use Rattle.tables.proofs.Chunks.{within}
use Rattle.tables.proofs.Joining.{gathered_more, gathered_all}
use Rattle.tables.proofs.table.gather.Goals as goal

pub join-all-requires : goal.join-all-requires
join-all-requires c =
    let g : Cache = cache c.args.cache in
    record {
      order = omega (arith, c.loop-k.invariant.few, c.requires.order);
      fits = omega (arith, within (width g) (c.args.from + c.loop-k.k) (c.args.from + c.args.count) (length c.args.slots.now) (omega arith) c.requires.fits);
    }

pub loop-k-preserved : goal.loop-k-preserved
loop-k-preserved c =
    let o = c.join-all.ensures in
    gathered_more c.loop-k-test.true o.few.1 o.rest o.shows c.loop-k.invariant

pub returns : goal.returns
returns c =
    record {
      shows = gathered_all (omega arith) c.loop-k.invariant;
      few = omega (arith, c.loop-k.invariant.few);
    }
