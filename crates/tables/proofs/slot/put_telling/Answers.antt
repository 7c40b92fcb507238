use Rattle.std.proofs.Common.{arith}
use Rattle.tables.proofs.Overs.{put}
use Rattle.tables.proofs.slot.put_telling.Goals as goal

pub returns : goal.returns
returns c = put c.args.slot.now c.write.new.words c.args.at _ c.args.telling c.requires (omega arith) c.write.ensures
