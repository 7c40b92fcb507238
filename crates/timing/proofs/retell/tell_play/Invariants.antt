use Rattle.std.proofs.Common.{◌≡◌, ◌-◌, ◌≤◌, length}
use Rattle.cycles.specs.Reading.{cache}
use Rattle.timing.specs.Retelling.{Still, TellableBy, other, side}
use Rattle.timing.proofs.Hearing.{Written}
use Rattle.timing.proofs.retell.tell_play.Given as goal

abbrev pub invariant-loop-told : goal.invariant-loop-told
invariant-loop-told l =
    (l.told ≤ length l.out)
    × ((r : TellableBy l.teller (length l.initial.out) l.initial.slots l.initial.store) → Written l.told l.out (side l.teller.extreme r.e.val).choices)
    × ((r : TellableBy l.teller (length l.initial.out) l.initial.slots l.initial.store) → side (other l.teller.extreme) r.a ≡ 0 → Still (cache l.teller.cache) r.fitting.p l.teller.extreme l.slots l.store)

abbrev pub decreases-loop-told : goal.decreases-loop-told
decreases-loop-told l = length l.initial.out - l.told
