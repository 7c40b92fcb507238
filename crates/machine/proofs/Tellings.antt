-- Events told one after the other.
use Rattle.std.proofs.Common.{◌≡◌, List, [], ◌++◌, sym, subst, append_assoc, append-nil}
use Rattle.machine.specs.declared.observer.Event.{Event}
use Rattle.machine.specs.Telling.{Tells}

pub tells_none : (K : List Event → Type 0) → Tells K K []
tells_none K = record { now_told = λ es k. subst K (sym (append-nil es)) k }

pub tells_as : (K L : List Event → Type 0) {ts us : List Event} → ts ≡ us → Tells K L ts → Tells K L us
tells_as K L e t = subst (Tells K L) e t

pub tells_then : (K L M : List Event → Type 0) {ts us : List Event} → Tells K L ts → Tells L M us → Tells K M (ts ++ us)
tells_then K L M {ts} {us} f g = record { now_told = λ es k. subst M (append_assoc es ts us) (g.now_told (es ++ ts) (f.now_told es k)) }
