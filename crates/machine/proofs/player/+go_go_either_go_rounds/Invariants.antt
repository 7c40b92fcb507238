use Rattle.std.proofs.Common.{◌≡◌, ℕ, ◌+◌, ◌-◌, ◌*◌, ◌≤◌, List, length}
use Rattle.cycles.specs.Code.{P, times}
use Rattle.cycles.specs.Reading.{cache}
use Rattle.machine.specs.Around.{around}
use Rattle.machine.specs.Playing.{Fit}
use Rattle.machine.proofs.Going.{Onward}
use Rattle.machine.proofs.Turning.{Turned}
use Rattle.machine.proofs.player.+go_go_either_go_rounds.Given as goal

abbrev pub decreases-go : goal.decreases-go
decreases-go g l = 2 * (length l.game.words.now - l.from.at) + 1

abbrev pub decreases-go_either : goal.decreases-go_either
decreases-go_either g l = 2 * (length l.game.words.now - l.from.at)

abbrev pub decreases-go_rounds : goal.decreases-go_rounds
decreases-go_rounds g l = 2 * (length l.game.words.now - l.from.at)

abbrev pub invariant-go-loop-cycles : goal.invariant-go-loop-cycles
invariant-go-loop-cycles g l =
    (l.here.used ≤ length l.game.choices.now)
    × (l.initial.here.at ≤ l.here.at)
    × ((p : P) (rest : List ℕ) → Fit l.game.words.now l.rounds.depth l.initial.here p rest → Onward (cache l.game.cache) (around l.rounds.at l.rounds.depth) l.rounds.depth l.game.choices.now l.game.words.now p rest l.initial.here l.initial.cells (g.O.Observer.told l.initial.observer) l.here l.cells (g.O.Observer.told l.observer))

abbrev pub decreases-go-loop-cycles : goal.decreases-go-loop-cycles
decreases-go-loop-cycles g l = length l.game.words.now - l.here.at

abbrev pub invariant-go_rounds-loop-round : goal.invariant-go_rounds-loop-round
invariant-go_rounds-loop-round g l =
    (l.here.used ≤ length l.game.choices.now)
    × ((p a : P) (rest : List ℕ) → Fit l.game.words.now l.rounds.depth l.initial.here p rest → p ≡ times l.count a → Turned (cache l.game.cache) (around l.rounds.at l.rounds.depth) l.game.choices.now p a l.count l.round l.initial.here l.initial.cells (g.O.Observer.told l.initial.observer) l.here l.cells (g.O.Observer.told l.observer))
