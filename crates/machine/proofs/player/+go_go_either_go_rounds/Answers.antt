use Rattle.std.proofs.Common.{◌≡◌, ℕ, ◌+◌, drop, Some, None, sym, refl, ap, ◌∙◌, subst, arith}
use Rattle.cycles.specs.Code.{P, times}
use Rattle.cycles.specs.Reading.{cache}
use Rattle.cycles.specs.declared.geometry.Geometry.{Geometry}
use Rattle.machine.specs.Around.{around}
use Rattle.machine.specs.Playing.{Fit}
use Rattle.machine.proofs.Times.{Quick}
use Rattle.machine.proofs.Going.{onward_start, onward_end, fit_seq, onward_seq, came_work, came_skip, fit_touch, came_touch, fit_either, came_none, came_second, came_first, came_first_none, came_as, goes_as, goes_in, seq_none, stands, ready_as, work_bounds, touch_bounds}
use Rattle.machine.proofs.Turning.{Turned, body, turned_start, fit_body, turned_more, turned_none, turned_all, came_quiet}
use Rattle.machine.proofs.player.+go_go_either_go_rounds.Goals as goal

-- a geometry's hits and misses are quick
quick : (g : Geometry) → Quick (cache g)
quick g = record { hit = omega (arith, g.cycles_fit); miss = omega (arith, g.cycles_fit) }

-- a loop has one body
same_body : {p a b : P} {n : ℕ} → p ≡ times n a → p ≡ times n b → a ≡ b
same_body e f = cc

pub go-loop-cycles-init : goal.go-loop-cycles-init
go-loop-cycles-init g t c = (c.requires.used, omega arith, λ p rest h. onward_start _ _ _ _ _ p rest c.args.from _ _ h)

pub go-past-requires : goal.go-past-requires
go-past-requires g t c =
    let o = c.loop-cycles.invariant.2 c.requires.p c.requires.rest c.requires.fit in
    let b = work_bounds c.args.game.words.now c.args.rounds.depth o.q c.requires.rest c.loop-cycles.here c.in-Work.cycles c.in-Work.ensures o.fit in
    record { at = omega arith; time = b.1 }

pub go-returns-in-Work : goal.go-returns-in-Work
go-returns-in-Work g t c p rest h =
    let o = c.loop-cycles.invariant.2 p rest h in
    onward_end _ _ _ _ _ p rest _ _ _ c.loop-cycles.here c.loop-cycles.cells _ _ _ (Some c.past.result) o (came_as _ _ c.args.rounds.depth _ c.args.game.words.now o.q _ _ _ _ _ (Some c.past.result) _ (ap Some c.past.ensures) (came_work _ _ c.args.rounds.depth _ c.args.game.words.now o.q rest c.loop-cycles.here _ _ _ c.in-Work.cycles c.in-Work.ensures o.fit c.loop-cycles.invariant.0 c.work.ensures))

pub go-address-address-requires : goal.go-address-address-requires
go-address-address-requires g t c =
    let o = c.loop-cycles.invariant.2 c.requires.p c.requires.rest c.requires.fit in
    let b = fit_touch (cache c.args.game.cache) (around c.args.rounds.at c.args.rounds.depth) c.args.rounds.depth c.args.game.choices.now c.args.game.words.now o.q c.requires.rest c.loop-cycles.here c.in-Touch.base c.in-Touch.steps.now c.in-Touch.ensures o.fit in
    record { based = b.1; stepped = b.3; few = b.2 }

pub go-past-requires-in-Touch : goal.go-past-requires-in-Touch
go-past-requires-in-Touch g t c =
    let o = c.loop-cycles.invariant.2 c.requires.p c.requires.rest c.requires.fit in
    let b = touch_bounds (cache c.args.game.cache) c.args.game.words.now c.args.rounds.depth o.q c.requires.rest c.loop-cycles.here _ _ _ _ c.in-Touch.base c.in-Touch.steps.now c.address-address.result.word c.observe_touch-cycles.result (quick c.args.game.cache) c.in-Touch.ensures o.fit c.observe_touch-cycles.ensures in
    record { at = omega arith; time = b.1 }

pub go-returns-in-Touch : goal.go-returns-in-Touch
go-returns-in-Touch g t c p rest h =
    let o = c.loop-cycles.invariant.2 p rest h in
    onward_end _ _ _ _ _ p rest _ _ _ c.loop-cycles.here c.loop-cycles.cells _ _ _ (Some c.past-in-Touch.result) o (came_as _ _ c.args.rounds.depth _ c.args.game.words.now o.q _ _ _ _ _ (Some c.past-in-Touch.result) _ (ap Some c.past-in-Touch.ensures) (came_touch _ _ c.args.rounds.depth _ c.args.game.words.now o.q rest c.loop-cycles.here _ _ _ _ c.in-Touch.base c.in-Touch.steps.now c.address-address.result.word c.observe_touch-cycles.result c.in-Touch.ensures o.fit c.loop-cycles.invariant.0 c.address-address.ensures.value c.observe_touch-cycles.ensures))

pub go-go-requires : goal.go-go-requires
go-go-requires g t c κs =
    let o = c.loop-cycles.invariant.2 c.requires.p c.requires.rest c.requires.fit in
    let x = fit_seq (cache c.args.game.cache) (around c.args.rounds.at c.args.rounds.depth) c.args.rounds.depth c.args.game.choices.now c.args.game.words.now o.q c.requires.rest c.loop-cycles.here c.in-Seq.ensures o.fit in
    let e = ap (λ z. z.at) c.to-first.ensures in
    let u = ap (λ z. z.used) c.to-first.ensures in
    let w = x.3.within in
    λ i. (omega arith, (i, ready_as _ _ _ c.to-first.result _ x.0 _ c.to-first.ensures x.3 (omega arith) (omega arith)))

pub go-returns-in_err-here-in-Seq : goal.go-returns-in_err-here-in-Seq
go-returns-in_err-here-in-Seq g t c p rest h =
    let o = c.loop-cycles.invariant.2 p rest h in
    came_as (cache c.args.game.cache) (around c.args.rounds.at c.args.rounds.depth) c.args.rounds.depth c.args.game.choices.now c.args.game.words.now p _ _ c.go.new.cells _ _ c.from_residual.result None c.from_residual.ensures (onward_end (cache c.args.game.cache) (around c.args.rounds.at c.args.rounds.depth) c.args.rounds.depth c.args.game.choices.now c.args.game.words.now p rest _ _ _ c.loop-cycles.here c.loop-cycles.cells c.go.new.cells _ _ None o (seq_none (cache c.args.game.cache) (around c.args.rounds.at c.args.rounds.depth) c.args.rounds.depth c.args.game.choices.now c.args.game.words.now o.q rest c.loop-cycles.here _ c.go.new.cells _ _ c.in-Seq.ensures o.fit (goes_as (cache c.args.game.cache) (around c.args.rounds.at c.args.rounds.depth) c.args.rounds.depth c.args.game.choices.now c.args.game.words.now c.to-first.result _ _ c.go.new.cells _ _ None c.to-first.ensures c.in_err-here-in-Seq.ensures)))

pub go-loop-cycles-smaller : goal.go-loop-cycles-smaller
go-loop-cycles-smaller g t c =
    let o = c.loop-cycles.invariant.2 c.requires.p c.requires.rest c.requires.fit in
    let x = fit_seq (cache c.args.game.cache) (around c.args.rounds.at c.args.rounds.depth) c.args.rounds.depth c.args.game.choices.now c.args.game.words.now o.q c.requires.rest c.loop-cycles.here c.in-Seq.ensures o.fit in
    let m = goes_as (cache c.args.game.cache) (around c.args.rounds.at c.args.rounds.depth) c.args.rounds.depth c.args.game.choices.now c.args.game.words.now c.to-first.result _ _ _ _ _ (Some c.in_ok-here-in-Seq.here) c.to-first.ensures c.in_ok-here-in-Seq.ensures x.0 _ x.3 in
    let w = x.3.within in
    let e = m.0 in
    omega arith

pub go-loop-cycles-preserved : goal.go-loop-cycles-preserved
go-loop-cycles-preserved g t c =
    let came = goes_as (cache c.args.game.cache) (around c.args.rounds.at c.args.rounds.depth) c.args.rounds.depth c.args.game.choices.now c.args.game.words.now c.to-first.result _ _ _ _ _ (Some c.in_ok-here-in-Seq.here) c.to-first.ensures c.in_ok-here-in-Seq.ensures in
    let o = c.loop-cycles.invariant.2 c.requires.p c.requires.rest c.requires.fit in
    let x = fit_seq (cache c.args.game.cache) (around c.args.rounds.at c.args.rounds.depth) c.args.rounds.depth c.args.game.choices.now c.args.game.words.now o.q c.requires.rest c.loop-cycles.here c.in-Seq.ensures o.fit in
    let m = came x.0 _ x.3 in
    (m.3, omega (arith, m.0, c.loop-cycles.invariant.1), λ p rest h. onward_seq _ _ _ _ _ (quick c.args.game.cache) p rest _ _ _ c.loop-cycles.here _ _ c.in-Seq.ensures (c.loop-cycles.invariant.2 p rest h) c.in_ok-here-in-Seq.here _ _ came)

pub go-returns-in-Either : goal.go-returns-in-Either
go-returns-in-Either g t c p rest h =
    let o = c.loop-cycles.invariant.2 p rest h in
    onward_end _ _ _ _ _ p rest _ _ _ c.loop-cycles.here c.loop-cycles.cells c.go_either.new.cells _ _ c.go_either.result o (c.go_either.ensures o.q rest o.fit)

pub go-returns-in-Loop : goal.go-returns-in-Loop
go-returns-in-Loop g t c p rest h =
    let o = c.loop-cycles.invariant.2 p rest h in
    onward_end _ _ _ _ _ p rest _ _ _ c.loop-cycles.here c.loop-cycles.cells c.go_rounds.new.cells _ _ c.go_rounds.result o (c.go_rounds.ensures o.q rest o.fit)

pub go-returns-in-Skip : goal.go-returns-in-Skip
go-returns-in-Skip g t c p rest h =
    let o = c.loop-cycles.invariant.2 p rest h in
    onward_end _ _ _ _ _ p rest _ _ _ c.loop-cycles.here c.loop-cycles.cells _ _ _ (Some c.to.result) o (came_as _ _ c.args.rounds.depth _ c.args.game.words.now o.q _ _ _ _ _ (Some c.to.result) _ (ap Some c.to.ensures) (came_skip _ _ c.args.rounds.depth _ c.args.game.words.now o.q rest c.loop-cycles.here _ _ c.in-Skip.ensures o.fit c.loop-cycles.invariant.0))

pub go_either-returns-then-number-choices : goal.go_either-returns-then-number-choices
go_either-returns-then-number-choices g t c p rest h = came_none _ _ _ _ _ p rest c.args.from c.args.cells.now _ c.requires.either h c.if-number-choices.true

pub go_either-look_over-skipped-requires : goal.go_either-look_over-skipped-requires
go_either-look_over-skipped-requires g t c =
    let x = fit_either (cache c.args.game.cache) (around c.args.rounds.at c.args.rounds.depth) c.args.rounds.depth c.args.game.choices.now c.args.game.words.now c.requires.ready.p c.requires.ready.rest c.args.from 0 c.requires.either c.requires.ready.fit in
    stands _ _ _ x.0 _ x.3

pub go_either-go-requires : goal.go_either-go-requires
go_either-go-requires g t c κs =
    let x = fit_either (cache c.args.game.cache) (around c.args.rounds.at c.args.rounds.depth) c.args.rounds.depth c.args.game.choices.now c.args.game.words.now c.requires.ready.p c.requires.ready.rest c.args.from (c.args.from.used + 1) c.requires.either c.requires.ready.fit in
    let e = c.look_over-skipped.ensures.ends x.0 _ x.3.is in
    let f = subst (λ z. Fit c.args.game.words.now c.args.rounds.depth (record { at = z; time = c.args.from.time; used = c.args.from.used + 1 }) x.1 c.requires.ready.rest) (sym e) x.4 in
    let w = x.4.within in
    let i = ap (λ z. z.at) c.to-second.ensures in
    let u = ap (λ z. z.used) c.to-second.ensures in
    λ k. (omega arith, (k, ready_as _ _ _ c.to-second.result _ x.1 _ c.to-second.ensures f (omega arith) (omega arith)))

pub go_either-returns-then-not-choices-number : goal.go_either-returns-then-not-choices-number
go_either-returns-then-not-choices-number g t c p rest h = came_second _ _ _ _ _ p rest c.args.from _ c.go.new.cells _ _ c.look_over-skipped.result.end c.go.result c.requires.either h c.if-number-choices.false c.if-not-choices-number.true (λ a s e. c.look_over-skipped.ensures.ends a s e) (goes_as (cache c.args.game.cache) (around c.args.rounds.at c.args.rounds.depth) c.args.rounds.depth c.args.game.choices.now c.args.game.words.now c.to-second.result _ _ c.go.new.cells _ _ c.go.result c.to-second.ensures c.go.ensures)

pub go_either-go-requires-2 : goal.go_either-go-requires-2
go_either-go-requires-2 g t c κs =
    let x = fit_either (cache c.args.game.cache) (around c.args.rounds.at c.args.rounds.depth) c.args.rounds.depth c.args.game.choices.now c.args.game.words.now c.requires.ready.p c.requires.ready.rest c.args.from (c.args.from.used + 1) c.requires.either c.requires.ready.fit in
    let w = x.3.within in
    λ k. (omega arith, (k, ready_as _ _ _ _ _ x.0 _ refl x.3 (omega arith) (omega arith)))

pub go_either-returns-in_err-end : goal.go_either-returns-in_err-end
go_either-returns-in_err-end g t c p rest h =
    came_as (cache c.args.game.cache) (around c.args.rounds.at c.args.rounds.depth) c.args.rounds.depth c.args.game.choices.now c.args.game.words.now p _ _ c.go-2.new.cells _ _ c.from_residual.result None c.from_residual.ensures (came_first_none (cache c.args.game.cache) (around c.args.rounds.at c.args.rounds.depth) c.args.rounds.depth c.args.game.choices.now c.args.game.words.now p rest c.args.from _ c.go-2.new.cells _ _ c.requires.either h c.if-number-choices.false c.if-not-choices-number.false c.in_err-end.ensures)

pub go_either-look_over-behind-requires : goal.go_either-look_over-behind-requires
go_either-look_over-behind-requires g t c =
    let x = fit_either (cache c.args.game.cache) (around c.args.rounds.at c.args.rounds.depth) c.args.rounds.depth c.args.game.choices.now c.args.game.words.now c.requires.ready.p c.requires.ready.rest c.args.from (c.args.from.used + 1) c.requires.either c.requires.ready.fit in
    let m = c.in_ok-end.ensures x.0 _ x.3 in
    record { p = x.1; rest = c.requires.ready.rest; is = ap (λ z. drop z c.args.game.words.now) m.0 ∙ x.4.is; within = omega (arith, m.0, x.4.within) }

pub go_either-returns : goal.go_either-returns
go_either-returns g t c p rest h =
    came_as (cache c.args.game.cache) (around c.args.rounds.at c.args.rounds.depth) c.args.rounds.depth c.args.game.choices.now c.args.game.words.now p _ _ _ _ _ (Some c.to.result) _ (ap Some c.to.ensures) (came_first (cache c.args.game.cache) (around c.args.rounds.at c.args.rounds.depth) c.args.rounds.depth c.args.game.choices.now c.args.game.words.now p rest c.args.from _ _ _ _ c.in_ok-end.end c.look_over-behind.result.end c.requires.either h c.if-number-choices.false c.if-not-choices-number.false c.in_ok-end.ensures (λ b s e. c.look_over-behind.ensures.ends b s e))

pub go_rounds-look_over-body-requires : goal.go_rounds-look_over-body-requires
go_rounds-look_over-body-requires g t c =
    let b = body (cache c.args.game.cache) (around c.args.rounds.at c.args.rounds.depth) c.args.rounds.depth c.args.game.choices.now c.args.game.words.now c.args.count c.requires.ready.p c.requires.ready.rest c.args.from c.requires.rounds c.requires.ready.fit in
    record { p = b.a; rest = c.requires.ready.rest; is = b.is; within = b.within }

pub go_rounds-returns-then-body : goal.go_rounds-returns-then-body
go_rounds-returns-then-body g t c p rest h =
    let b = body (cache c.args.game.cache) (around c.args.rounds.at c.args.rounds.depth) c.args.rounds.depth c.args.game.choices.now c.args.game.words.now c.args.count p rest c.args.from c.requires.rounds h in
    came_as (cache c.args.game.cache) (around c.args.rounds.at c.args.rounds.depth) c.args.rounds.depth c.args.game.choices.now c.args.game.words.now p _ _ _ _ _ (Some c.to.result) _ (ap Some c.to.ensures) (came_quiet (cache c.args.game.cache) (around c.args.rounds.at c.args.rounds.depth) c.args.rounds.depth c.args.game.choices.now c.args.game.words.now c.args.count p b.a c.look_over-body.result.end c.args.from _ _ b.loop (c.look_over-body.ensures.ends b.a rest b.is) c.requires.ready.used (sym (c.look_over-body.ensures.does b.a rest b.is) ∙ c.if-body.true))

pub go_rounds-loop-round-init : goal.go_rounds-loop-round-init
go_rounds-loop-round-init g t c = (c.requires.ready.used, λ p a rest h e. turned_start _ _ _ _ _ c.args.count p a rest c.args.from _ _ e h)

pub go_rounds-inside-requires : goal.go_rounds-inside-requires
go_rounds-inside-requires g t c =
    let b = body (cache c.args.game.cache) (around c.args.rounds.at c.args.rounds.depth) c.args.rounds.depth c.args.game.choices.now c.args.game.words.now c.args.count c.requires.ready.p c.requires.ready.rest c.args.from c.requires.rounds c.requires.ready.fit in
    record { nested = b.nested; few = omega (arith, b.few, c.loop-round-test.true) }

pub go_rounds-go-requires : goal.go_rounds-go-requires
go_rounds-go-requires g t c κs =
    let b = body (cache c.args.game.cache) (around c.args.rounds.at c.args.rounds.depth) c.args.rounds.depth c.args.game.choices.now c.args.game.words.now c.args.count c.requires.ready.p c.requires.ready.rest c.args.from c.requires.rounds c.requires.ready.fit in
    let u = c.loop-round.invariant.1 c.requires.ready.p b.a c.requires.ready.rest c.requires.ready.fit b.loop in
    let f = fit_body (cache c.args.game.cache) (around c.args.rounds.at c.args.rounds.depth) c.args.rounds.depth c.args.game.choices.now c.args.game.words.now c.args.count c.requires.ready.p b.a c.requires.ready.rest c.loop-round.round c.args.from _ _ c.loop-round.here _ _ b.is b.within b.fine c.loop-round-test.true u in
    let d = subst (λ z. Fit c.args.game.words.now z (record { at = c.args.from.at + 2; time = c.loop-round.here.time; used = c.loop-round.here.used }) b.a c.requires.ready.rest) (sym c.inside.ensures.deeper) f in
    let i = ap (λ z. z.at) c.to-in-loop-round.ensures in
    let v = ap (λ z. z.used) c.to-in-loop-round.ensures in
    let w = b.within in
    λ k. (omega arith, (k, ready_as _ _ _ c.to-in-loop-round.result _ b.a _ c.to-in-loop-round.ensures d (omega (arith, c.loop-round.invariant.0)) (omega arith)))

pub go_rounds-returns-in_err-here : goal.go_rounds-returns-in_err-here
go_rounds-returns-in_err-here g t c p rest h =
    let b = body (cache c.args.game.cache) (around c.args.rounds.at c.args.rounds.depth) c.args.rounds.depth c.args.game.choices.now c.args.game.words.now c.args.count p rest c.args.from c.requires.rounds h in
    let u = c.loop-round.invariant.1 p b.a rest h b.loop in
    let f = fit_body (cache c.args.game.cache) (around c.args.rounds.at c.args.rounds.depth) c.args.rounds.depth c.args.game.choices.now c.args.game.words.now c.args.count p b.a rest c.loop-round.round c.args.from _ _ c.loop-round.here _ _ b.is b.within b.fine c.loop-round-test.true u in
    let m = goes_in (cache c.args.game.cache) _ _ _ _ c.args.game.choices.now c.args.game.words.now c.to-in-loop-round.result _ _ c.go.new.cells _ _ None c.inside.ensures.around c.inside.ensures.deeper c.to-in-loop-round.ensures c.in_err-here.ensures b.a rest f in
    came_as (cache c.args.game.cache) (around c.args.rounds.at c.args.rounds.depth) c.args.rounds.depth c.args.game.choices.now c.args.game.words.now p _ _ c.go.new.cells _ _ c.from_residual.result None c.from_residual.ensures (turned_none (cache c.args.game.cache) (around c.args.rounds.at c.args.rounds.depth) c.args.rounds.depth c.args.game.choices.now c.args.game.words.now c.args.count p b.a c.loop-round.round (c.args.from.at + 2) c.args.from _ _ c.loop-round.here _ c.go.new.cells _ _ c.loop-round-test.true u m)

pub go_rounds-loop-round-preserved : goal.go_rounds-loop-round-preserved
go_rounds-loop-round-preserved g t c =
    let came = goes_in (cache c.args.game.cache) _ _ _ _ c.args.game.choices.now c.args.game.words.now c.to-in-loop-round.result _ _ c.go.new.cells _ _ (Some c.in_ok-here.here) c.inside.ensures.around c.inside.ensures.deeper c.to-in-loop-round.ensures c.in_ok-here.ensures in
    let b = body (cache c.args.game.cache) (around c.args.rounds.at c.args.rounds.depth) c.args.rounds.depth c.args.game.choices.now c.args.game.words.now c.args.count c.requires.ready.p c.requires.ready.rest c.args.from c.requires.rounds c.requires.ready.fit in
    let u = c.loop-round.invariant.1 c.requires.ready.p b.a c.requires.ready.rest c.requires.ready.fit b.loop in
    let f = fit_body (cache c.args.game.cache) (around c.args.rounds.at c.args.rounds.depth) c.args.rounds.depth c.args.game.choices.now c.args.game.words.now c.args.count c.requires.ready.p b.a c.requires.ready.rest c.loop-round.round c.args.from _ _ c.loop-round.here _ _ b.is b.within b.fine c.loop-round-test.true u in (
      (came b.a _ f).3,
      λ p a rest h e.
          let b' = body (cache c.args.game.cache) (around c.args.rounds.at c.args.rounds.depth) c.args.rounds.depth c.args.game.choices.now c.args.game.words.now c.args.count p rest c.args.from c.requires.rounds h in
          let same : b'.a ≡ a = same_body b'.loop e in
          let u' = c.loop-round.invariant.1 p b'.a rest h b'.loop in
          let f' = fit_body (cache c.args.game.cache) (around c.args.rounds.at c.args.rounds.depth) c.args.rounds.depth c.args.game.choices.now c.args.game.words.now c.args.count p b'.a rest c.loop-round.round c.args.from _ _ c.loop-round.here _ _ b'.is b'.within b'.fine c.loop-round-test.true u' in
          subst (λ z. Turned (cache c.args.game.cache) (around c.args.rounds.at c.args.rounds.depth) c.args.game.choices.now p z c.args.count (c.loop-round.round + 1) c.args.from c.args.cells.now (g.O.Observer.told c.args.observer.now) c.in_ok-here.here c.go.new.cells (g.O.Observer.told c.go.new.observer)) same (turned_more (cache c.args.game.cache) (around c.args.rounds.at c.args.rounds.depth) c.args.rounds.depth c.args.game.choices.now c.args.game.words.now c.args.count (quick c.args.game.cache) p b'.a c.loop-round.round (c.args.from.at + 2) c.args.from _ _ c.loop-round.here _ _ _ _ c.in_ok-here.here c.loop-round-test.true b'.fine u' (came b'.a rest f')),
    )

pub go_rounds-returns : goal.go_rounds-returns
go_rounds-returns g t c p rest h =
    let b = body (cache c.args.game.cache) (around c.args.rounds.at c.args.rounds.depth) c.args.rounds.depth c.args.game.choices.now c.args.game.words.now c.args.count p rest c.args.from c.requires.rounds h in
    let u = c.loop-round.invariant.1 p b.a rest h b.loop in
    came_as (cache c.args.game.cache) (around c.args.rounds.at c.args.rounds.depth) c.args.rounds.depth c.args.game.choices.now c.args.game.words.now p _ _ _ _ _ (Some c.to-2.result) _ (ap Some c.to-2.ensures) (turned_all (cache c.args.game.cache) (around c.args.rounds.at c.args.rounds.depth) c.args.rounds.depth c.args.game.choices.now c.args.game.words.now c.args.count p b.a c.loop-round.round c.look_over-body.result.end c.args.from _ _ c.loop-round.here _ _ c.loop-round-test.false b.loop (c.look_over-body.ensures.ends b.a rest b.is) c.loop-round.invariant.0 u)
