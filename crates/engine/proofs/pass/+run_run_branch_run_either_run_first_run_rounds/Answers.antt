use Rattle.std.proofs.Common.{◌≡◌, ℕ, ◌+◌, ◌-◌, ◌*◌, ◌<◌, ◌≤◌, ◌∷◌, map, length, drop, Some, None, sym, refl, ap, ◌∙◌, subst, mul-add, arith}
use Rattle.cycles.specs.Code.{P, work, touch, skip, times}
use Rattle.cycles.specs.Reading.{cache}
use Rattle.cycles.specs.declared.geometry.Geometry.{Geometry}
use Rattle.machine.specs.Around.{around}
use Rattle.machine.proofs.Times.{Quick}
use Rattle.trails.specs.Stores.{nodes}
use Rattle.tables.specs.Best.{told}
use Rattle.tables.specs.Showing.{Shows, firsts_of, width}
use Rattle.tables.specs.Tables.{touched}
use Rattle.tables.proofs.Rooms.{room_less}
use Rattle.engine.specs.Passing.{Fit, Came, TaskOf, GoesOn}
use Rattle.engine.proofs.Behind.{behind_is, behind_room, behind_back, behind_front, ready_noted, came_noted}
use Rattle.engine.proofs.Branches.{shows_dedup, crowded_copies, copies, task_one as one, ready_one, crowded_first, forked, task_two as two, second_later, ready_two, crowded_second, came_both}
use Rattle.engine.proofs.Chains.{onward_start, onward_end, onward_seq, second_at, seq_crowded, spends, ready_on, ready_first, point, came_plain, slots_fit, ready_as}
use Rattle.engine.proofs.Parts.{is_work, is_skip, is_touch, is_seq, is_either, is_loop, body_fits}
use Rattle.engine.proofs.Turns.{turned_start, ready_round, came_round, turned_more, turned_crowded, turned_all, came_quiet}
use Rattle.engine.proofs.pass.+run_run_branch_run_either_run_first_run_rounds.Goals as goal

-- a geometry's hits and misses are quick
quick : (g : Geometry) → Quick (cache g)
quick g = record { hit = omega (arith, g.cycles_fit); miss = omega (arith, g.cycles_fit) }

-- the table fits twice
fits_twice : {room n m : ℕ} → n ≤ room - n → n ≤ 0 + m → m ≤ room → n + n ≤ room
fits_twice h f r = omega arith

pub run-loop-cycles-init : goal.run-loop-cycles-init
run-loop-cycles-init t c = record { count = c.requires.ready.count; further = omega arith; onward = λ k. onward_start k }

pub run-node_at-requires : goal.run-node_at-requires
run-node_at-requires t c =
    let k = (c.loop-cycles.invariant.onward c.requires.ready.task).task in
    record { p = k.p; rest = k.rest; is = k.fit.is; within = k.fit.within }

pub run-spend_all-requires : goal.run-spend_all-requires
run-spend_all-requires t c =
    let o = c.loop-cycles.invariant.onward c.requires.ready.task in
    let w = is_work o.task.fit c.in-Work.cycles c.in-Work.ensures in
    record {
      fits = slots_fit (width (cache c.args.pass.cache)) c.args.slots.now c.loop-cycles.slots c.loop-cycles.invariant.count c.requires.ready.lent c.loop-cycles.auto.slots;
      few = w.1;
      room = spends o _ w.0 refl c.requires.ready.room;
    }

pub run-returns-in-Work : goal.run-returns-in-Work
run-returns-in-Work t c k =
    let o = c.loop-cycles.invariant.onward k in
    let q = o.task in
    let w = is_work q.fit c.in-Work.cycles c.in-Work.ensures in
    onward_end o c.spend_all.new.slots c.loop-cycles.store (Some c.to.result) (came_plain (work c.in-Work.cycles) c.to.result _ c.spend_all.new.slots q c.to.ensures w.0 refl refl c.loop-cycles.invariant.count (c.spend_all.ensures _ _ q.T q.shows))

pub run-address-address-requires : goal.run-address-address-requires
run-address-address-requires t c =
    let k = (c.loop-cycles.invariant.onward c.requires.ready.task).task in
    let w = is_touch k.fit c.in-Touch.base c.in-Touch.steps.now c.in-Touch.ensures in
    record { based = w.1; stepped = w.3; few = w.2 }

pub run-touch_all-requires : goal.run-touch_all-requires
run-touch_all-requires t c =
    let o = c.loop-cycles.invariant.onward c.requires.ready.task in
    let w = is_touch o.task.fit c.in-Touch.base c.in-Touch.steps.now c.in-Touch.ensures in
    record {
      fits = slots_fit (width (cache c.args.pass.cache)) c.args.slots.now c.loop-cycles.slots c.loop-cycles.invariant.count c.requires.ready.lent c.loop-cycles.auto.slots;
      room = spends o _ w.0 refl c.requires.ready.room;
    }

pub run-returns-in-Touch : goal.run-returns-in-Touch
run-returns-in-Touch t c k =
    let o = c.loop-cycles.invariant.onward k in
    let q = o.task in
    let w = is_touch q.fit c.in-Touch.base c.in-Touch.steps.now c.in-Touch.ensures in
    onward_end o c.touch_all.new.slots c.loop-cycles.store (Some c.to-in-Touch.result) (came_plain (touch c.in-Touch.base c.in-Touch.steps.now) c.to-in-Touch.result _ c.touch_all.new.slots q c.to-in-Touch.ensures w.0 refl (omega arith) c.loop-cycles.invariant.count
    (subst (λ v. Shows (cache c.args.pass.cache) (firsts_of c.args.pass.firsts) (nodes c.loop-cycles.store) c.loop-cycles.here.count c.touch_all.new.slots (map (touched told (cache c.args.pass.cache) v) q.T)) c.address-address.ensures.value (c.touch_all.ensures _ _ q.T q.shows)))

pub run-run-requires : goal.run-run-requires
run-run-requires t c =
    let o = c.loop-cycles.invariant.onward c.requires.ready.task in
    let w = (is_seq o.task.fit c.in-Seq.ensures).3.within in
    let e = ap (λ z. z.at) c.to-first.ensures in
    (omega (arith, c.decreases, c.loop-cycles.invariant.further), ready_as c.to-first.ensures (ready_first o c.in-Seq.ensures c.requires.ready.room c.loop-cycles.invariant.count (omega (arith, c.requires.ready.lent, c.loop-cycles.auto.slots))))

pub run-returns-in_err-here-in-Seq : goal.run-returns-in_err-here-in-Seq
run-returns-in_err-here-in-Seq t c k = rw c.from_residual.ensures (seq_crowded (c.loop-cycles.invariant.onward k) c.in-Seq.ensures c.run.new.slots c.run.new.store (rw c.to-first.ensures at c.in_err-here-in-Seq.ensures))

-- what the first of two came to
first_goes : (t : ℕ) (c : goal.run-In_ok-here-in-Seq t) → GoesOn c.args.pass (point (c.loop-cycles.here.at + 1) c.loop-cycles.here.count) c.args.room c.loop-cycles.slots c.run.new.slots c.loop-cycles.store c.run.new.store (Some c.in_ok-here-in-Seq.here)
first_goes t c = rw c.to-first.ensures at c.in_ok-here-in-Seq.ensures

-- where the second of two begins
second : (t : ℕ) (c : goal.run-In_ok-here-in-Seq t) → (c.in_ok-here-in-Seq.here.count ≤ c.args.room) × (c.loop-cycles.here.at < c.in_ok-here-in-Seq.here.at) × (c.in_ok-here-in-Seq.here.at ≤ length c.args.pass.words.now)
second t c = second_at (c.loop-cycles.invariant.onward c.requires.ready.task) c.in-Seq.ensures c.run.new.slots c.run.new.store c.in_ok-here-in-Seq.here (first_goes t c)

pub run-loop-cycles-smaller : goal.run-loop-cycles-smaller
run-loop-cycles-smaller t c = let w = second t c in omega arith

pub run-loop-cycles-preserved : goal.run-loop-cycles-preserved
run-loop-cycles-preserved t c =
    let w = second t c in
    record {
      count = w.0;
      further = omega (arith, w.1, c.loop-cycles.invariant.further);
      onward = λ k. onward_seq (c.loop-cycles.invariant.onward k) c.in-Seq.ensures c.run.new.slots c.run.new.store c.in_ok-here-in-Seq.here (quick c.args.pass.cache) (first_goes t c);
    }

pub run-run_rounds-requires : goal.run-run_rounds-requires
run-run_rounds-requires t c = (omega (arith, c.decreases, c.loop-cycles.invariant.further), (ready_on (c.loop-cycles.invariant.onward c.requires.ready.task) c.requires.ready.room c.loop-cycles.invariant.count (omega (arith, c.requires.ready.lent, c.loop-cycles.auto.slots)), c.in-Loop.ensures))

pub run-returns-in-Loop : goal.run-returns-in-Loop
run-returns-in-Loop t c k =
    let o = c.loop-cycles.invariant.onward k in
    onward_end o c.run_rounds.new.slots c.run_rounds.new.store c.run_rounds.result (c.run_rounds.ensures o.task)

pub run-returns-in-Skip : goal.run-returns-in-Skip
run-returns-in-Skip t c k =
    let o = c.loop-cycles.invariant.onward k in
    let q = o.task in
    onward_end o c.loop-cycles.slots c.loop-cycles.store (Some c.to-in-Skip.result) (came_plain skip c.to-in-Skip.result _ c.loop-cycles.slots q c.to-in-Skip.ensures (is_skip q.fit c.in-Skip.ensures) refl refl c.loop-cycles.invariant.count q.shows)

pub run-run_either-requires : goal.run-run_either-requires
run-run_either-requires t c = (omega (arith, c.decreases, c.loop-cycles.invariant.further), (ready_on (c.loop-cycles.invariant.onward c.requires.ready.task) c.requires.ready.room c.loop-cycles.invariant.count (omega (arith, c.requires.ready.lent, c.loop-cycles.auto.slots)), c.in-Either.ensures))

pub run-returns-in-Either : goal.run-returns-in-Either
run-returns-in-Either t c k =
    let o = c.loop-cycles.invariant.onward k in
    onward_end o c.run_either.new.slots c.run_either.new.store c.run_either.result (c.run_either.ensures o.task)

pub run_rounds-look_over-body-requires : goal.run_rounds-look_over-body-requires
run_rounds-look_over-body-requires t c =
    let k = c.requires.ready.task in
    let (b, e, f, few, nested) = is_loop k.fit c.args.count c.requires.rounds in
    record { p = b; rest = k.rest; is = f.is; within = f.within }

pub run_rounds-returns-then-body : goal.run_rounds-returns-then-body
run_rounds-returns-then-body t c k =
    let (b, e, f, few, nested) = is_loop k.fit c.args.count c.requires.rounds in
    let s = c.look_over-body.ensures in
    came_quiet b c.args.count c.to.result c.look_over-body.result.end k c.to.ensures e (sym (s.does b k.rest f.is) ∙ c.if-body.true) (s.ends b k.rest f.is) c.requires.ready.count

pub run_rounds-loop-round-init : goal.run_rounds-loop-round-init
run_rounds-loop-round-init t c = record { count = c.requires.ready.count; turned = λ k b e. turned_start b c.args.count k e }

pub run_rounds-inside-requires : goal.run_rounds-inside-requires
run_rounds-inside-requires t c =
    let (b, e, f, few, nested) = is_loop c.requires.ready.task.fit c.args.count c.requires.rounds in
    record { nested = nested; few = omega (arith, few, c.loop-round-test.true) }

pub run_rounds-run-requires : goal.run_rounds-run-requires
run_rounds-run-requires t c =
    let k = c.requires.ready.task in
    let (b, e, f, few, nested) = is_loop k.fit c.args.count c.requires.rounds in
    let at = ap (λ z. z.at) c.to-in-loop-round.ensures in
    let w = f.within in
    (omega (arith, c.decreases), ready_as c.to-in-loop-round.ensures (ready_round (c.loop-round.invariant.turned k b e) _ _ (c.args.from.at + 2) k.rest c.inside.ensures.deeper f c.loop-round-test.true c.requires.ready.room c.loop-round.invariant.count (omega (arith, c.requires.ready.lent, c.loop-round.auto.slots))))

pub run_rounds-returns-in_err-here : goal.run_rounds-returns-in_err-here
run_rounds-returns-in_err-here t c k =
    let (b, e, f, few, nested) = is_loop k.fit c.args.count c.requires.rounds in
    let u = c.loop-round.invariant.turned k b e in
    rw c.from_residual.ensures (turned_crowded u c.run.new.store c.loop-round-test.true (came_round u _ _ (c.args.from.at + 2) k.rest _ c.run.new.slots c.run.new.store _ None c.inside.ensures.around c.inside.ensures.deeper c.to-in-loop-round.ensures f c.in_err-here.ensures))

-- one round is done, of whatever stands there
round_done : (t : ℕ) (c : goal.run_rounds-In_ok-here t) (k : TaskOf c.args.pass c.args.from c.args.slots.now c.args.store.now) (b : P) (e : k.p ≡ times c.args.count b) → Fit c.args.pass.words.now (c.args.pass.rounds.depth + 1) (c.args.from.at + 2) b k.rest → Came (cache c.args.pass.cache) (firsts_of c.args.pass.firsts) (c.loop-round.round ∷ (around c.args.pass.rounds.at c.args.pass.rounds.depth)) b (c.loop-round.invariant.turned k b e).U (point (c.args.from.at + 2) c.loop-round.here.count) c.args.room c.run.new.slots c.loop-round.store c.run.new.store (Some c.in_ok-here.here)
round_done t c k b e f = came_round (c.loop-round.invariant.turned k b e) _ _ (c.args.from.at + 2) k.rest _ c.run.new.slots c.run.new.store _ (Some c.in_ok-here.here) c.inside.ensures.around c.inside.ensures.deeper c.to-in-loop-round.ensures f c.in_ok-here.ensures

pub run_rounds-loop-round-preserved : goal.run_rounds-loop-round-preserved
run_rounds-loop-round-preserved t c =
    let k₀ = c.requires.ready.task in
    let (b₀, e₀, f₀, few₀, nested₀) = is_loop k₀.fit c.args.count c.requires.rounds in
    record {
      count = (round_done t c k₀ b₀ e₀ f₀).count;
      turned = λ k b e.
          let f = body_fits k.fit c.args.count b c.requires.rounds e in
          turned_more (c.loop-round.invariant.turned k b e) c.args.pass.rounds.depth _ c.in_ok-here.here c.run.new.slots c.run.new.store (quick c.args.pass.cache) c.loop-round-test.true f.fine (round_done t c k b e f);
    }

pub run_rounds-returns : goal.run_rounds-returns
run_rounds-returns t c k =
    let (b, e, f, few, nested) = is_loop k.fit c.args.count c.requires.rounds in
    turned_all (c.loop-round.invariant.turned k b e) c.to-2.result c.look_over-body.result.end c.to-2.ensures (omega arith) e (c.look_over-body.ensures.ends b k.rest f.is) c.loop-round.invariant.count

pub run_branch-note_all-requires : goal.run_branch-note_all-requires
run_branch-note_all-requires t c =
    let r = c.requires.ready in
    let e = behind_is c.args.keep c.args.slots.now c.width.ensures c.requires.slots (omega (arith, c.requires.keeps)) in
    rw e (record { fits = slots_fit (width (cache c.args.pass.cache)) _ _ r.count r.lent refl; showing = record { T = r.task.T; shows = r.task.shows; room = room_less 1 _ r.task.T (omega arith) r.room } })

pub run_branch-run-requires : goal.run_branch-run-requires
run_branch-run-requires t c =
    let e = behind_is c.args.keep c.args.slots.now c.width.ensures c.requires.slots (omega (arith, c.requires.keeps)) in
    (omega (arith, c.decreases), ready_noted c.args.choice _ c.note_all.new.slots c.note_all.ensures.shows c.note_all.auto.slots (rw (← e) at c.requires.ready))

pub run_branch-returns : goal.run_branch-returns
run_branch-returns t c =
    let less : c.args.keep ≤ c.args.room = omega (arith, c.requires.keeps) in
    let w : ℕ = width (cache c.args.pass.cache) in
    let e = behind_is c.args.keep c.args.slots.now c.width.ensures c.requires.slots less in
    let n = c.note_all.ensures in
    let l : length c.run.new.slots ≡ length (drop (w * c.args.keep) c.args.slots.now) = c.run.auto.slots ∙ c.note_all.auto.slots ∙ ap length e in
    record {
      kept = behind_front c.args.keep c.args.slots.now c.width.ensures c.requires.slots less c.run.new.slots l;
      ran = λ k. rw (behind_back c.args.keep c.args.slots.now c.width.ensures c.requires.slots less c.run.new.slots l) (came_noted c.args.choice (drop (w * c.args.keep) c.args.slots.now) c.note_all.new.slots (rw e at n.shows) _ _ c.run.new.slots c.run.new.store c.run.result k n.grown c.run.ensures);
    }

pub run_first-returns-then-room-count : goal.run_first-returns-then-room-count
run_first-returns-then-room-count t c k = crowded_copies k c.requires.either (around c.args.pass.rounds.at c.args.pass.rounds.depth) c.args.room c.gather-count.new.slots c.gather-count.result (shows_dedup _ _ (nodes c.args.store.now) c.args.from.count c.gather-count.result c.args.slots.now c.gather-count.new.slots k.T c.gather-count.ensures.shows k.shows) (omega (arith, c.if-room-count.true))

pub run_first-duplicate-requires : goal.run_first-duplicate-requires
run_first-duplicate-requires t c = omega (arith, slots_fit (width (cache c.args.pass.cache)) _ c.gather-count.new.slots (fits_twice c.if-room-count.false c.gather-count.ensures.few c.requires.ready.count) c.requires.ready.lent c.gather-count.auto.slots, mul-add (width (cache c.args.pass.cache)) c.gather-count.result c.gather-count.result)

pub run_first-run_branch-requires : goal.run_first-run_branch-requires
run_first-run_branch-requires t c =
    let k = c.requires.ready.task in
    let n = fits_twice c.if-room-count.false c.gather-count.ensures.few c.requires.ready.count in
    let l : width (cache c.args.pass.cache) * c.args.room ≤ length c.duplicate.new.slots = omega (arith, c.requires.ready.lent, c.gather-count.auto.slots, c.duplicate.auto.slots) in
    let x = copies k c.args.room c.gather-count.new.slots c.duplicate.new.slots c.gather-count.result c.gather-count.ensures.shows n (omega (arith, c.requires.ready.lent, c.gather-count.auto.slots)) c.duplicate.auto.slots c.duplicate.ensures.front c.duplicate.ensures.back in
    let w = (is_either k.fit c.requires.either).3.within in
    (omega (arith, c.decreases), (n, (l, ready_one k c.requires.either _ c.gather-count.result (c.args.room - c.gather-count.result) x.1 c.requires.ready.room (omega (arith, n)) (behind_room {w = width (cache c.args.pass.cache)} c.gather-count.result c.duplicate.new.slots refl l (omega (arith, n))))))

pub run_first-returns-in_err-end : goal.run_first-returns-in_err-end
run_first-returns-in_err-end t c k =
    let n = fits_twice c.if-room-count.false c.gather-count.ensures.few c.requires.ready.count in
    let x = copies k c.args.room c.gather-count.new.slots c.duplicate.new.slots c.gather-count.result c.gather-count.ensures.shows n (omega (arith, c.requires.ready.lent, c.gather-count.auto.slots)) c.duplicate.auto.slots c.duplicate.ensures.front c.duplicate.ensures.back in
    rw c.from_residual.ensures (crowded_first k c.requires.either _ _ _ c.gather-count.result c.run_branch.new.store x.1 (omega (arith, n)) (c.in_err-end.ensures.ran (one k c.requires.either _ _ x.1)))

pub run_first-settle-first-requires : goal.run_first-settle-first-requires
run_first-settle-first-requires t c =
    let k = c.requires.ready.task in
    let n = fits_twice c.if-room-count.false c.gather-count.ensures.few c.requires.ready.count in
    let x = copies k c.args.room c.gather-count.new.slots c.duplicate.new.slots c.gather-count.result c.gather-count.ensures.shows n (omega (arith, c.requires.ready.lent, c.gather-count.auto.slots)) c.duplicate.auto.slots c.duplicate.ensures.front c.duplicate.ensures.back in
    let b = (c.in_ok-end.ensures.ran (one k c.requires.either _ _ x.1)).count in
    slots_fit (width (cache c.args.pass.cache)) c.args.slots.now c.run_branch.new.slots (omega (arith, n, b)) c.requires.ready.lent (c.run_branch.auto.slots ∙ c.duplicate.auto.slots ∙ c.gather-count.auto.slots)

pub run_first-exchange-requires : goal.run_first-exchange-requires
run_first-exchange-requires t c =
    let k = c.requires.ready.task in
    let n = fits_twice c.if-room-count.false c.gather-count.ensures.few c.requires.ready.count in
    let x = copies k c.args.room c.gather-count.new.slots c.duplicate.new.slots c.gather-count.result c.gather-count.ensures.shows n (omega (arith, c.requires.ready.lent, c.gather-count.auto.slots)) c.duplicate.auto.slots c.duplicate.ensures.front c.duplicate.ensures.back in
    let b = (c.in_ok-end.ensures.ran (one k c.requires.either _ _ x.1)).count in
    slots_fit (width (cache c.args.pass.cache)) c.args.slots.now c.settle-first.new.slots (omega (arith, n, b, c.settle-first.ensures.few)) c.requires.ready.lent (c.settle-first.auto.slots ∙ c.run_branch.auto.slots ∙ c.duplicate.auto.slots ∙ c.gather-count.auto.slots)

pub run_first-returns : goal.run_first-returns
run_first-returns t c k =
    let n = fits_twice c.if-room-count.false c.gather-count.ensures.few c.requires.ready.count in
    let x = copies k c.args.room c.gather-count.new.slots c.duplicate.new.slots c.gather-count.result c.gather-count.ensures.shows n (omega (arith, c.requires.ready.lent, c.gather-count.auto.slots)) c.duplicate.auto.slots c.duplicate.ensures.front c.duplicate.ensures.back in
    let b = c.in_ok-end.ensures.ran (one k c.requires.either _ _ x.1) in
    let l : length c.settle-first.new.slots ≡ length c.duplicate.new.slots = c.settle-first.auto.slots ∙ c.run_branch.auto.slots in
    forked k c.requires.either _ c.args.room c.duplicate.new.slots _ c.settle-first.new.slots c.exchange.new.slots c.run_branch.new.store c.gather-count.result c.settle-first.result c.in_ok-end.end x.0 n (omega (arith, c.requires.ready.lent, c.gather-count.auto.slots, c.duplicate.auto.slots)) l (c.exchange.auto.slots ∙ l) (c.settle-first.ensures.kept ∙ c.in_ok-end.ensures.kept) b (c.settle-first.ensures.shows _ _) c.settle-first.ensures.few c.exchange.ensures

pub run_either-run_branch-requires : goal.run_either-run_branch-requires
run_either-run_branch-requires t c =
    let o = c.in_ok-fork.ensures c.requires.ready.task in
    let w = second_later o in
    let l : width (cache c.args.pass.cache) * c.args.room ≤ length c.run_first.new.slots = omega (arith, c.requires.ready.lent, c.run_first.auto.slots) in
    (omega (arith, c.decreases, w.0, w.1), (o.fits, (l, ready_two o c.requires.ready.room l)))

pub run_either-returns-in_err-end : goal.run_either-returns-in_err-end
run_either-returns-in_err-end t c k =
    let o = c.in_ok-fork.ensures k in
    rw c.from_residual-in_err-end.ensures (crowded_second o c.run_branch.new.store (c.in_err-end.ensures.ran (two o)))

pub run_either-gather-count-requires : goal.run_either-gather-count-requires
run_either-gather-count-requires t c =
    let o = c.in_ok-fork.ensures c.requires.ready.task in
    let b = (c.in_ok-end.ensures.ran (two o)).count in
    record { order = omega arith; fits = slots_fit (width (cache c.args.pass.cache)) c.args.slots.now c.run_branch.new.slots (omega (arith, o.fits, b)) c.requires.ready.lent (c.run_branch.auto.slots ∙ c.run_first.auto.slots) }

pub run_either-returns : goal.run_either-returns
run_either-returns t c k =
    let o = c.in_ok-fork.ensures k in
    came_both o c.run_branch.new.slots c.gather-count.new.slots c.run_branch.new.store c.in_ok-end.end c.gather-count.result (omega (arith, c.requires.ready.lent, c.run_first.auto.slots)) c.run_branch.auto.slots c.in_ok-end.ensures.kept (c.in_ok-end.ensures.ran (two o)) c.gather-count.ensures.shows c.gather-count.ensures.few
