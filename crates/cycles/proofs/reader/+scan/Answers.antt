use Rattle.std.proofs.Common.{◌≡◌, ℕ, List, length, drop, Ok, refl, ap, subst, arith, length-drop}
use Rattle.std.proofs.lemmas.Result.{err_from_is_err_and}
use Rattle.cycles.specs.declared.node.Node.{Node}
use Rattle.cycles.specs.Reading.{Begins, Keeps}
use Rattle.cycles.proofs.Along.{further, spans_work, spans_skip, spans_touch, spans_to, seq_none, seq_along, either_none_first, either_none_second, spans_either, loop_none, spans_loop}
use Rattle.cycles.proofs.reader.+scan.Goals as goal

-- what is known of the node at a place, once it is told which it is
stood : (ws : List ℕ) (at l d : ℕ) {m n : Node} → m ≡ n → Begins (drop at ws) (Ok m) × Keeps l d m → Begins (drop at ws) (Ok n) × Keeps l d n
stood ws at l d e s = subst (λ v. Begins (drop at ws) (Ok v) × Keeps l d v) e s

pub returns-in-Work : goal.returns-in-Work
returns-in-Work t c =
    let s = stood c.args.words.now c.loop-end.at c.args.nest.loops c.args.nest.depth c.in-Work.is c.in_ok-node_at.ensures in
    let a = c.loop-end.invariant.0 in
    (a.spans _ 1 _ (spans_work _ _ _ _ c.in-Work.field-0 a.within c.args.nest.shallow s.0 s.1) (omega arith), omega arith)

pub returns-in-Touch : goal.returns-in-Touch
returns-in-Touch t c =
    let s = stood c.args.words.now c.loop-end.at c.args.nest.loops c.args.nest.depth c.in-Touch.is c.in_ok-node_at.ensures in
    let a = c.loop-end.invariant.0 in
    let f = spans_touch _ _ _ _ c.in-Touch.base c.in-Touch.steps.now a.within c.args.nest.shallow s.0 s.1.0 s.1.1 s.1.2 in
    (a.spans _ 1 _ (spans_to _ _ _ _ _ 1 _ 1 f (omega arith) refl) (omega arith), omega arith)

pub returns-in-Skip : goal.returns-in-Skip
returns-in-Skip t c =
    let s = stood c.args.words.now c.loop-end.at c.args.nest.loops c.args.nest.depth c.in-Skip.is c.in_ok-node_at.ensures in
    let a = c.loop-end.invariant.0 in
    (a.spans _ 0 _ (spans_skip _ _ _ _ a.within c.args.nest.shallow s.0) (omega arith), omega arith)

pub returns-in_err-first-in-Seq : goal.returns-in_err-first-in-Seq
returns-in_err-first-in-Seq t c =
    let s = stood c.args.words.now c.loop-end.at c.args.nest.loops c.args.nest.depth c.in-Seq.is c.in_ok-node_at.ensures in
    let p = err_from_is_err_and c.from_residual-in_err-first-in-Seq.result c.from_residual-in_err-first-in-Seq.ensures.1 in
    let f = rw (c.deeper.ensures.0, c.deeper.ensures.1) at c.in_err-first-in-Seq.ensures in
    rw (p.1, p.2) (f.0, c.loop-end.invariant.0.none (seq_none c.args.words.now _ _ c.loop-end.at s.0 f.1))

pub loop-end-preserved : goal.loop-end-preserved
loop-end-preserved t c =
    let s = stood c.args.words.now c.loop-end.at c.args.nest.loops c.args.nest.depth c.in-Seq.is c.in_ok-node_at.ensures in
    let f = rw (c.deeper.ensures.0, c.deeper.ensures.1) at c.in_ok-first-in-Seq.ensures in
    (further _ _ _ _ c.loop-end.invariant.0 _ _ _ (seq_along _ _ _ _ _ _ s.0 f.0) c.then-load-in-Seq.ensures.amount, omega (arith, f.0.long), omega (arith, f.0.long, f.1))

pub returns-in_err-first-in-Either : goal.returns-in_err-first-in-Either
returns-in_err-first-in-Either t c =
    let s = stood c.args.words.now c.loop-end.at c.args.nest.loops c.args.nest.depth c.in-Either.is c.in_ok-node_at.ensures in
    let p = err_from_is_err_and c.from_residual-in_err-first-in-Either.result c.from_residual-in_err-first-in-Either.ensures.1 in
    let f = rw (c.deeper-in-Either.ensures.0, c.deeper-in-Either.ensures.1) at c.in_err-first-in-Either.ensures in
    rw (p.1, p.2) (f.0, c.loop-end.invariant.0.none (either_none_first c.args.words.now _ _ c.loop-end.at s.0 f.1))

pub returns-in_err-second-in-Either : goal.returns-in_err-second-in-Either
returns-in_err-second-in-Either t c =
    let s = stood c.args.words.now c.loop-end.at c.args.nest.loops c.args.nest.depth c.in-Either.is c.in_ok-node_at.ensures in
    let p = err_from_is_err_and c.from_residual-in_err-second-in-Either.result c.from_residual-in_err-second-in-Either.ensures.1 in
    let f = rw (c.deeper-in-Either.ensures.0, c.deeper-in-Either.ensures.1) at c.in_ok-first-in-Either.ensures in
    let g = rw (c.deeper-in-Either-2.ensures.0, c.deeper-in-Either-2.ensures.1) at c.in_err-second-in-Either.ensures in
    rw (p.1, p.2) (g.0, c.loop-end.invariant.0.none (either_none_second c.args.words.now _ _ c.loop-end.at _ _ s.0 f.0 g.1))

pub returns-in-Either : goal.returns-in-Either
returns-in-Either t c =
    let s = stood c.args.words.now c.loop-end.at c.args.nest.loops c.args.nest.depth c.in-Either.is c.in_ok-node_at.ensures in
    let f = rw (c.deeper-in-Either.ensures.0, c.deeper-in-Either.ensures.1) at c.in_ok-first-in-Either.ensures in
    let g = rw (c.deeper-in-Either-2.ensures.0, c.deeper-in-Either-2.ensures.1) at c.in_ok-second-in-Either.ensures in
    let n = f.0.long in
    let m = g.0.long in
    (c.loop-end.invariant.0.spans _ _ _ (spans_either _ _ _ _ _ _ _ _ s.0 f.0 g.0) (omega arith), omega (arith, f.1, g.1))

pub scan-requires-in-Loop : goal.scan-requires-in-Loop
scan-requires-in-Loop t c =
    let s = stood c.args.words.now c.loop-end.at c.args.nest.loops c.args.nest.depth c.in-Loop.is c.in_ok-node_at.ensures in
    let l = length-drop c.loop-end.at c.args.words.now in
    let e = ap length s.0 in
    let m = s.1 in
    (omega arith, omega arith)

pub returns-in_err-body-in-Loop : goal.returns-in_err-body-in-Loop
returns-in_err-body-in-Loop t c =
    let s = stood c.args.words.now c.loop-end.at c.args.nest.loops c.args.nest.depth c.in-Loop.is c.in_ok-node_at.ensures in
    let p = err_from_is_err_and c.from_residual-in_err-body-in-Loop.result c.from_residual-in_err-body-in-Loop.ensures.1 in
    let f = rw (c.in_loop.ensures.0, c.in_loop.ensures.1) at c.in_err-body-in-Loop.ensures in
    rw (p.1, p.2) (f.0, c.loop-end.invariant.0.none (loop_none c.args.words.now _ _ c.loop-end.at _ s.0 f.1))

pub returns-in-Loop : goal.returns-in-Loop
returns-in-Loop t c =
    let s = stood c.args.words.now c.loop-end.at c.args.nest.loops c.args.nest.depth c.in-Loop.is c.in_ok-node_at.ensures in
    let f = rw (c.in_loop.ensures.0, c.in_loop.ensures.1) at c.in_ok-body-in-Loop.ensures in
    let n = f.0.long in
    (c.loop-end.invariant.0.spans _ _ _ (spans_loop _ _ _ _ _ _ _ s.0 s.1.0 s.1.1 f.0) (omega arith), omega (arith, f.1))
