use Rattle.std.proofs.Common.{length, get_or, sym, inl, inr, ap, arith}
use Rattle.cycles.proofs.Limits.{behind, work_over, loop_keeps, judge_seq, judge_either, judge_loop, judges_as, begins_as}
use Rattle.cycles.proofs.nest.Nest.check.Goals as goal

pub returns-in-Work : goal.returns-in-Work
returns-in-Work c us ws b' =
    let b = begins_as ws c.in-Work.is b' in
    rw c.at.ensures ((behind us ws 1 _ (ap (λ xs. get_or xs 1 0) b), c.if-cycles-ge-LIMIT.true), work_over ws c.args.self.loops c.args.self.depth _ b c.if-cycles-ge-LIMIT.true, omega (arith, ap length b))

pub returns-in-Touch : goal.returns-in-Touch
returns-in-Touch c = judges_as c.args.self.loops c.args.self.depth _ _ c.check_touch.result c.in-Touch.is (c.check_touch.ensures c.args.self.depth)

pub returns-in-Seq : goal.returns-in-Seq
returns-in-Seq c =
    elim c.in-Seq.is [ inl e ↦ judges_as c.args.self.loops c.args.self.depth _ _ c.check_depth.result e (judge_seq _ _ _ c.check_depth.ensures) | inr e ↦ judges_as c.args.self.loops c.args.self.depth _ _ c.check_depth.result e (judge_either _ _ _ c.check_depth.ensures) ]

pub returns-in-Loop : goal.returns-in-Loop
returns-in-Loop c us ws b' =
    let b = begins_as ws c.in-Loop.is b' in
    rw c.at-in-Loop.ensures ((behind us ws 1 _ (ap (λ xs. get_or xs 1 0) b), c.if-rounds-gt-MOST_ROUNDS.true), (λ p r e o s. let k = loop_keeps ws c.args.self.loops c.args.self.depth _ b p r e o s in omega arith), omega (arith, ap length b))

pub returns-in-Loop-2 : goal.returns-in-Loop-2
returns-in-Loop-2 c us ws b' =
    let b = begins_as ws c.in-Loop.is b' in
    rw c.at-in-Loop-2.ensures (sym (behind us ws 0 4 (ap (λ xs. get_or xs 0 0) b)), (λ p r e o s. let k = loop_keeps ws c.args.self.loops c.args.self.depth _ b p r e o s in omega arith), omega (arith, ap length b))

pub returns-in-Loop-3 : goal.returns-in-Loop-3
returns-in-Loop-3 c =
    judges_as c.args.self.loops c.args.self.depth _ _ c.check_depth-in-Loop-3.result c.in-Loop.is (judge_loop _ _ _ c.check_depth-in-Loop-3.ensures _ c.if-rounds-gt-MOST_ROUNDS.false c.if-self-ge-MOST_LOOPS.false)
