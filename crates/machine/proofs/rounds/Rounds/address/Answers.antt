use Rattle.std.proofs.Common.{length, sym, ◌∙◌, arith}
use Rattle.std.proofs.lemmas.List.{length_push}
use Rattle.std.proofs.lemmas.Slice.Zip.{zip_turn, zip_end}
use Rattle.machine.proofs.Addresses.{below_at, small_at, place_more, step_bound}
use Rattle.machine.proofs.rounds.Rounds.address.Goals as goal

pub overflow_mul-word : goal.overflow_mul-word
overflow_mul-word c =
    let z = zip_turn c.args.steps.now c.args.self.at c.loop-step.yielded c.into_iter-step-iterator.result c.loop-step.step-iterator c.next.new.self c.next.result (cc) (cc) c.loop-step.yielded_by (c.in-Some.step, c.in-Some.round) c.in-Some.is c.next.ensures.steps in
    let f = step_bound _ _ (small_at c.args.steps.now (length c.loop-step.yielded) c.requires.stepped) (below_at 4096 c.args.self.at (length c.loop-step.yielded) (omega arith) c.args.self.low) in
    let a = z.2 0 in
    let b = z.3 0 in
    rw (a, b) (omega arith)

pub overflow_add-word : goal.overflow_add-word
overflow_add-word c =
    let z = zip_turn c.args.steps.now c.args.self.at c.loop-step.yielded c.into_iter-step-iterator.result c.loop-step.step-iterator c.next.new.self c.next.result (cc) (cc) c.loop-step.yielded_by (c.in-Some.step, c.in-Some.round) c.in-Some.is c.next.ensures.steps in
    let f = step_bound _ _ (small_at c.args.steps.now (length c.loop-step.yielded) c.requires.stepped) (below_at 4096 c.args.self.at (length c.loop-step.yielded) (omega arith) c.args.self.low) in
    let a = z.2 0 in
    let b = z.3 0 in
    rw (a, b) (omega arith)

pub loop-step-preserved : goal.loop-step-preserved
loop-step-preserved c =
    let z = zip_turn c.args.steps.now c.args.self.at c.loop-step.yielded c.into_iter-step-iterator.result c.loop-step.step-iterator c.next.new.self c.next.result (cc) (cc) c.loop-step.yielded_by (c.in-Some.step, c.in-Some.round) c.in-Some.is c.next.ensures.steps in
    let f = step_bound _ _ (small_at c.args.steps.now (length c.loop-step.yielded) c.requires.stepped) (below_at 4096 c.args.self.at (length c.loop-step.yielded) (omega arith) c.args.self.low) in
    let a = z.2 0 in
    let b = z.3 0 in
    rw (a, b, length_push) (omega arith, sym (place_more c.loop-step.word (length c.loop-step.yielded) c.args.self.depth c.args.steps.now c.args.self.at (omega arith) z.0 (omega arith)) ∙ c.loop-step.invariant.1)

pub invariant_of-result : goal.invariant_of-result
invariant_of-result c =
    let e = zip_end c.args.steps.now c.args.self.at c.loop-step.yielded c.into_iter-step-iterator.result c.loop-step.step-iterator c.next.new.self c.next.result (cc) (cc) c.loop-step.yielded_by c.in-None.is c.next.ensures.steps in
    record { low = omega arith }
