use Rattle.std.proofs.Common.{◌≡◌, ℕ, ◌*◌, ◌≤◌, length, sym, refl, subst, arith}
use Rattle.cycles.specs.declared.Timed.TheVariants.{NoProgram, Few}
use Rattle.timing.proofs.Promises.{enough, promised, promised_few, slots_fit}
use Rattle.timing.proofs.times.Goals as goal

no_program : NoProgram ≡ Few → ⊥
no_program e = let z : ◌≡◌ {A = ℕ} 0 1 = cc in omega arith

pub returns-then-is_few : goal.returns-then-is_few
returns-then-is_few c = promised_few c.args.words.now c.args.most (length c.args.work.now) c.args.choices.now c.is_few.result c.is_few.ensures c.if-is_few.true

pub returns-in_default : goal.returns-in_default
returns-in_default c = promised c.args.words.now c.args.most (length c.args.work.now) c.args.choices.now c.args.choices.now NoProgram (enough c.is_few.result (length c.args.work.now) (length c.args.words.now) c.args.most c.is_few.ensures c.if-is_few.false) no_program (c.in_default.ensures.says.1, refl)

pub split_at_mut-slots-requires : goal.split_at_mut-slots-requires
split_at_mut-slots-requires c = subst (λ w. w * c.args.most ≤ length c.args.work.now) (sym c.width.ensures) (slots_fit c.in-Ok.cache (length c.args.words.now) c.args.most (length c.args.work.now) (enough c.is_few.result (length c.args.work.now) (length c.args.words.now) c.args.most c.is_few.ensures c.if-is_few.false))

pub returns : goal.returns
returns c = promised c.args.words.now c.args.most (length c.args.work.now) c.args.choices.now c.time_within.new.choices c.time_within.result (enough c.is_few.result (length c.args.work.now) (length c.args.words.now) c.args.most c.is_few.ensures c.if-is_few.false) c.time_within.ensures.enough c.time_within.ensures.says
