use Rattle.std.proofs.Common.{◌≡◌, length, Some, None, Ok, rules, subst, arith}
use Rattle.std.proofs.lemmas.Result.{err_from_is_err_and}
use Rattle.cycles.specs.Reading.{cache}
use Rattle.tables.specs.Showing.{firsts_of}
use Rattle.engine.specs.declared.tabulate.TabulateError.TheVariants.{Crowded}
use Rattle.engine.specs.Tabulating.{TabulatePost}
use Rattle.engine.proofs.Promised.{promised, told_crowded, whole_ready, whole_done, whole_crowded}
use Rattle.engine.proofs.tabulate.tabulate.Goals as goal

pub returns-in_err-cache : goal.returns-in_err-cache
returns-in_err-cache c =
    let p = err_from_is_err_and c.from_residual.result c.from_residual.ensures.1 in
    rw (p.1, p.2) (promised _ c.in_err-cache.ensures.says)

pub returns-then-slots-width : goal.returns-then-slots-width
returns-then-slots-width c = let s = c.in_ok-cache.ensures.says in promised _ (cache c.in_ok-cache.cache, s.0, s.1, rw c.width.ensures at c.if-slots-width.true)

pub returns-then-room-eq0 : goal.returns-then-room-eq0
returns-then-room-eq0 c = told_crowded c.in_ok-cache.ensures.says.1 (omega (arith, c.if-room-eq0.true))

pub run-requires : goal.run-requires
run-requires c = let s = c.in_ok-cache.ensures.says in record { ready = whole_ready s.1 (firsts_of c.args.firsts) c.args.slots.now c.begin.new.slot c.width-2.result c.args.most c.width-2.ensures c.if-room-eq0.false (rw c.width.ensures at c.if-slots-width.false) c.begin.auto.slot (c.begin.ensures _) c.new-trails.result _ c.none.ensures.1 }

pub returns-in_err-end : goal.returns-in_err-end
returns-in_err-end c =
    let s = c.in_ok-cache.ensures.says in
    let p = err_from_is_err_and c.from_residual-in_err-end.result c.from_residual-in_err-end.ensures.1 in
    let e : c.run.result ≡ None = grind arith in
    let q : c.in_err-end.field-0.0 ≡ Crowded = grind arith in
    rw (p.1, p.2, q) (whole_crowded s.1 (firsts_of c.args.firsts) c.args.slots.now c.begin.new.slot c.width-2.result c.args.most c.width-2.ensures c.if-room-eq0.false (rw c.width.ensures at c.if-slots-width.false) c.begin.auto.slot (c.begin.ensures _) c.new-trails.result _ _ c.run.new.slots c.run.new.store c.none.ensures.1 c.none.ensures.0 _ _ _ (rw e at c.run.ensures))

pub returns : goal.returns
returns c =
    let s = c.in_ok-cache.ensures.says in
    let e : c.run.result ≡ Some c.in_ok-end.end = grind arith in
    let m = whole_done s.1 (firsts_of c.args.firsts) c.args.slots.now c.begin.new.slot c.width-2.result c.args.most c.width-2.ensures c.if-room-eq0.false (rw c.width.ensures at c.if-slots-width.false) c.begin.auto.slot (c.begin.ensures _) c.new-trails.result _ _ c.run.new.slots c.run.new.store c.none.ensures.1 c.none.ensures.0 c.in_ok-end.end _ (rw e at c.run.ensures) in
    let same : c.run.new.store.words.ghost_name ≡ c.new-trails.result.words.ghost_name = m.0.same in
    subst (λ z. TabulatePost c.args.words.now (firsts_of c.args.firsts) c.args.most (length c.args.slots.now) c.run.new.slots z (Ok (record { entries = c.in_ok-end.end.count; top = c.run.new.store.top }))) (search rules) m.1
