use Rattle.std.proofs.Common.{◌≡◌, [], Some, None, sym, refl, subst, arith}
use Rattle.std.proofs.lemmas.Result.{err_from_is_err_and}
use Rattle.cycles.specs.Reading.{cache}
use Rattle.machine.specs.declared.player.PlayError.TheVariants.{RanOut}
use Rattle.machine.specs.Playing.{Fit}
use Rattle.machine.proofs.Going.{goes_in}
use Rattle.machine.proofs.Tellings.{tells_none}
use Rattle.machine.proofs.Told.{start, promised, start_fit, told_whole, told_left_over, told_ran_out}
use Rattle.machine.proofs.player.play.Goals as goal

pub returns-in_err-cache : goal.returns-in_err-cache
returns-in_err-cache g c =
    let p = err_from_is_err_and c.from_residual.result c.from_residual.ensures.1 in
    rw (p.1, p.2) (promised _ _ _ _ _ _ (c.in_err-cache.ensures.says.0, c.in_err-cache.ensures.says.1, tells_none _))

pub returns-then-cells : goal.returns-then-cells
returns-then-cells g c =
    let s = c.in_ok-cache.ensures.says in
    promised _ _ _ _ _ _ (cache c.in_ok-cache.cache, s.0, s.1, omega (arith, c.cells.ensures), tells_none _)

pub go-requires : goal.go-requires
go-requires g c =
    let s = c.in_ok-cache.ensures.says in
    let f = subst (λ l. Fit c.args.words.now l start s.0 []) (sym c.none.ensures.1) (start_fit _ _ _ s.1) in
    record { p = s.0; rest = []; fit = f; used = omega arith; cells = omega (arith, c.cells.ensures) }

pub returns-in_err-end : goal.returns-in_err-end
returns-in_err-end g c =
    let s = c.in_ok-cache.ensures.says in
    let p = err_from_is_err_and c.from_residual-in_err-end.result c.from_residual-in_err-end.ensures.1 in
    let e : c.go.result ≡ None = grind arith in
    let q : c.in_err-end.field-0.0 ≡ RanOut = grind arith in
    rw (p.1, p.2, q) (told_ran_out c.args.words.now (cache c.in_ok-cache.cache) s.0 c.args.choices.now _ _ c.go.new.cells _ _ s.1 (c.clear.ensures.empty (cache c.in_ok-cache.cache) (omega (arith, c.cells.ensures))) (goes_in (cache c.in_ok-cache.cache) _ [] _ 0 c.args.choices.now c.args.words.now _ _ _ c.go.new.cells _ _ None c.none.ensures.0 c.none.ensures.1 refl (rw e at c.go.ensures) s.0 [] (start_fit _ _ _ s.1)))

pub returns-then-played-choices : goal.returns-then-played-choices
returns-then-played-choices g c =
    let s = c.in_ok-cache.ensures.says in
    let e : c.go.result ≡ Some c.in_ok-end.end = grind arith in
    told_left_over c.args.words.now (cache c.in_ok-cache.cache) s.0 c.args.choices.now _ _ c.go.new.cells _ _ s.1 (c.clear.ensures.empty (cache c.in_ok-cache.cache) (omega (arith, c.cells.ensures))) c.in_ok-end.end (goes_in (cache c.in_ok-cache.cache) _ [] _ 0 c.args.choices.now c.args.words.now _ _ _ c.go.new.cells _ _ (Some c.in_ok-end.end) c.none.ensures.0 c.none.ensures.1 refl (rw e at c.go.ensures) s.0 [] (start_fit _ _ _ s.1)) c.if-played-choices.true

pub returns : goal.returns
returns g c =
    let s = c.in_ok-cache.ensures.says in
    let e : c.go.result ≡ Some c.in_ok-end.end = grind arith in
    told_whole c.args.words.now (cache c.in_ok-cache.cache) s.0 c.args.choices.now _ _ c.go.new.cells _ _ s.1 (c.clear.ensures.empty (cache c.in_ok-cache.cache) (omega (arith, c.cells.ensures))) c.in_ok-end.end (goes_in (cache c.in_ok-cache.cache) _ [] _ 0 c.args.choices.now c.args.words.now _ _ _ c.go.new.cells _ _ (Some c.in_ok-end.end) c.none.ensures.0 c.none.ensures.1 refl (rw e at c.go.ensures) s.0 [] (start_fit _ _ _ s.1)) c.if-played-choices.false
