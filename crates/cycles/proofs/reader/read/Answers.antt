use Rattle.std.proofs.Common.{arith}
use Rattle.std.proofs.lemmas.Result.{err_from_is_err_and}
use Rattle.cycles.proofs.Whole.{no_cache, no_program, all_of_it, whole, one_reading}
use Rattle.cycles.proofs.reader.read.Goals as goal

pub returns-in_err-geometry : goal.returns-in_err-geometry
returns-in_err-geometry c =
    let p = err_from_is_err_and c.from_residual.result c.from_residual.ensures.1 in
    let f = c.in_err-geometry.ensures in
    rw (p.1, p.2) (record { says = (f.0, no_cache c.args.words.now f.1); one = one_reading })

pub returns-in_err-program : goal.returns-in_err-program
returns-in_err-program c =
    let p = err_from_is_err_and c.from_residual-in_err-program.result c.from_residual-in_err-program.ensures.1 in
    let f = c.in_err-program.ensures in
    rw (p.1, p.2) (record { says = (f.0, no_program c.args.words.now f.1); one = one_reading })

pub returns-then-program-words : goal.returns-then-program-words
returns-then-program-words c =
    let f = c.in_ok-program.ensures in
    rw c.at.ensures (record { says = (c.if-program-words.true, λ d p r. let h = all_of_it c.args.words.now _ _ f.0 d p r in omega arith); one = one_reading })

pub returns : goal.returns
returns c =
    let g = c.in_ok-geometry.ensures in
    let f = c.in_ok-program.ensures in
    record { says = whole c.args.words.now _ _ _ g.0 g.1 f.0 c.if-program-words.false (omega arith); one = one_reading }
