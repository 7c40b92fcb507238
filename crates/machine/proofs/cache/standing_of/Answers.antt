use Rattle.std.proofs.Common.{◌+◌, eqb, ◌||◌, ◌∙◌, sym, inl, inr, add-one, arith}
use Rattle.std.proofs.lemmas.List.Quantifiers.{position-Some}
use Rattle.std.proofs.lemmas.Bool.{eqb-true, or_cases}
use Rattle.cycles.proofs.Positions.{none_found}
use Rattle.machine.proofs.WayLaws.{passed_found, passed_free, passed_all}
use Rattle.machine.proofs.cache.standing_of.Goals as goal

pub returns-in-None : goal.returns-in-None
returns-in-None c =
    passed_all c.args.ways.now c.args.line _ (omega arith) (passed_found c.args.ways.now c.args.line _ (omega arith) (none_found (λ w. eqb w (c.args.line + 1) || eqb w 0) c.args.ways.now (sym c.in-None.ensures)))

pub returns-in-Some : goal.returns-in-Some
returns-in-Some c =
    let f = position-Some (λ w. eqb w (c.args.line + 1) || eqb w 0) c.args.ways.now c.in-Some.place 0 (sym c.in-Some.ensures) in
    (f.0, c.if-ways-place.true ∙ add-one c.args.line, passed_found c.args.ways.now c.args.line c.in-Some.place (omega (arith, f.0)) f.2)

pub returns-in-Some-2 : goal.returns-in-Some-2
returns-in-Some-2 c =
    let f = position-Some (λ w. eqb w (c.args.line + 1) || eqb w 0) c.args.ways.now c.in-Some.place 0 (sym c.in-Some.ensures) in
    passed_free c.args.ways.now c.args.line c.in-Some.place f.0 (elim (or_cases _ _ f.1) [ inl e ↦ absurd (c.if-ways-place.false (eqb-true _ _ e)) | inr e ↦ eqb-true _ _ e ]) (passed_found c.args.ways.now c.args.line c.in-Some.place (omega (arith, f.0)) f.2)
