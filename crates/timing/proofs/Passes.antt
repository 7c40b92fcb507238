-- A further pass over the same program.
use Rattle.std.proofs.Common.{◌≡◌, ℕ, ◌*◌, List, take, Ok, Err, Result, refl, ap, ◌∙◌, subst, arith}
use Rattle.cycles.specs.Code.{P, Cache}
use Rattle.cycles.specs.Rows.{Reads}
use Rattle.cycles.proofs.Whole.{one_reading}
use Rattle.tables.specs.Best.{Both}
use Rattle.tables.specs.Showing.{Shows, width}
use Rattle.engine.specs.declared.tabulate.Tabulated.{Tabulated}
use Rattle.engine.specs.declared.tabulate.TabulateError.{TabulateError}
use Rattle.engine.specs.declared.tabulate.TabulateError.TheVariants.{NoProgram, Few, Crowded}
use Rattle.engine.specs.Tabulating.{TabulatePost, asked, behind}
use Rattle.timing.specs.Retelling.{Fitting, Holding}

-- a program that fits is done
pub fits_done : {ws : List ℕ} {a : Both ℕ} {most lent : ℕ} {ys st : List ℕ} {c : Cache} (r : Result Tabulated TabulateError) → Fitting ws c most lent → TabulatePost ws a most lent ys st r → (t : Tabulated) × (r ≡ Ok t)
fits_done (Ok t) f s = (t, refl)
fits_done {ws} {c = c} (Err Crowded) f s =
    let (d, q, r, more, wide) = s.says in
    let o = one_reading ws d c q f.p r f.reads in
    let e : asked d q ≡ asked c f.p = ap (λ z. asked z q) o.0 ∙ ap (asked c) o.1 in
    absurd (omega (arith, more, f.enough, e))
fits_done {c = c} (Err (NoProgram g)) f s = absurd (s.says.1 c f.p f.reads)
fits_done {ws} {most = most} {c = c} (Err Few) f s =
    let (d, q, r, less) = s.says in
    let o = one_reading ws d c q f.p r f.reads in
    absurd (omega (arith, less, f.fits, ap (λ z. width z * most) o.0))

-- what is done is held
pub done_holds : {ws : List ℕ} {a : Both ℕ} {most lent : ℕ} {ys st : List ℕ} {t : Tabulated} → TabulatePost ws a most lent ys st (Ok t) → (c : Cache) (p : P) → Reads ws c p → Holding c p a ys st
done_holds {ws} {a} {ys = ys} {st} {t} s c p reads =
    let (d, q, r, enough, many, few, within, shows) = s.says in
    let o = one_reading ws d c q p r reads in
    subst (λ z. Holding z p a ys st) o.0 (subst (λ z. Holding d z a ys st) o.1 (record { top = t.top; within = within; shows = subst (λ m. Shows d a (take t.top st) m ys (behind d q)) many shows }))
