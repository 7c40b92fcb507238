-- One byte of a text of choices, and the fold over all.
use Rattle.std.proofs.Common.{◌≡◌, ℕ, ◌+◌, ◌<◌, ◌≤◌, List, [], ◌∷◌, length, get_or, drop, Ok, Err, Result, refl, ap, ◌∙◌, rules, ◌++◌, append_assoc, append-nil}
use Rattle.std.proofs.lemmas.List.{drop_more, drop_all}
use Rattle.console.specs.declared.choices.BadChoice.{BadChoice}
use Rattle.console.specs.Chosen.{Chosen, step, reads, go_on, and_byte, choices_in, picked}

reads_cons : (m : ℕ) (t u : Chosen) (b : ℕ) (bs : List ℕ) → step m t b ≡ Ok u → reads m (b ∷ bs) t ≡ reads m bs u
unfolding reads
reads_cons m t u b bs e = ap (λ r. go_on r t (λ v. reads m bs v)) e

reads_halt : (m : ℕ) (t : Chosen) (f : BadChoice) (b : ℕ) (bs : List ℕ) → step m t b ≡ Err f → reads m (b ∷ bs) t ≡ Err (record { upto = t; flaw = f })
unfolding reads
reads_halt m t f b bs e = ap (λ r. go_on r t (λ v. reads m bs v)) e

reads_none : (m : ℕ) (t : Chosen) → reads m [] t ≡ Ok t
unfolding reads
reads_none m t = refl

-- at a place of the bytes

pub reads_more : (m : ℕ) (t u : Chosen) (bs : List ℕ) (i : ℕ) → i < length bs → step m t (get_or bs i 0) ≡ Ok u → reads m (drop i bs) t ≡ reads m (drop (i + 1) bs) u
reads_more m t u bs i h e = ap (λ cs. reads m cs t) (drop_more bs i 0 h) ∙ reads_cons m t u (get_or bs i 0) (drop (i + 1) bs) e

pub reads_stop : (m : ℕ) (t : Chosen) (f : BadChoice) (bs : List ℕ) (i : ℕ) → i < length bs → step m t (get_or bs i 0) ≡ Err f → reads m (drop i bs) t ≡ Err (record { upto = t; flaw = f })
reads_stop m t f bs i h e = ap (λ cs. reads m cs t) (drop_more bs i 0 h) ∙ reads_halt m t f (get_or bs i 0) (drop (i + 1) bs) e

pub reads_end : (m : ℕ) (t : Chosen) (bs : List ℕ) (i : ℕ) → length bs ≤ i → reads m (drop i bs) t ≡ Ok t
reads_end m t bs i h = ap (λ cs. reads m cs t) (drop_all i bs h) ∙ reads_none m t

-- what is read, where all is

step_adds : (m : ℕ) (t v : Chosen) (b : ℕ) → step m t b ≡ Ok v → v ≡ and_byte t b
unfolding step
step_adds m t v b e = search rules

go_adds : (m b : ℕ) (bs : List ℕ) (t u : Chosen) (r : Result Chosen BadChoice) → ((v : Chosen) → reads m bs v ≡ Ok u → u.choices ≡ v.choices ++ choices_in bs) → step m t b ≡ r → go_on r t (λ v. reads m bs v) ≡ Ok u → u.choices ≡ t.choices ++ choices_in (b ∷ bs)
go_adds m b bs t u (Ok v) more e r = more v r ∙ ap (λ v. v.choices ++ choices_in bs) (step_adds m t v b e) ∙ append_assoc t.choices (picked b) (choices_in bs)
go_adds m b bs t u (Err f) more e r = search rules

pub reads_choices : (m : ℕ) (bs : List ℕ) (t u : Chosen) → reads m bs t ≡ Ok u → u.choices ≡ t.choices ++ choices_in bs
unfolding reads
reads_choices m [] t u e = grind (rules, append-nil)
reads_choices m (b ∷ bs) t u e = go_adds m b bs t u (step m t b) (λ v r. reads_choices m bs v u r) refl e

-- a loop over bytes
pub ruleset runs = (reads_more, reads_stop, reads_end, reads_choices)
