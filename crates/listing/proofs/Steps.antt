-- One byte, and the fold over all.
use Rattle.std.proofs.Common.{◌≡◌, ℕ, ◌+◌, ◌<◌, ◌≤◌, List, [], ◌∷◌, length, get_or, drop, Ok, Err, refl, ap, ◌∙◌}
use Rattle.std.proofs.lemmas.List.{drop_more, drop_all}
use Rattle.listing.specs.declared.text.Flaw.{Flaw}
use Rattle.listing.specs.declared.text.Mode.TheVariants.{Between, Number, Comment}
use Rattle.listing.specs.declared.text.Room.{Room}
use Rattle.listing.specs.Text.{Text, step, step_in, reads, go_on, between, in_number, in_comment, sign_of}

pub step_between : (l : Room) (t : Text) (b : ℕ) → t.mode ≡ Between → step l t b ≡ between l t b (sign_of b)
unfolding step
step_between l t b e = ap (step_in l t b) e

pub step_number : (l : Room) (t : Text) (b v : ℕ) → t.mode ≡ Number v → step l t b ≡ in_number l t v b (sign_of b)
unfolding step
step_number l t b v e = ap (step_in l t b) e

pub step_comment : (l : Room) (t : Text) (b : ℕ) → t.mode ≡ Comment → step l t b ≡ in_comment l t b
unfolding step
step_comment l t b e = ap (step_in l t b) e

pub reads_none : (l : Room) (t : Text) → reads l [] t ≡ Ok t
unfolding reads
reads_none l t = refl

pub reads_cons : (l : Room) (t u : Text) (b : ℕ) (bs : List ℕ) → step l t b ≡ Ok u → reads l (b ∷ bs) t ≡ reads l bs u
unfolding reads
reads_cons l t u b bs e = ap (λ r. go_on r t (λ v. reads l bs v)) e

reads_halt : (l : Room) (t : Text) (f : Flaw) (b : ℕ) (bs : List ℕ) → step l t b ≡ Err f → reads l (b ∷ bs) t ≡ Err (record { upto = t; flaw = f })
unfolding reads
reads_halt l t f b bs e = ap (λ r. go_on r t (λ v. reads l bs v)) e

-- at a place of the bytes

pub reads_more : (l : Room) (t u : Text) (bs : List ℕ) (i : ℕ) → i < length bs → step l t (get_or bs i 0) ≡ Ok u → reads l (drop i bs) t ≡ reads l (drop (i + 1) bs) u
reads_more l t u bs i h e = ap (λ cs. reads l cs t) (drop_more bs i 0 h) ∙ reads_cons l t u (get_or bs i 0) (drop (i + 1) bs) e

pub reads_stop : (l : Room) (t : Text) (f : Flaw) (bs : List ℕ) (i : ℕ) → i < length bs → step l t (get_or bs i 0) ≡ Err f → reads l (drop i bs) t ≡ Err (record { upto = t; flaw = f })
reads_stop l t f bs i h e = ap (λ cs. reads l cs t) (drop_more bs i 0 h) ∙ reads_halt l t f (get_or bs i 0) (drop (i + 1) bs) e

pub reads_end : (l : Room) (t : Text) (bs : List ℕ) (i : ℕ) → length bs ≤ i → reads l (drop i bs) t ≡ Ok t
reads_end l t bs i h = ap (λ cs. reads l cs t) (drop_all i bs h) ∙ reads_none l t

-- a byte in each mode, and a loop over bytes
pub ruleset bytes = (step_between, step_number, step_comment)

pub ruleset runs = (reads_more, reads_stop, reads_end)
