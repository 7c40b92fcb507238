-- A comment changes nothing.
use Rattle.std.proofs.Common.{◌≡◌, ℕ, ◌<◌, true, List, [], ◌∷◌, ◌++◌, length, Ok, sym, refl, ap, ◌∙◌}
use Rattle.std.proofs.lemmas.Bool.{lt-ltb, ne_eqb}
use Rattle.listing.specs.declared.text.Mode.{Mode}
use Rattle.listing.specs.declared.text.Mode.TheVariants.{Between, Comment}
use Rattle.listing.specs.Laws.{CommentsSkipped, SameLine}
use Rattle.listing.specs.declared.text.Room.{Room}
use Rattle.listing.specs.Text.{Text, step, reads, turned}
use Rattle.listing.proofs.Steps.{step_between, step_comment, reads_cons}

-- the text with one line more
abbrev next_line : Text → Mode → Text
next_line t m = record { words = t.words; marks = t.marks ++ (true ∷ []); mode = m }

in_comment_stays : (l : Room) (t : Text) (b : ℕ) → (b ≡ 10 → ⊥) → step l (turned t Comment) b ≡ Ok (turned t Comment)
in_comment_stays l t b n =
    let e = ne_eqb b 10 n in
    step_comment l (turned t Comment) b refl ∙ rw e

comment_ends : (l : Room) (t : Text) → length t.marks < l.marks → step l (turned t Comment) 10 ≡ Ok (next_line t Between)
comment_ends l t h =
    let e = lt-ltb (length t.marks) l.marks h in
    step_comment l (turned t Comment) 10 refl ∙ rw e

line_ends : (l : Room) (t : Text) → t.mode ≡ Between → length t.marks < l.marks → step l t 10 ≡ Ok (next_line t Between)
line_ends l t m h =
    let e = lt-ltb (length t.marks) l.marks h in
    step_between l t 10 m ∙ rw e (ap (λ n. Ok (next_line t n)) m)

note_skipped : (l : Room) (t : Text) (note rest : List ℕ) → SameLine note → reads l (note ++ rest) (turned t Comment) ≡ reads l rest (turned t Comment)
note_skipped l t [] rest s = refl
note_skipped l t (b ∷ note) rest s = reads_cons l (turned t Comment) (turned t Comment) b (note ++ rest) (in_comment_stays l t b s.0) ∙ note_skipped l t note rest s.1

pub comments_skipped : CommentsSkipped
comments_skipped l t note rest m s h =
    reads_cons l t (turned t Comment) 35 (note ++ (10 ∷ rest)) (step_between l t 35 m)
    ∙ note_skipped l t note (10 ∷ rest) s
    ∙ reads_cons l (turned t Comment) (next_line t Between) 10 rest (comment_ends l t h)
    ∙ sym (reads_cons l t (next_line t Between) 10 rest (line_ends l t m h))
