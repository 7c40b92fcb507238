-- Words in decimal, read back.
use Rattle.std.proofs.Common.{◌≡◌, ℕ, ◌+◌, ◌-◌, ◌*◌, ◌/◌, ◌%◌, ◌^◌, ◌<◌, ◌≤◌, Bool, true, false, cond, leb, List, [], ◌∷◌, ◌++◌, map, length, Ok, Err, decimal, Result, refl, ap, ◌∙◌, append_assoc, arith, length-append}
use Rattle.std.proofs.lemmas.Fmt.{decimal_by_steps}
use Rattle.std.proofs.lemmas.List.{append-nil, length-map}
use Rattle.std.proofs.lemmas.Bool.{lt-ltb, le-leb}
use Rattle.listing.specs.declared.text.Flaw.{Flaw}
use Rattle.listing.specs.declared.text.Mode.TheVariants.{Between, Number}
use Rattle.listing.specs.declared.text.reading.Sign.TheVariants.{Digit}
use Rattle.listing.specs.Laws.{CutAnywhere, ReadBack, Row, onward, written, marked, Small}
use Rattle.listing.specs.declared.text.Room.{Room}
use Rattle.listing.specs.Text.{Text, step, reads, go_on, sign_of}
use Rattle.listing.proofs.Steps.{step_between, step_number, reads_none, reads_cons}

-- a piece more or less

cut_by : (l : Room) (front rest : List ℕ) (t : Text) (r : Result Text Flaw) → ((u : Text) → reads l (front ++ rest) u ≡ onward (reads l front u) (λ v. reads l rest v)) → go_on r t (λ u. reads l (front ++ rest) u) ≡ onward (go_on r t (λ u. reads l front u)) (λ v. reads l rest v)
cut_by l front rest t (Ok u) ih = ih u
cut_by l front rest t (Err f) ih = refl

pub cut_anywhere : CutAnywhere
unfolding reads
cut_anywhere l [] rest t = refl
cut_anywhere l (b ∷ front) rest t = cut_by l front rest t (step l t b) (λ u. cut_anywhere l front rest u)

-- what is read in two pieces
then_reads : (l : Room) (front rest : List ℕ) (t u : Text) → reads l front t ≡ Ok u → reads l (front ++ rest) t ≡ reads l rest u
then_reads l front rest t u e = cut_anywhere l front rest t ∙ ap (λ r. onward r (λ v. reads l rest v)) e

sign_digit : (d : ℕ) → d < 10 → sign_of (48 + d) ≡ Digit d
sign_digit d h =
    let a : leb 48 (48 + d) ≡ true = le-leb 48 (48 + d) (omega arith) in
    let b : leb (48 + d) 57 ≡ true = le-leb (48 + d) 57 (omega arith) in
    let e : 48 + d - 48 ≡ d = omega arith in
    rw (a, b, e)

-- between two numbers, with these words and marks; and in the number v behind them
abbrev at : List ℕ → List Bool → Text
at ws ms = record { words = ws; marks = ms; mode = Between }

abbrev at_number : List ℕ → List Bool → ℕ → Text
at_number ws ms v = record { words = ws; marks = ms ++ (false ∷ []); mode = Number v }

first_digit : (l : Room) (ws : List ℕ) (ms : List Bool) (d : ℕ) → d < 10 → length ws < l.words → length ms < l.marks → step l (at ws ms) (48 + d) ≡ Ok (at_number ws ms d)
first_digit l ws ms d h a b =
    let p = lt-ltb (length ws) l.words a in
    let q = lt-ltb (length ms) l.marks b in
    step_between l (at ws ms) (48 + d) refl ∙ rw (sign_digit d h, p, q)

next_digit : (l : Room) (ws : List ℕ) (ms : List Bool) (v d : ℕ) → d < 10 → v * 10 + d < 2 ^ 32 → step l (at_number ws ms v) (48 + d) ≡ Ok (at_number ws ms (v * 10 + d))
next_digit l ws ms v d h a =
    let p = lt-ltb (v * 10 + d) (2 ^ 32) a in
    step_number l (at_number ws ms v) (48 + d) v refl ∙ rw (sign_digit d h, p)

-- a word in decimal is read to its last digit
abbrev Comes : ℕ → List ℕ → Type 0
Comes n ds = (l : Room) (ws : List ℕ) (ms : List Bool) → n < 2 ^ 32 → length ws < l.words → length ms < l.marks → reads l ds (at ws ms) ≡ Ok (at_number ws ms n)

one_digit : (n : ℕ) → n < 10 → Comes n ((48 + n) ∷ [])
one_digit n h l ws ms k a b = reads_cons l (at ws ms) (at_number ws ms n) (48 + n) [] (first_digit l ws ms n h a b) ∙ reads_none l (at_number ws ms n)

more_digits : (n : ℕ) (ds : List ℕ) → 10 ≤ n → Comes (n / 10) ds → Comes n (ds ++ ((48 + n % 10) ∷ []))
more_digits n ds h comes l ws ms k a b =
    let front = comes l ws ms (omega arith) a b in
    let e : n / 10 * 10 + n % 10 ≡ n = omega arith in
    let u = at_number ws ms (n / 10) in
    then_reads l ds ((48 + n % 10) ∷ []) (at ws ms) u front
    ∙ reads_cons l u (at_number ws ms (n / 10 * 10 + n % 10)) (48 + n % 10) [] (next_digit l ws ms (n / 10) (n % 10) (omega arith) (omega arith))
    ∙ reads_none l (at_number ws ms (n / 10 * 10 + n % 10))
    ∙ ap (λ v. Ok (at_number ws ms v)) e

decimal_comes : (n : ℕ) → n < 2 ^ 32 → Comes n (decimal n)
decimal_comes n h = decimal_by_steps Comes one_digit more_digits n (omega arith)

-- what stands behind a word ends it

behind_blank : (l : Room) (ws : List ℕ) (ms : List Bool) (v : ℕ) → step l (at_number ws ms v) 32 ≡ Ok (at (ws ++ (v ∷ [])) (ms ++ (false ∷ [])))
behind_blank l ws ms v = step_number l (at_number ws ms v) 32 v refl

behind_newline : (l : Room) (ws : List ℕ) (ms : List Bool) (v : ℕ) → length ms + 1 < l.marks → step l (at_number ws ms v) 10 ≡ Ok (at (ws ++ (v ∷ [])) ((ms ++ (false ∷ [])) ++ (true ∷ [])))
behind_newline l ws ms v h =
    let p = lt-ltb (length (ms ++ (false ∷ []))) l.marks (simp length-append h) in
    step_number l (at_number ws ms v) 10 v refl ∙ rw p

-- one word, and then what is read by itself
abbrev Rest : Room → List ℕ → List ℕ → List Bool → Type 0
Rest l rest vs ks = (ws : List ℕ) (ms : List Bool) → length ws + length vs ≤ l.words → length ms + length ks ≤ l.marks → reads l rest (at ws ms) ≡ Ok (at (ws ++ vs) (ms ++ ks))

one_more : (l : Room) (v : ℕ) (b : Bool) (rest vs : List ℕ) (ks : List Bool) → v < 2 ^ 32 → Rest l rest vs ks → Rest l (decimal v ++ (cond b 10 32 ∷ rest)) (v ∷ vs) (false ∷ cond b (true ∷ ks) ks)
one_more l v true rest vs ks small ih ws ms a b =
    let u = at (ws ++ (v ∷ [])) ((ms ++ (false ∷ [])) ++ (true ∷ [])) in
    then_reads l (decimal v) (10 ∷ rest) (at ws ms) (at_number ws ms v) (decimal_comes v small l ws ms small (omega (arith, a)) (omega (arith, b)))
    ∙ reads_cons l (at_number ws ms v) u 10 rest (behind_newline l ws ms v (omega (arith, b)))
    ∙ ih (ws ++ (v ∷ [])) ((ms ++ (false ∷ [])) ++ (true ∷ [])) (simp length-append (omega (arith, a))) (simp length-append (omega (arith, b)))
    ∙ simp append_assoc
one_more l v false rest vs ks small ih ws ms a b =
    let u = at (ws ++ (v ∷ [])) (ms ++ (false ∷ [])) in
    then_reads l (decimal v) (32 ∷ rest) (at ws ms) (at_number ws ms v) (decimal_comes v small l ws ms small (omega (arith, a)) (omega (arith, b)))
    ∙ reads_cons l (at_number ws ms v) u 32 rest (behind_blank l ws ms v)
    ∙ ih (ws ++ (v ∷ [])) (ms ++ (false ∷ [])) (simp length-append (omega (arith, a))) (simp length-append (omega (arith, b)))
    ∙ simp append_assoc

all_words : (l : Room) (ps : Row) → Small ps → Rest l (written ps) (map (λ p. p.0) ps) (marked ps)
all_words l [] small = λ ws ms a b. reads_none l (at ws ms) ∙ simp append-nil
all_words l (p ∷ ps) small = one_more l p.0 p.1 (written ps) (map (λ q. q.0) ps) (marked ps) small.0 (all_words l ps small.1)

pub read_back : ReadBack
read_back l ps small words marks = all_words l ps small [] [] (simp length-map (omega (arith, words))) (omega (arith, marks))
