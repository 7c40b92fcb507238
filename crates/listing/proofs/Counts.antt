-- Lines counted along the marks.
use Rattle.std.proofs.Common.{◌≡◌, ℕ, zero, suc, ◌+◌, ◌-◌, Bool, true, false, List, [], ◌∷◌, length, Some, None, Option, refl, ap, ◌∙◌, arith}
use Rattle.std.specs.List.{filter}
use Rattle.std.specs.Option.{option_map}
use Rattle.listing.specs.Lines.{newlines_in, words_in, line_of, LineBehind}

pub newlines_kept : (ms : List Bool) → length (filter (λ b. b) ms) ≡ newlines_in ms
unfolding newlines_in
newlines_kept [] = refl
newlines_kept (true ∷ ms) = ap suc (newlines_kept ms)
newlines_kept (false ∷ ms) = newlines_kept ms

-- a line, so many lines on
abbrev pub raised : ℕ → Option ℕ → Option ℕ
raised k None = None
raised k (Some n) = Some (k + n)

raised_suc : (k : ℕ) (o : Option ℕ) → raised k (option_map suc o) ≡ raised (k + 1) o
raised_suc k None = refl
raised_suc k (Some n) = ap Some (omega arith)

pub raised_none : (o : Option ℕ) → raised 0 o ≡ o
raised_none None = refl
raised_none (Some n) = ap Some (omega arith)

-- what a mark does to the line that is counted, where ms begins with it
pub line_newline : (k w : ℕ) (ms ns : List Bool) (b : Bool) → ms ≡ b ∷ ns → b ≡ true → raised k (line_of ms w) ≡ raised (k + 1) (line_of ns w)
unfolding line_of
line_newline k w ms ns b e t = rw (e, t) (raised_suc k (line_of ns w))

word_before : (k w : ℕ) (ns : List Bool) → (w ≡ 0 → ⊥) → raised k (line_of (false ∷ ns) w) ≡ raised k (line_of ns (w - 1))
unfolding line_of
word_before k zero ns n = absurd (n refl)
word_before k (suc w) ns n =
    let e : suc w - 1 ≡ w = omega arith in
    rw e

pub line_word : (k w : ℕ) (ms ns : List Bool) (b : Bool) → ms ≡ b ∷ ns → b ≡ false → (w ≡ 0 → ⊥) → raised k (line_of ms w) ≡ raised k (line_of ns (w - 1))
line_word k w ms ns b e f n = rw (e, f) (word_before k w ns n)

pub line_here : (k w : ℕ) (ms ns : List Bool) (b : Bool) → ms ≡ b ∷ ns → b ≡ false → w ≡ 0 → raised k (line_of ms w) ≡ Some (k + 1)
unfolding line_of
line_here k w ms ns b e f z = rw (e, f, z)

pub line_end : (k w : ℕ) (ms : List Bool) → ms ≡ [] → raised k (line_of ms w) ≡ None
unfolding line_of
line_end k w ms e = rw e

pub line_behind : LineBehind
unfolding line_of newlines_in words_in
line_behind [] rest = refl
line_behind (true ∷ front) rest = ap (option_map suc) (line_behind front rest) ∙ ap Some (omega arith)
line_behind (false ∷ front) rest = line_behind front rest

-- what a loop over the marks stands on
pub ruleset lines = (raised_none, line_newline, line_word, line_end, line_behind)
