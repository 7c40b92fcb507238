-- The bits of words, and marks packed into them.
use Rattle.std.proofs.Common.{◌≡◌, ℕ, zero, suc, ◌+◌, ◌-◌, ◌*◌, ◌/◌, ◌%◌, ◌^◌, ◌<◌, ◌≤◌, Bool, true, false, eqb, ◌⊎◌, List, [], ◌∷◌, ◌++◌, length, get_or, vec_items, vec_len, sym, refl, ap, ◌∙◌, inl, inr, append_assoc, add-one, arith, length-append}
use mir.Val.{bool_byte}
use native.Mathlib.Nat.{div-div-eq-div-mul, pow-succ', pow-zero}
use Rattle.std.proofs.lemmas.Bool.{cases_lt}
use Rattle.std.proofs.lemmas.Grind.{pow_more}
use Rattle.std.proofs.lemmas.List.{append-nil, length_push, get_or_append_left, get_or-append_right, get_or_push, get_or_read}
use Rattle.listing.specs.declared.marks.Marks.{Marks}
use Rattle.listing.specs.Packed.{bits_of, spread, marks_of}

pub bits_none : (h : ℕ) → bits_of 0 h ≡ []
unfolding bits_of
bits_none h = refl

pub bits_push : (r h : ℕ) (b : Bool) → bits_of (suc r) (h * 2 + bool_byte b) ≡ bits_of r h ++ (b ∷ [])
unfolding bits_of
bits_push r h true =
    let d : (h * 2 + 1) / 2 ≡ h = omega arith in
    let m : (h * 2 + 1) % 2 ≡ 1 = omega arith in
    rw (d, m)
bits_push r h false =
    let d : (h * 2 + 0) / 2 ≡ h = omega arith in
    let m : (h * 2 + 0) % 2 ≡ 0 = omega arith in
    rw (d, m)

pub length_bits : (r h : ℕ) → length (bits_of r h) ≡ r
unfolding bits_of
length_bits zero h = refl
length_bits (suc r) h = length_push (bits_of r (h / 2)) _ ∙ rw (length_bits r (h / 2), add-one)

pub length_spread : (ws : List ℕ) → length (spread ws) ≡ 32 * length ws
unfolding spread
length_spread [] = refl
length_spread (w ∷ ws) = simp (length-append, length_bits, length_spread ws) (omega arith)

pub spread_push : (ws : List ℕ) (w : ℕ) → spread (ws ++ (w ∷ [])) ≡ spread ws ++ bits_of 32 w
unfolding spread
spread_push [] w = append-nil (bits_of 32 w)
spread_push (v ∷ ws) w = rw (spread_push ws w, append_assoc)

pub length_marks : (m : Marks) → length (marks_of m) ≡ 32 * vec_len m.full + m.held
unfolding marks_of
length_marks m = simp (length-append, length_spread, length_bits) (omega (arith, m.full.ok.0))

-- one mark more

pub push_head : (ws : List ℕ) (r h x : ℕ) (b : Bool) → x ≡ bool_byte b → spread ws ++ bits_of (r + 1) (h * 2 + x) ≡ (spread ws ++ bits_of r h) ++ (b ∷ [])
push_head ws r h x b e = rw (e, add-one, bits_push, append_assoc)

pub push_full : (ws vs : List ℕ) (r h x : ℕ) (b : Bool) → x ≡ bool_byte b → r + 1 ≡ 32 → vs ≡ ws ++ ((h * 2 + x) ∷ []) → spread vs ++ bits_of 0 0 ≡ (spread ws ++ bits_of r h) ++ (b ∷ [])
push_full ws vs r h x b e f g =
    let t : spread ws ++ bits_of 32 (h * 2 + x) ≡ (spread ws ++ bits_of r h) ++ (b ∷ []) = rw (← f) (push_head ws r h x b e) in
    rw (g, bits_none, append-nil, spread_push) t

pub bit_small : (b : Bool) → bool_byte b ≤ 1
bit_small true = omega arith
bit_small false = omega arith

-- the bit at a place, by a shift

at_shifted : (r h i : ℕ) → i < r → (h / 2) / 2 ^ (r - suc i) ≡ h / 2 ^ (suc r - suc i)
at_shifted r h i l =
    let e : suc r - suc i ≡ suc (r - suc i) = omega arith in
    rw (div-div-eq-div-mul, e, pow-succ')

at_last : (r h i : ℕ) → r ≤ i → i < suc r → h / 2 ^ (suc r - suc i) ≡ h
at_last r h i k l =
    let e : suc r - suc i ≡ 0 = omega arith in
    rw (e, pow-zero) (omega arith)

at_by : (r h i : ℕ) → i < suc r → (i < r → get_or (bits_of r (h / 2)) i false ≡ eqb (h / 2 / 2 ^ (r - suc i) % 2) 1) → (i < r) ⊎ (r ≤ i) → get_or (bits_of (suc r) h) i false ≡ eqb (h / 2 ^ (suc r - suc i) % 2) 1
unfolding bits_of
at_by r h i l ih (inl k) =
    let n : i < length (bits_of r (h / 2)) = rw length_bits k in
    get_or_append_left (bits_of r (h / 2)) (eqb (h % 2) 1 ∷ []) false i n ∙ ih k ∙ ap (λ x. eqb (x % 2) 1) (at_shifted r h i k)
at_by r h i l ih (inr k) =
    let n : length (bits_of r (h / 2)) ≡ i = rw length_bits (omega arith) in
    get_or_push (bits_of r (h / 2)) (eqb (h % 2) 1) false i n ∙ ap (λ x. eqb (x % 2) 1) (sym (at_last r h i k l))

pub bits_at : (r h i : ℕ) → i < r → get_or (bits_of r h) i false ≡ eqb (h / 2 ^ (r - suc i) % 2) 1
bits_at zero h i l = absurd (omega arith)
bits_at (suc r) h i l = at_by r h i l (λ k. bits_at r (h / 2) i k) (cases_lt i r)

spread_by : (w : ℕ) (ws : List ℕ) (i : ℕ) → i / 32 < length {A = ℕ} (w ∷ ws) → ((j : ℕ) → j / 32 < length ws → get_or (spread ws) j false ≡ get_or (bits_of 32 (get_or ws (j / 32) 0)) (j % 32) false) → (i < 32) ⊎ (32 ≤ i) → get_or (spread (w ∷ ws)) i false ≡ get_or (bits_of 32 (get_or {A = ℕ} (w ∷ ws) (i / 32) 0)) (i % 32) false
unfolding spread
spread_by w ws i l ih (inl k) =
    let n : i < length (bits_of 32 w) = rw length_bits k in
    let q : i / 32 ≡ 0 = omega arith in
    let m : i % 32 ≡ i = omega arith in
    rw (q, m) (get_or_append_left (bits_of 32 w) (spread ws) false i n)
spread_by w ws i l ih (inr k) =
    let q : i / 32 ≡ suc ((i - 32) / 32) = omega arith in
    let m : i % 32 ≡ (i - 32) % 32 = omega arith in
    rw (q, m) (get_or-append_right (bits_of 32 w) (spread ws) 32 i false (length_bits 32 w) k ∙ ih (i - 32) (omega (arith, l)))

pub spread_at : (ws : List ℕ) (i : ℕ) → i / 32 < length ws → get_or (spread ws) i false ≡ get_or (bits_of 32 (get_or ws (i / 32) 0)) (i % 32) false
spread_at [] i l = absurd (omega (arith, l))
spread_at (w ∷ ws) i l = spread_by w ws i l (λ j k. spread_at ws j k) (cases_lt i 32)

-- a mark in a full word, and one in the head
pub mark_full : (m : Marks) (i x : ℕ) → i / 32 < vec_len m.full → x ≡ get_or (vec_items m.full) (i / 32) x → eqb (x / 2 ^ (32 - 1 - i % 32) % 2) 1 ≡ get_or (marks_of m) i false
unfolding marks_of
mark_full m i x l e =
    let k : i / 32 < length (vec_items m.full) = omega (arith, m.full.ok.0) in
    let n : i < length (spread (vec_items m.full)) = rw length_spread (omega arith) in
    let o : 32 - 1 - i % 32 ≡ 32 - suc (i % 32) = omega arith in
    let r : i % 32 < 32 = omega arith in
    let f : x ≡ get_or (vec_items m.full) (i / 32) 0 = get_or_read (vec_items m.full) (i / 32) x k e 0 in
    rw (o, f) (sym (get_or_append_left (spread (vec_items m.full)) (bits_of m.held m.head) false i n ∙ spread_at (vec_items m.full) i k ∙ bits_at 32 (get_or (vec_items m.full) (i / 32) 0) (i % 32) r))

pub mark_head : (m : Marks) (i : ℕ) → vec_len m.full ≤ i / 32 → i < 32 * vec_len m.full + m.held → eqb (m.head / 2 ^ (m.held - 1 - i % 32) % 2) 1 ≡ get_or (marks_of m) i false
unfolding marks_of
mark_head m i k l =
    let a : m.held < 32 = m.head_fits.0 in
    let z : 32 * vec_len m.full ≡ length (spread (vec_items m.full)) = rw length_spread (omega (arith, m.full.ok.0)) in
    let n : i - 32 * vec_len m.full ≡ i % 32 = omega arith in
    let r : i % 32 < m.held = omega arith in
    let o : m.held - 1 - i % 32 ≡ m.held - suc (i % 32) = omega arith in
    rw o (sym (get_or-append_right (spread (vec_items m.full)) (bits_of m.held m.head) (32 * vec_len m.full) i false (sym z) (omega arith) ∙ rw n (bits_at m.held m.head (i % 32) r)))

-- what the marks' functions stand on
pub ruleset packed = (length_marks, push_head, push_full, bit_small, pow_more, mark_full, mark_head)
