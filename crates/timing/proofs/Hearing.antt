-- What a held table's tellings say of its entries, and how their choices are written one record after the other.
use Rattle.std.proofs.Common.{◌≡◌, ℕ, zero, suc, ◌+◌, ◌-◌, ◌*◌, ◌<◌, ◌≤◌, Bool, List, [], ◌∷◌, ◌++◌, map, length, take, drop, sym, ap, ◌∙◌, subst, ⊎_elim, append_assoc, suc-add, zero-add, arith, length-append, length-drop}
use lib.ListN.{length-map}
use borrow.Rule.Slice.PartMut.{put_mid}
use Rattle.std.proofs.lemmas.List.{drop-drop, take-take, take_at, take_all, map-append, length-take-le}
use Rattle.cycles.specs.Code.{P, Cache}
use Rattle.trails.specs.declared.telling.Telling.{Telling}
use Rattle.trails.specs.Trails.{bit, telling_of}
use Rattle.trails.proofs.Fronts.{sound_within, tells_within}
use Rattle.tables.specs.declared.slot.Extreme.{Extreme}
use Rattle.tables.specs.declared.slot.Extreme.TheVariants.{Longest, Shortest}
use Rattle.tables.specs.Best.{Val, Both}
use Rattle.tables.specs.Each.{At, here, there}
use Rattle.tables.specs.Showing.{Matches, Shown, width, cells}
use Rattle.tables.specs.Slots.{chunk}
use Rattle.tables.specs.Tables.{Entry}
use Rattle.tables.proofs.Chunks.{chunk_at, within}
use Rattle.tables.proofs.Eaches.{each_back}
use Rattle.tables.proofs.Overs.{front_telling}
use Rattle.engine.specs.Tabulating.{behind}
use Rattle.timing.specs.Retelling.{side, offset, told_at, Fitting, Holding}

pub at_less : {A : Type 0} {x : A} {k : ℕ} {xs : List A} → At x k xs → k < length xs
at_less here = omega arith
at_less (there a) = omega (arith, at_less a)

-- a slot's telling, read from the whole
told_chunk : (c : Cache) (x : Extreme) (k : ℕ) (xs : List ℕ) → told_at c x k xs ≡ telling_of (drop (offset c x) (chunk (width c) k xs))
told_chunk c Longest k xs = ap telling_of (sym (drop-drop (cells c) (width c * k) xs)) ∙ sym (front_telling (cells c) (width c) (drop (width c * k) xs) (chunk (width c) k xs) (omega arith) (take-take (width c) (width c) (drop (width c * k) xs) (omega arith)))
told_chunk c Shortest k xs = ap telling_of (sym (drop-drop (cells c + 7) (width c * k) xs)) ∙ sym (front_telling (cells c + 7) (width c) (drop (width c * k) xs) (chunk (width c) k xs) (omega arith) (take-take (width c) (width c) (drop (width c * k) xs) (omega arith)))

shown_side : (c : Cache) (x : Extreme) (a : Both ℕ) (s ws : List ℕ) (e : Entry (Both Val)) → Shown c a s ws e → Matches (side x a) s (telling_of (drop (offset c x) ws)) (side x e.val)
shown_side c Longest a s ws e m = m.long
shown_side c Shortest a s ws e m = m.short

-- the telling of the k-th entry is the entry's
heard : (c : Cache) (p : P) (x : Extreme) (a : Both ℕ) (xs st : List ℕ) (e : Entry (Both Val)) (k : ℕ) → Holding c p a xs st → At e k (behind c p) → Matches (side x a) st (told_at c x k xs) (side x e.val)
heard c p x a xs st e k h at =
    let m = shown_side c x a (take h.top st) (chunk (width c) k xs) e (each_back h.shows (chunk_at (width c) k (length (behind c p)) xs (at_less at)) at) in
    subst (λ t. Matches (side x a) st t (side x e.val)) (sym (told_chunk c x k xs)) (record { time = m.time; sound = sound_within (side x a) h.top st _ m.sound; tells = tells_within (side x a) h.top st _ (side x e.val).choices m.sound m.tells })

-- as the code reads it, from a number n on
pub heard_as : {c : Cache} {p : P} {a : Both ℕ} {n : ℕ} {xs st : List ℕ} {e : Entry (Both Val)} {k : ℕ} {t : Telling} (x : Extreme) → side x a ≡ n → t ≡ told_at c x k xs → Holding c p a xs st → At e k (behind c p) → Matches n st t (side x e.val)
heard_as {c} {p} {a} {n} {xs} {st} {e} {k} {t} x i j h at = subst (λ z. Matches z st t (side x e.val)) i (subst (λ z. Matches (side x a) st z (side x e.val)) (sym j) (heard c p x a xs st e k h at))

-- the slot of an entry lies within the words
pub entry_fits : {ws : List ℕ} {c : Cache} {most lent k : ℕ} {e : Entry (Both Val)} (f : Fitting ws c most lent) → At e k (behind c f.p) → width c * k + width c ≤ lent
entry_fits {c = c} {most} {lent} {k} f at = let l = at_less at in let w = f.few in within (width c) k most lent (omega arith) f.fits

-- a front of a play's choices is written
abbrev pub Written : ℕ → List ℕ → List Bool → Type 0
Written n out bs = take n out ≡ map bit (take n bs)

-- how far a telling's record goes
pub heard_long : {a n : ℕ} {st : List ℕ} {t : Telling} {v : Val} → n ≡ length v.choices → Matches a st t v → t.recorded ≤ n - a
heard_long l m = omega (arith, m.sound.within, m.tells.count)

pub heard_some : {a n : ℕ} {st : List ℕ} {t : Telling} {v : Val} → n ≡ length v.choices → a < n → Matches a st t v → 0 < t.recorded
heard_some l h m = ⊎_elim (λ e. omega (arith, e, m.tells.count)) (λ e. omega (arith, e.0)) m.sound.all

-- the first record
pub written_first : {st : List ℕ} (out out' : List ℕ) {t : Telling} {v : Val} → length out ≡ length v.choices → Matches 0 st t v → out' ≡ map bit (take t.recorded v.choices) ++ drop t.recorded out → Written t.recorded out' v.choices
written_first out out' {t} {v} l m e =
    let r = heard_long l m in
    let k : length (map bit (take t.recorded v.choices)) ≡ t.recorded = length-map (take t.recorded v.choices) bit ∙ length-take-le t.recorded v.choices (omega arith) in
    ap (take t.recorded) e ∙ take_at (map bit (take t.recorded v.choices)) (drop t.recorded out) t.recorded k

take_plus : {A : Type 0} (n m : ℕ) (xs : List A) → take (n + m) xs ≡ take n xs ++ take m (drop n xs)
take_plus zero m xs = rw zero-add
take_plus (suc n) m [] = rw suc-add (sym (take_all m [] (omega arith)))
take_plus (suc n) m (x ∷ xs) = rw suc-add (ap (λ t. x ∷ t) (take_plus n m xs))

-- one record more, written behind what is written
pub written_more : {st : List ℕ} (out part : List ℕ) {t : Telling} {v : Val} (n m : ℕ) → n < length out → length out ≡ length v.choices → m ≡ length out - n → Matches n st t v → Written n out v.choices → part ≡ map bit (take t.recorded (drop n v.choices)) ++ drop t.recorded (take m (drop n out)) → Written (n + t.recorded) (put_mid n m out part) v.choices
written_more out part {t} {v} n m h l w q old e =
    let r = heard_long l q in
    let d = length-drop n v.choices in
    let k : length (map bit (take t.recorded (drop n v.choices))) ≡ t.recorded = length-map (take t.recorded (drop n v.choices)) bit ∙ length-take-le t.recorded (drop n v.choices) (omega arith) in
    let i : length (take n out) ≡ n = length-take-le n out (omega arith) in
    let x : List ℕ = map bit (take t.recorded (drop n v.choices)) in
    let j : length (take n out ++ x) ≡ n + t.recorded = length-append (take n out) x ∙ omega (arith, i, k) in
    let f : put_mid n m out part ≡ (take n out ++ x) ++ (drop t.recorded (take m (drop n out)) ++ drop m (drop n out)) = ap (λ z. take n out ++ (z ++ drop m (drop n out))) e ∙ ap (λ z. take n out ++ z) (append_assoc x (drop t.recorded (take m (drop n out))) (drop m (drop n out))) ∙ sym (append_assoc (take n out) x (drop t.recorded (take m (drop n out)) ++ drop m (drop n out))) in
    ap (take (n + t.recorded)) f ∙ take_at (take n out ++ x) _ (n + t.recorded) j ∙ ap (λ z. z ++ x) old ∙ sym (map-append bit (take n v.choices) (take t.recorded (drop n v.choices))) ∙ ap (map bit) (sym (take_plus n t.recorded v.choices))

-- all is written
pub written_all : {n : ℕ} (out : List ℕ) (bs : List Bool) → length out ≤ n → length out ≡ length bs → Written n out bs → out ≡ map bit bs
written_all {n} out bs h l w = sym (take_all n out h) ∙ w ∙ ap (map bit) (take_all n bs (omega arith))
