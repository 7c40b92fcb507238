-- What becomes of a telling as a choice is noted: it is only counted, or goes into the head, or into a new head.
use Rattle.std.proofs.Common.{◌≡◌, ℕ, ◌+◌, ◌-◌, ◌*◌, ◌%◌, ◌<◌, ◌≤◌, Bool, true, false, ◌⊎◌, List, [], ◌∷◌, ◌++◌, length, take, drop, sym, refl, ap, ◌∙◌, inl, append_assoc, pow-suc, arith, length-append, length-drop}
use Rattle.std.proofs.lemmas.List.{take_all, drop-append-le, length_push}
use Rattle.trails.specs.declared.telling.Telling.{Telling}
use Rattle.trails.specs.Trails.{Lies, Sound, Tells, Whole, added, bit, bits_of, chain, full, held, none, record_of, shelved}
use Rattle.trails.proofs.Nodes.{bits_none, bits_push, chain_node, full_more, full_same, lies_node}

-- a telling of no choices

pub none_sound : (a : ℕ) (s : List ℕ) → Sound a s none
unfolding Lies
none_sound a s = record { few = omega arith; within = omega arith; small = omega arith; lies = tt; all = inl (omega arith) }

pub none_tells : (a : ℕ) (s : List ℕ) → Tells a s none []
unfolding chain bits_of
none_tells a s = record { count = refl; front = refl }

-- one telling over one store becomes another over another as a choice is noted
pub record Noted (a : ℕ) (s s' : List ℕ) (t t' : Telling) (b : Bool) : Type 0 where
  pub sound : Sound a s' t'
  pub tells : (bs : List Bool) → Tells a s t bs → Tells a s' t' (bs ++ (b ∷ []))

-- one choice more, recorded or not

all_push : (m a : ℕ) (bs : List Bool) (b : Bool) → a ≤ length bs → length bs - a ≡ m → take (m + 1) (drop a (bs ++ (b ∷ []))) ≡ take m (drop a bs) ++ (b ∷ [])
all_push m a bs b h e =
    let l : length (drop a bs ++ (b ∷ [])) ≤ m + 1 = simp (length-append, length-drop) (omega arith) in
    let k : length (drop a bs) ≤ m = simp length-drop (omega arith) in
    rw (drop-append-le a bs (b ∷ []) h, take_all (m + 1) (drop a bs ++ (b ∷ [])) l, take_all m (drop a bs) k)

-- a telling whose record grows by the choice tells it
recorded_tells : (a : ℕ) (s s' : List ℕ) (t t' : Telling) (b : Bool) → Whole a t → t'.count ≡ t.count + 1 → t'.recorded ≡ t.recorded + 1 → record_of s' t' ≡ record_of s t ++ (b ∷ []) → (bs : List Bool) → Tells a s t bs → Tells a s' t' (bs ++ (b ∷ []))
recorded_tells a s s' t t' b whole n m r bs w =
    record {
      count = n ∙ simp length_push (ap (λ n. n + 1) w.count);
      front = r ∙ ap (λ r. r ++ (b ∷ [])) w.front ∙ sym (rw m (all_push t.recorded a bs b (rw w.count at whole.0) (rw w.count at whole.1)));
    }

-- only counted

abbrev pub counted : Telling → Telling
counted t = record { time = t.time; count = t.count + 1; parent = t.parent; head = t.head; recorded = t.recorded }

-- into the head

bit_small : (b : Bool) → bit b ≤ 1
bit_small true = omega arith
bit_small false = omega arith

pub added_noted : (a : ℕ) (s : List ℕ) (t : Telling) (b : Bool) → Sound a s t → Whole a t → (t.recorded ≡ 0) ⊎ (t.recorded % 32 ≡ 0 → ⊥) → Noted a s s t (added (counted t) b) b
added_noted a s t b h whole free =
    let f = full_same t.recorded free in
    let p = pow-suc 2 (held t.recorded) in
    let r : record_of s (added t b) ≡ record_of s t ++ (b ∷ []) = rw (f.1, f.0, bits_push (held t.recorded) t.head b) (sym (append_assoc (chain s (full t.recorded) t.parent) (bits_of (held t.recorded) t.head) (b ∷ []))) in
    record {
      sound = record { few = omega (arith, f.2 h.few); within = omega (arith, whole.1); small = rw f.1 (omega (arith, bit_small b, h.small)); lies = rw f.0 h.lies; all = inl (omega (arith, whole.0, whole.1)) };
      tells = recorded_tells a s s t (added (counted t) b) b whole refl refl r;
    }

-- into a new head

pub shelved_noted : (a : ℕ) (s : List ℕ) (p : ℕ) (t : Telling) (b : Bool) → p ≡ length s → Sound a s t → Whole a t → 0 < t.recorded → t.recorded % 32 ≡ 0 → t.recorded < 4294967264 → Noted a s (s ++ (t.parent ∷ (t.head ∷ []))) t (added (shelved p (counted t)) b) b
shelved_noted a s p t b place h whole some full-head few =
    let k = full t.recorded in
    let s' = s ++ (t.parent ∷ (t.head ∷ [])) in
    let t' = added (shelved p (counted t)) b in
    let f = full_more t.recorded some full-head in
    let g : record_of s t ≡ chain s k t.parent ++ bits_of 32 t.head = rw f.1 in
    let one : bits_of 1 (0 * 2 + bit b) ≡ b ∷ [] = bits_push 0 0 b ∙ rw (bits_none 0) in
    let r : record_of s' t' ≡ record_of s t ++ (b ∷ []) = rw (f.2, f.0, one, place, chain_node s k t.parent t.head h.lies, ← g) in
    record {
      sound = record { few = omega arith; within = omega (arith, whole.1); small = rw f.2 (omega (arith, bit_small b)); lies = rw (f.0, place) (lies_node s k t.parent t.head h.lies); all = inl (omega (arith, whole.0, whole.1)) };
      tells = recorded_tells a s s' t t' b whole refl refl r;
    }
