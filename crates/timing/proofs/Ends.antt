-- The best entries of the table behind a program, and what is told of them.
use Rattle.std.proofs.Common.{◌≡◌, ℕ, zero, suc, ◌+◌, ◌-◌, ◌*◌, ◌<◌, ◌≤◌, Bool, true, false, List, [], ◌∷◌, ◌++◌, map, length, take, drop, Ok, Err, Result, sym, refl, ap, ◌∙◌, subst, append_assoc, arith, length-append, length-drop}
use borrow.Rule.Slice.PartMut.{put_mid}
use Rattle.std.proofs.lemmas.List.{take_at, drop_at, drop-drop, length-take-le}
use Rattle.cycles.specs.Code.{P, Cache}
use Rattle.cycles.specs.Rows.{Reads}
use Rattle.cycles.specs.Says.{Longest, Shortest, bits, TimedSays}
use Rattle.cycles.specs.declared.Timed.TheVariants as timed
use Rattle.cycles.proofs.Whole.{one_reading}
use Rattle.trails.specs.declared.telling.Telling.{Telling}
use Rattle.trails.specs.Trails.{bit}
use Rattle.tables.specs.declared.slot.Extreme.{Extreme}
use Rattle.tables.specs.declared.slot.Extreme.TheVariants as sought
use Rattle.tables.specs.Best.{Val, Both, Has, first, later}
use Rattle.tables.specs.Each.{At, here, there}
use Rattle.tables.specs.Showing.{width, as_good}
use Rattle.tables.specs.Tables.{Entry}
use Rattle.tables.proofs.Chunks.{within, up_to}
use Rattle.tables.proofs.Applying.{has_at}
use Rattle.tables.proofs.Matching.{as_good_val, compares}
use Rattle.tables.proofs.Top.{best_told}
use Rattle.engine.specs.declared.tabulate.Tabulated.{Tabulated}
use Rattle.engine.specs.declared.tabulate.TabulateError.{TabulateError}
use Rattle.engine.specs.declared.tabulate.TabulateError.TheVariants.{NoProgram, Few, Crowded}
use Rattle.engine.specs.Tabulating.{TabulatePost, asked, behind}
use Rattle.timing.specs.Retelling.{side, told_at, Holding, Tellable}
use Rattle.timing.proofs.Hearing.{at_less, heard_as}
use Rattle.timing.proofs.Passes.{done_holds}

-- every place has an entry, and every entry a place
entry_at : {A : Type 0} (k : ℕ) (T : List A) → k < length T → (x : A) × At x k T
entry_at k [] h = absurd (omega arith)
entry_at zero (x ∷ T) h = (x, here)
entry_at (suc k) (x ∷ T) h = let (y, a) = entry_at k T (omega arith) in (y, there a)

place_of : {f : Entry (Both Val)} {T : List (Entry (Both Val))} → Has f T → (k : ℕ) × At f k T
place_of first = (0, here)
place_of (later h) = let (k, a) = place_of h in (suc k, there a)

-- the k-th entry is told by t, and no entry is better
pub record Chosen (c : Cache) (p : P) (x : Extreme) (k : ℕ) (t : Telling) : Type 0 where
  pub e : Entry (Both Val)
  pub at : At e k (behind c p)
  pub time : t.time ≡ (side x e.val).time
  pub count : t.count ≡ length (side x e.val).choices
  pub best : (f : Entry (Both Val)) → Has f (behind c p) → as_good_val x (side x e.val) (side x f.val) ≡ true

-- the first pass is done, with n entries
pub record Done (ws : List ℕ) (c : Cache) (p : P) (a : Both ℕ) (most n : ℕ) (xs st : List ℕ) : Type 0 where
  pub reads : Reads ws c p
  pub many : n ≡ length (behind c p)
  pub some : 0 < n
  pub few : n ≤ most
  pub enough : asked c p ≤ most
  pub lent : width c * most ≤ length xs
  pub holding : Holding c p a xs st

-- what the first pass says of the program that the words are known to be
module _ {ws : List ℕ} {c : Cache} {p : P} {a : Both ℕ} {most lent : ℕ} {ys st : List ℕ} (reads : Reads ws c p) (fits : width c * most ≤ lent) where
  pub first_pass : {t : Tabulated} → length ys ≡ lent → TabulatePost ws a most lent ys st (Ok t) → Done ws c p a most t.entries ys st
  first_pass {t} l s =
      let (d, q, r, more, m, few, within, shows) = s.says in
      let e = one_reading ws d c q p r reads in
      let many : t.entries ≡ length (behind c p) = m ∙ ap (λ z. length (behind z q)) e.0 ∙ ap (λ z. length (behind c z)) e.1 in
      record {
        reads = reads;
        many = many;
        some = omega (arith, (best_told c p).0, many);
        few = few;
        enough = omega (arith, more, ap (λ z. asked z q) e.0, ap (asked c) e.1);
        lent = omega (arith, fits, l);
        holding = done_holds s c p reads;
      }

  -- it is not done: crowded
  pub told_crowded : (r : Result Tabulated TabulateError) (o : List ℕ) → TabulatePost ws a most lent ys st r → ((t : Tabulated) → r ≡ Ok t → ⊥) → TimedSays ws most o o timed.Crowded
  told_crowded (Ok t) o s h = absurd (h t refl)
  told_crowded (Err Crowded) o s h =
      let (d, q, r, more, wide) = s.says in
      (d, q, r, wide, refl)
  told_crowded (Err (NoProgram f)) o s h = absurd (s.says.1 c p reads)
  told_crowded (Err Few) o s h =
      let (d, q, r, less) = s.says in
      absurd (let e = one_reading ws d c q p r reads in omega (arith, less, fits, ap (λ z. width z * most) e.0))

module _ {ws : List ℕ} {c : Cache} {p : P} {a : Both ℕ} {most n : ℕ} {xs st : List ℕ} (d : Done ws c p a most n xs st) where
  -- the slots fit, all of them and each
  pub all_fit : width c * n ≤ length xs
  all_fit = omega (arith, up_to (width c) n most d.few, d.lent)

  pub slot_fits : (k : ℕ) → k < n → width c * k + width c ≤ length xs
  slot_fits k h = within (width c) k n (length xs) h all_fit

  pub chosen : (x : Extreme) (k : ℕ) (t : Telling) → k < n → ((j : ℕ) → j < n → as_good x (told_at c x k xs) (told_at c x j xs) ≡ true) → t ≡ told_at c x k xs → Chosen c p x k t
  chosen x k t l g is =
      let (e, at) = entry_at k (behind c p) (omega (arith, d.many)) in
      let m = heard_as x refl refl d.holding at in
      record {
        e = e;
        at = at;
        time = ap (λ z. z.time) is ∙ m.time;
        count = ap (λ z. z.count) is ∙ m.tells.count;
        best = λ f i.
            let (j, b) = place_of i in
            let q = heard_as x refl refl d.holding b in
            sym (compares x (told_at c x k xs) (told_at c x j xs) (side x e.val) (side x f.val) m.time m.tells.count q.time q.tells.count) ∙ g j (omega (arith, at_less b, d.many));
      }

  -- what is chosen can be told, from whatever slots hold the table then
  abbrev pub tellable : {x : Extreme} {k : ℕ} {t : Telling} {b : Both ℕ} {zs su : List ℕ} (bytes : ℕ) → Chosen c p x k t → length zs ≡ length xs → bytes ≡ t.count → side x b ≡ 0 → Holding c p b zs su → Tellable ws c most x k bytes zs su
  tellable {b = b} bytes o s l from h =
      record { fitting = record { p = p; reads = d.reads; enough = d.enough; few = omega (arith, d.many, d.few); fits = omega (arith, d.lent, s) }; e = o.e; at = o.at; long = l ∙ o.count; a = b; from = from; holding = h }

-- the longest of all, with the fewest choices; and the shortest
pub is_longest : {c : Cache} {p : P} {k : ℕ} {t : Telling} (o : Chosen c p sought.Longest k t) → Longest c p t.time o.e.val.long.choices × ((m : ℕ) (cs : List Bool) → Longest c p m cs → t.count ≤ length cs)
is_longest {c} {p} o =
    let r = (best_told c p).1 o.e (has_at o.at) o.best in
    (subst (λ n. Longest c p n o.e.val.long.choices) (sym o.time) r.0, λ m cs l. omega (arith, r.1 m cs l, o.count))

pub is_shortest : {c : Cache} {p : P} {k : ℕ} {t : Telling} (o : Chosen c p sought.Shortest k t) → Shortest c p t.time o.e.val.short.choices × ((m : ℕ) (cs : List Bool) → Shortest c p m cs → t.count ≤ length cs)
is_shortest {c} {p} o =
    let r = (best_told c p).2 o.e (has_at o.at) o.best in
    (subst (λ n. Shortest c p n o.e.val.short.choices) (sym o.time) r.0, λ m cs l. omega (arith, r.1 m cs l, o.count))

pub bits_map : (bs : List Bool) → bits bs ≡ map bit bs
bits_map [] = refl
bits_map (true ∷ bs) = ap (λ t. 1 ∷ t) (bits_map bs)
bits_map (false ∷ bs) = ap (λ t. 0 ∷ t) (bits_map bs)

-- two plays written, one behind the other, into the front of the bytes
module _ (o ys : List ℕ) (k l : ℕ) (fits : k + l ≤ length o) where
  pub first_long : length (take (k - 0) o) ≡ k
  first_long = let z : k - 0 ≡ k = omega arith in rw z (length-take-le k o (omega arith))

  first_is : put_mid 0 (k - 0) o ys ≡ ys ++ drop k o
  first_is = let z : k - 0 ≡ k = omega arith in rw z

  pub second_long : length ys ≡ k → length (take (k + l - k) (drop k (put_mid 0 (k - 0) o ys))) ≡ l
  second_long long =
      let z : k + l - k ≡ l = omega arith in
      let b : drop k (ys ++ drop k o) ≡ drop k o = drop_at ys (drop k o) k long in
      ap (λ t. length (take (k + l - k) (drop k t))) first_is ∙ rw (z, b) (length-take-le l (drop k o) (omega (arith, length-drop k o)))

  module _ (zs : List ℕ) (long : length ys ≡ k) (short : length zs ≡ l) where
    second_is : put_mid k (k + l - k) (put_mid 0 (k - 0) o ys) zs ≡ (ys ++ zs) ++ drop (k + l) o
    second_is =
        let z : k + l - k ≡ l = omega arith in
        let a : take k (ys ++ drop k o) ≡ ys = take_at ys (drop k o) k long in
        let b : drop k (ys ++ drop k o) ≡ drop k o = drop_at ys (drop k o) k long in
        ap (λ t. put_mid k (k + l - k) t zs) first_is ∙ rw (z, a, b, drop-drop) (sym (append_assoc ys zs (drop (k + l) o)))

    both_long : length (ys ++ zs) ≡ k + (k + l - k)
    both_long = length-append ys zs ∙ omega arith

    pub both_told : take (k + (k + l - k)) (put_mid k (k + l - k) (put_mid 0 (k - 0) o ys) zs) ≡ ys ++ zs
    both_told = ap (take (k + (k + l - k))) second_is ∙ take_at (ys ++ zs) (drop (k + l) o) (k + (k + l - k)) both_long

    pub both_kept : drop (k + (k + l - k)) (put_mid k (k + l - k) (put_mid 0 (k - 0) o ys) zs) ≡ drop (k + (k + l - k)) o
    both_kept = let z : k + (k + l - k) ≡ k + l = omega arith in ap (drop (k + (k + l - k))) second_is ∙ drop_at (ys ++ zs) (drop (k + l) o) (k + (k + l - k)) both_long ∙ ap (λ n. drop n o) (sym z)
