-- The first n slots changed one after the other, and what they show then.
use Rattle.std.proofs.Common.{◌≡◌, ℕ, ◌+◌, ◌-◌, ◌*◌, ◌<◌, ◌≤◌, Bool, List, map, length, take, drop, sym, refl, ap, ◌∙◌, subst, mul-suc, add-one, arith}
use borrow.Rule.Slice.PartMut.{put_mid}
use Rattle.std.proofs.lemmas.List.{drop-drop}
use Rattle.cycles.specs.Code.{Cache}
use Rattle.trails.specs.declared.store.Store.{Store}
use Rattle.trails.specs.Stores.{Grown, nodes}
use Rattle.trails.specs.Trails.{Keeps, telling_of}
use Rattle.trails.proofs.Fronts.{grown_on}
use Rattle.tables.specs.Best.{Val, Both, Table, told, Has, first, later}
use Rattle.tables.specs.Each.{Each, At, here, there}
use Rattle.tables.specs.Showing.{cells, width, Shown, Shows, Showing, Notable}
use Rattle.tables.specs.Slots.{chunks, chunk, over}
use Rattle.tables.specs.Tables.{Entry, chose}
use Rattle.tables.proofs.Chunks.{within, length_chunk, length_chunks, chunk_at, chunks_set, put_over, drop_beyond}
use Rattle.tables.proofs.Eaches.{upto, upto_all, each_at, each_length, each_change}
use Rattle.tables.proofs.Matching.{shown_kept}

-- the slots from the k-th on are as they were
abbrev pub Rest : ℕ → ℕ → List ℕ → List ℕ → Type 0
Rest w k xs ys = drop (w * k) ys ≡ drop (w * k) xs

-- a slot written over the k-th of n
module _ (w k n : ℕ) (ys new : List ℕ) (long : length new ≡ w) (less : k < n) (fits : w * n ≤ length ys) where
  rest_more : (xs : List ℕ) → Rest w k xs ys → Rest w (k + 1) xs (over ys (w * k) new)
  rest_more xs e =
      let h = within w k n (length ys) less fits in
      let i : w * (k + 1) ≡ w * k + w = omega (arith, mul-suc w k, add-one k) in
      rw i (drop_beyond ys new (w * k) (w * k + w) (omega arith) (omega arith) ∙ sym (drop-drop w (w * k) ys) ∙ ap (drop w) e ∙ drop-drop w (w * k) xs)

  each_more : (R S : List ℕ → Entry (Both Val) → Type 0) (f : Entry (Both Val) → Entry (Both Val)) (T : Table) → ((u : List ℕ) (e : Entry (Both Val)) → R u e → S u e) → ((e : Entry (Both Val)) → R (chunk w k ys) e → S new (f e)) → Each R (chunks w n ys) (upto k f T) → Each S (chunks w n (over ys (w * k) new)) (upto (k + 1) f T)
  each_more R S f T g h e = rw (add-one, chunks_set w ys new k long (within w k n (length ys) less fits) n less) (each_change R S f new k T g (chunk_at w k n ys less) h e)

-- the k-th slot as the code lends it on
abbrev pub part : ℕ → ℕ → List ℕ → List ℕ
part w k ys = take (w * k + w - w * k) (drop (w * k) ys)

abbrev pub put_part : ℕ → ℕ → List ℕ → List ℕ → List ℕ
put_part w k ys new = put_mid (w * k) (w * k + w - w * k) ys new

-- by a width w that the code computes
module _ (c : Cache) (n k w : ℕ) (ys : List ℕ) (wide : w ≡ width c) (less : k < n) (fits : width c * n ≤ length ys) where
  pub part_chunk : part w k ys ≡ chunk (width c) k ys
  part_chunk = let e : w * k + w - w * k ≡ w = omega arith in rw (e, wide)

  pub part_long : length (part w k ys) ≡ width c
  part_long = rw part_chunk (length_chunk (width c) k ys (within (width c) k n (length ys) less fits))

  -- as it was at first
  pub part_is : (xs : List ℕ) → Rest (width c) k xs ys → part w k ys ≡ chunk (width c) k xs
  part_is xs rest = part_chunk ∙ ap (take (width c)) rest

  -- written
  module _ (new : List ℕ) (long : length new ≡ length (part w k ys)) where
    pub put_part_over : put_part w k ys new ≡ over ys (width c * k) new
    put_part_over = let e : w * k + w - w * k ≡ w = omega arith in rw (e, wide) (put_over (width c) ys new k (long ∙ part_long) (within (width c) k n (length ys) less fits) (width c) refl)

    rest_put : (xs : List ℕ) → Rest (width c) k xs ys → Rest (width c) (k + 1) xs (put_part w k ys new)
    rest_put xs e = rw put_part_over (rest_more (width c) k n ys new (long ∙ part_long) less fits xs e)

    each_put : (R S : List ℕ → Entry (Both Val) → Type 0) (f : Entry (Both Val) → Entry (Both Val)) (T : Table) → ((u : List ℕ) (e : Entry (Both Val)) → R u e → S u e) → ((e : Entry (Both Val)) → R (part w k ys) e → S new (f e)) → Each R (chunks (width c) n ys) (upto k f T) → Each S (chunks (width c) n (put_part w k ys new)) (upto (k + 1) f T)
    each_put R S f T g h e = rw put_part_over (each_more (width c) k n ys new (long ∙ part_long) less fits R S f T g (subst (λ u. (e : Entry (Both Val)) → R u e → S new (f e)) part_chunk h) e)

-- k of the n slots are changed by f, whatever they showed
pub record Applied (c : Cache) (n k : ℕ) (f : Entry (Both Val) → Entry (Both Val)) (xs ys : List ℕ) : Type 0 where
  pub rest : Rest (width c) k xs ys
  pub shows : (a : Both ℕ) (s : List ℕ) (T : Table) → Shows c a s n xs T → Shows c a s n ys (upto k f T)

pub applied_more : {c : Cache} {n k w : ℕ} {f : Entry (Both Val) → Entry (Both Val)} {xs ys new : List ℕ} → w ≡ width c → k < n → width c * n ≤ length ys → length new ≡ length (part w k ys) → ((a : Both ℕ) (s : List ℕ) (e : Entry (Both Val)) → Shown c a s (part w k ys) e → Shown c a s new (f e)) → Applied c n k f xs ys → Applied c n (k + 1) f xs (put_part w k ys new)
applied_more {c = c} {n = n} {k = k} {w = w} {f = f} {xs = xs} {ys = ys} {new = new} wide less fits long h p =
    record {
      rest = rest_put c n k w ys wide less fits new long xs p.rest;
      shows = λ a s T r. each_put c n k w ys wide less fits new long (Shown c a s) (Shown c a s) f T (λ u e q. q) (h a s) (p.shows a s T r);
    }

-- all n are
shows_all : (c : Cache) (a : Both ℕ) (n k : ℕ) (s t : List ℕ) (f : Entry (Both Val) → Entry (Both Val)) (xs ys : List ℕ) (T : Table) → n ≤ k → Shows c a s n xs T → Shows c a t n ys (upto k f T) → Shows c a t n ys (map f T)
shows_all c a n k s t f xs ys T h r q =
    let l = each_length r in
    let j = length_chunks (width c) n xs in
    subst (Shows c a t n ys) (upto_all k f T (omega arith)) q

pub applied_all : {c : Cache} {n k : ℕ} {f : Entry (Both Val) → Entry (Both Val)} {xs ys : List ℕ} → n ≤ k → Applied c n k f xs ys → (a : Both ℕ) (s : List ℕ) (T : Table) → Shows c a s n xs T → Shows c a s n ys (map f T)
applied_all {c = c} {n = n} {k = k} {f = f} {xs = xs} {ys = ys} h p a s T r = shows_all c a n k s s f xs ys T h r (p.shows a s T r)

-- a choice is noted in k of the n slots, and the store has grown
pub record Noted (c : Cache) (a : Both ℕ) (n k : ℕ) (b : Bool) (s t : Store) (xs ys : List ℕ) : Type 0 where
  pub rest : Rest (width c) k xs ys
  pub grown : Grown s t
  pub shows : (T : Table) → Shows c a (nodes s) n xs T → Shows c a (nodes t) n ys (upto k (chose told b) T)

pub noted_more : {c : Cache} {a : Both ℕ} {n k w : ℕ} {b : Bool} {s t u : Store} {xs ys new : List ℕ} → w ≡ width c → k < n → width c * n ≤ length ys → length new ≡ length (part w k ys) → Grown t u → ((e : Entry (Both Val)) → Shown c a (nodes t) (part w k ys) e → Shown c a (nodes u) new (chose told b e)) → Noted c a n k b s t xs ys → Noted c a n (k + 1) b s u xs (put_part w k ys new)
noted_more {c = c} {a = a} {n = n} {k = k} {w = w} {b = b} {s = s} {t = t} {u = u} {xs = xs} {ys = ys} {new = new} wide less fits long g h p =
    record {
      rest = rest_put c n k w ys wide less fits new long xs p.rest;
      grown = grown_on s t u p.grown g;
      shows = λ T r. each_put c n k w ys wide less fits new long (Shown c a (nodes t)) (Shown c a (nodes u)) (chose told b) T (λ v e q. shown_kept c a (nodes t) (nodes u) v e g.keeps q) h (p.shows T r);
    }

pub noted_all : {c : Cache} {a : Both ℕ} {n k : ℕ} {b : Bool} {s t : Store} {xs ys : List ℕ} → n ≤ k → Noted c a n k b s t xs ys → (T : Table) → Shows c a (nodes s) n xs T → Shows c a (nodes t) n ys (map (chose told b) T)
noted_all {c = c} {a = a} {n = n} {k = k} {b = b} {s = s} {t = t} {xs = xs} {ys = ys} h p T r = shows_all c a n k (nodes s) (nodes t) (chose told b) xs ys T h r (p.shows T r)

pub has_at : {e : Entry (Both Val)} {k : ℕ} {T : Table} → At e k T → Has e T
has_at here = first
has_at (there a) = later (has_at a)

-- the tellings of the k-th of n slots take a choice more, whatever the store keeps them in
pub notable : (c : Cache) (a : Both ℕ) (n k : ℕ) (s t xs ws : List ℕ) → k < n → Keeps s t → ws ≡ chunk (width c) k xs → Showing c a s n xs 1 → Notable a.long t (telling_of (drop (cells c) ws)) × Notable a.short t (telling_of (drop (cells c + 7) ws))
notable c a n k s t xs ws less keeps is x =
    let p = each_at x.shows (chunk_at (width c) k n xs less) in
    let m = shown_kept c a s t ws p.y keeps (rw is p.rel) in
    let (l, r) = x.room p.y (has_at p.at) in
    (record { v = p.y.val.long; matches = m.long; counts = l.1 }, record { v = p.y.val.short; matches = m.short; counts = r.1 })
