-- Words that are a cache and a program, all of them.
use Rattle.std.proofs.Common.{◌≡◌, ℕ, ◌+◌, ◌<◌, ◌≤◌, Bool, true, false, ◌&&◌, T, leb, List, [], ◌++◌, length, drop, Ok, Err, sym, refl, ap, ◌∙◌, subst, append-nil, arith, length-drop}
use Rattle.std.proofs.lemmas.List.{drop_all}
use Rattle.std.proofs.lemmas.Bool.{and_parts, and_from, leb-true, le-leb}
use Rattle.cycles.specs.Code.{pick, P, Cache}
use Rattle.cycles.specs.Rows.{row, row_c, ok, ok_c, deep, amount, Reads}
use Rattle.cycles.specs.Says.{OneReading}
use Rattle.cycles.specs.declared.fault.Rule.TheVariants.{Amount}
use Rattle.cycles.specs.declared.reader.Extent.{Extent}
use Rattle.cycles.specs.Reading.{Spans, Scans, NoneBegins, ReadPost}
use Rattle.cycles.proofs.Unique.{unique}

is_true : (b : Bool) → T b → b ≡ true
is_true true h = refl
is_true false h = absurd h

-- what a reading says of the cache, and of the words behind its six
pub record Parted (ws : List ℕ) (c : Cache) (p : P) : Type 0 where
  pub shaped : ok_c c ≡ true
  pub all : drop 6 ws ≡ row p ++ []
  pub fine : ok 0 0 p ≡ true
  pub shallow : 0 + deep p ≤ 200
  pub little : amount p ≤ 4294967296

pub parted : (ws : List ℕ) (c : Cache) (p : P) → Reads ws c p → Parted ws c p
parted ws c p r =
    let a = and_parts (ok_c c) (ok 0 0 p && (leb (deep p) 200 && leb (amount p) 4294967296)) (is_true _ r.fine) in
    let b = and_parts (ok 0 0 p) (leb (deep p) 200 && leb (amount p) 4294967296) a.1 in
    let d = and_parts (leb (deep p) 200) (leb (amount p) 4294967296) b.1 in
    record {
      shaped = a.0;
      all = ap (drop 6) r.is ∙ sym (append-nil (row p));
      fine = b.0;
      shallow = omega (arith, leb-true (deep p) 200 d.0);
      little = leb-true (amount p) 4294967296 d.1;
    }

pub no_cache : (ws : List ℕ) → ((c : Cache) (r : List ℕ) → ws ≡ row_c c ++ r → ok_c c ≡ true → ⊥) → (c : Cache) (p : P) → Reads ws c p → ⊥
no_cache ws none c p r = none c (row p) r.is (parted ws c p r).shaped

pub no_program : (ws : List ℕ) → NoneBegins (drop 6 ws) 0 0 → (c : Cache) (p : P) → Reads ws c p → ⊥
no_program ws none c p r = let b = parted ws c p r in none p [] b.all b.fine b.shallow

-- a program that the words behind the cache begin with is the one that they are
pub all_of_it : (ws : List ℕ) (end m : ℕ) → Spans ws 0 0 6 end m → (c : Cache) (p : P) → Reads ws c p → (length ws ≤ end) × (m ≤ 4294967296)
all_of_it ws end m f c p r =
    let b = parted ws c p r in
    let same = unique p f.p [] (drop end ws) (sym b.all ∙ f.is) in
    (omega (arith, f.within, ap length same.1, length-drop end ws), omega (arith, f.done, b.little, ap amount same.0))

pub whole : (ws : List ℕ) (c : Cache) (end m : ℕ) → ws ≡ row_c c ++ drop 6 ws → ok_c c ≡ true → Spans ws 0 0 6 end m → length ws ≤ end → m < 4294967297 → (p : P) × Reads ws c p
whole ws c end m e o f a b =
    let g : drop 6 ws ≡ row f.p = f.is ∙ ap (λ t. row f.p ++ t) (drop_all end ws a) ∙ append-nil (row f.p) in
    (f.p, record { is = e ∙ ap (λ t. row_c c ++ t) g; fine = subst T (sym (and_from _ _ o (and_from _ _ f.fine (and_from _ _ (le-leb (deep f.p) 200 (omega (arith, f.shallow))) (le-leb (amount f.p) 4294967296 (omega (arith, f.done))))))) tt })

-- one bit tells one policy
same_policy : (a b : Bool) → pick {A = ℕ} a 1 0 ≡ pick b 1 0 → a ≡ b
same_policy true true e = refl
same_policy true false e = absurd (omega arith)
same_policy false true e = absurd (omega arith)
same_policy false false e = refl

abbrev cache : ℕ → ℕ → ℕ → ℕ → ℕ → Bool → Cache
cache s w l h m u = record { sets = s; ways = w; line = l; hit = h; miss = m; used = u }

pub one_reading : OneReading
one_reading s c d p q a b =
    let e : row_c c ++ row p ≡ row_c d ++ row q = sym a.is ∙ b.is in
    let w : pick {A = ℕ} c.used 1 0 ≡ pick d.used 1 0 = cc in
    let u = same_policy c.used d.used w in
    let same : cache c.sets c.ways c.line c.hit c.miss c.used ≡ cache d.sets d.ways d.line d.hit d.miss d.used = cc in
    let r : row p ≡ row q = cc in
    (same, (unique p q [] [] (append-nil (row p) ∙ r ∙ sym (append-nil (row q)))).0)

-- what is told of a program that does too much
pub too_much : (ws : List ℕ) (e : Extent) → Scans ws 0 0 6 (Ok e) → 4294967297 ≤ e.load.amount → ReadPost ws (Err (record { place = e.load.place; rule = Amount }))
too_much ws e f b =
    record { says = (omega (arith, f.0.within, f.1), λ d p r. let h = all_of_it ws _ _ f.0 d p r in omega arith); one = one_reading }
