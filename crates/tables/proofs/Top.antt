-- From the empty cache, an entry that no other is better than tells a longest time with the fewest choices that take it, or a shortest.
use Rattle.std.proofs.Common.{◌≡◌, ℕ, zero, suc, ◌<◌, ◌≤◌, Bool, true, false, List, [], ◌∷◌, map, length, sym, refl, ap, ◌∙◌, subst, zero-add, arith}
use Rattle.std.proofs.lemmas.List.{length-map}
use Rattle.cycles.specs.Code.{P, work, touch, seq, either, times, skip, Cache, St, empty, place}
use Rattle.cycles.specs.Plays.{Play, same_s}
use Rattle.cycles.specs.Says.{Longest, Shortest}
use Rattle.machine.proofs.Lists.{by}
use Rattle.tables.specs.Tables.{Entry, Values, join, gather, dedup, turns, spent, chose, touched, run}
use Rattle.tables.specs.Best.{Val, plus, longer, shorter, Both, told, Has, first, later, start, ExactBy, BestTold}
use Rattle.tables.proofs.Exact.{Order, longest_first, shortest_first, table_exact}

module _ {V : Type 0} (o : Values V) where
  join_some : (T : List (Entry V)) (e : Entry V) → 0 < length (join o.best T e)
  join_some [] e = omega arith
  join_some (f ∷ T) e = by (same_s f.st e.st) (λ z. 0 < length z) (record { st = f.st; val = o.best f.val e.val } ∷ T) (f ∷ join o.best T e) (λ _. omega arith) (λ _. omega arith)

  gather_some : (U T : List (Entry V)) → 0 < length T → 0 < length (gather o.best T U)
  gather_some [] T h = h
  gather_some (e ∷ U) T h = gather_some U (join o.best T e) (join_some T e)

  dedup_some : (T : List (Entry V)) → 0 < length T → 0 < length (dedup o.best T)
  dedup_some [] h = h
  dedup_some (e ∷ T) h = gather_some T (join o.best [] e) (join_some [] e)

  map_some : (g : Entry V → Entry V) (T : List (Entry V)) → 0 < length T → 0 < length (map g T)
  map_some g T h = rw length-map h

  turns_some : (f : ℕ → List (Entry V) → List (Entry V)) → ((j : ℕ) (T : List (Entry V)) → 0 < length T → 0 < length (f j T)) → (n i : ℕ) (T : List (Entry V)) → 0 < length T → 0 < length (turns n i f T)
  turns_some f k zero i T h = h
  turns_some f k (suc n) i T h = turns_some f k n (suc i) (f i T) (k i T h)

  -- where an entry is before a program, there is one behind it
  pub run_some : (c : Cache) (p : P) (rs : List ℕ) (T : List (Entry V)) → 0 < length T → 0 < length (run o c p rs T)
  run_some c (work n) rs T h = map_some (spent o n) T h
  run_some c (touch b ks) rs T h = map_some (touched o c (place b ks rs)) T h
  run_some c (seq p q) rs T h = run_some c q rs (run o c p rs T) (run_some c p rs T h)
  run_some c (either p q) rs T h =
      let D : List (Entry V) = dedup o.best T in
      let X : List (Entry V) = map (chose o true) D in
      gather_some (run o c q rs (map (chose o false) D)) (dedup o.best (run o c p rs X)) (dedup_some (run o c p rs X) (run_some c p rs X (map_some (chose o true) D (dedup_some T h))))
  run_some c (times n p) rs T h = turns_some (λ i. run o c p (i ∷ rs)) (λ j. run_some c p (j ∷ rs)) n 0 T h
  run_some c skip rs T h = h

only : {e f : Entry (Both Val)} → Has f (e ∷ []) → f ≡ e
only first = refl
only (later h) = elim h [ ]

abbrev val : ℕ → List Bool → Val
val n bs = record { time = n; choices = bs }

plus_start : (n : ℕ) (bs : List Bool) → plus (val 0 []) n bs ≡ val n bs
plus_start n bs = simp zero-add

-- a value that a play takes, and as good as any play's
record Top (better : Val → Val → Bool) (c : Cache) (p : P) (v : Val) : Type 0 where
  pub end : St
  pub taken : Play c p (empty c) v.choices v.time end
  pub above : (bs : List Bool) (n : ℕ) (t : St) → Play c p (empty c) bs n t → better v (val n bs) ≡ true

top : (side : Both Val → Val) (better : Val → Val → Bool) → Order better → (c : Cache) (p : P) → side (start c).val ≡ val 0 [] → ExactBy side better c p (start c ∷ []) → (e : Entry (Both Val)) → Has e (run told c p [] (start c ∷ [])) → ((f : Entry (Both Val)) → Has f (run told c p [] (start c ∷ [])) → better (side e.val) (side f.val) ≡ true) → Top better c p (side e.val)
top side better o c p z x e h best =
    let (f, bs, n, k, y, is) = x.0 e h in
    let i : side e.val ≡ val n bs = is ∙ ap (λ (g : Entry (Both Val)). plus (side g.val) n bs) (only k) ∙ ap (λ (v : Val). plus v n bs) z ∙ plus_start n bs in
    record {
      end = e.st;
      taken = subst (λ (v : Val). Play c p (empty c) v.choices v.time e.st) (sym i) (subst (λ (g : Entry (Both Val)). Play c p g.st bs n e.st) (only k) y);
      above = λ cs m t q. let (g, j, _, b) = x.1 (start c) cs m t first q in o.chain (side e.val) (side g.val) (val m cs) (best g j) (rw (z, plus_start m cs) at b);
    }

longest : (c : Cache) (p : P) (v : Val) → Top longer c p v → Longest c p v.time v.choices × ((m : ℕ) (cs : List Bool) → Longest c p m cs → length v.choices ≤ length cs)
longest c p v t = (
  record { taken = (t.end, t.taken); none_longer = λ cs k u y. let b = t.above cs k u y in grind arith },
  λ m cs l. let b = t.above cs m l.taken.0 l.taken.1 in let d = l.none_longer v.choices v.time t.end t.taken in grind arith,
)

shortest : (c : Cache) (p : P) (v : Val) → Top shorter c p v → Shortest c p v.time v.choices × ((m : ℕ) (cs : List Bool) → Shortest c p m cs → length v.choices ≤ length cs)
shortest c p v t = (
  record { taken = (t.end, t.taken); none_shorter = λ cs k u y. let b = t.above cs k u y in grind arith },
  λ m cs l. let b = t.above cs m l.taken.0 l.taken.1 in let d = l.none_shorter v.choices v.time t.end t.taken in grind arith,
)

pub best_told : BestTold
best_told c p =
    let x = table_exact c p (start c ∷ []) in (
      run_some told c p [] (start c ∷ []) (omega arith),
      λ e h b. longest c p e.val.long (top (λ v. v.long) longer longest_first c p refl x.0 e h b),
      λ e h b. shortest c p e.val.short (top (λ v. v.short) shorter shortest_first c p refl x.1 e h b),
    )
