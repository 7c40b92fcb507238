-- How a loop is played round by round.
use Rattle.std.proofs.Common.{◌≡◌, ℕ, zero, suc, ◌+◌, ◌-◌, ◌*◌, ◌<◌, ◌≤◌, Bool, true, false, ◌&&◌, ltb, leb, List, [], ◌∷◌, ◌++◌, length, drop, Some, None, Ok, sym, refl, ap, ◌∙◌, subst, append_assoc, append-nil, suc-mul, mul-add, add-one, arith, length-drop}
use mathlib.Core.Option.{some, none}
use Rattle.std.proofs.lemmas.List.{drop-drop}
use Rattle.std.proofs.lemmas.Bool.{and_parts, ltb-true, leb-true, both_ways}
use Rattle.cycles.specs.declared.node.Node.TheVariants.{Loop}
use Rattle.cycles.specs.Code.{P, work, touch, seq, either, times, skip, Cache}
use Rattle.cycles.specs.Plays.{At, on, rounds, play}
use Rattle.cycles.specs.Rows.{row, ok, amount}
use Rattle.cycles.specs.Reading.{Begins}
use Rattle.cycles.proofs.Unique.{of}
use Rattle.machine.specs.declared.observer.Event.{Event}
use Rattle.machine.specs.declared.player.Place.{Place}
use Rattle.machine.specs.Trace.{trace, then_trace, rounds_trace}
use Rattle.machine.specs.Telling.{Tells}
use Rattle.machine.specs.Playing.{Fit, Came, here, still}
use Rattle.machine.proofs.Going.{place_at}
use Rattle.machine.proofs.Tellings.{tells_none, tells_as, tells_then}
use Rattle.machine.proofs.Times.{Quick, play_bound}

-- a program that does nothing leaves a play where it is
rounds_stay : (c : Cache) (p : P) (rs : List ℕ) (a : At) → ((j : ℕ) → (play c p (j ∷ rs) a ≡ some a) × (trace c p (j ∷ rs) a ≡ [])) → (n i : ℕ) → (rounds n i (λ j. play c p (j ∷ rs)) a ≡ some a) × (rounds_trace n i (λ j. play c p (j ∷ rs)) (λ j. trace c p (j ∷ rs)) a ≡ [])
rounds_stay c p rs a h zero i = (refl, refl)
rounds_stay c p rs a h (suc n) i =
    let r = rounds_stay c p rs a h n (suc i) in
    (ap (λ z. on z (rounds n (suc i) (λ j. play c p (j ∷ rs)))) (h i).0 ∙ r.0, ap (λ z. z ++ then_trace (play c p (i ∷ rs) a) (rounds_trace n (suc i) (λ j. play c p (j ∷ rs)) (λ j. trace c p (j ∷ rs)))) (h i).1 ∙ ap (λ z. then_trace z (rounds_trace n (suc i) (λ j. play c p (j ∷ rs)) (λ j. trace c p (j ∷ rs)))) (h i).0 ∙ r.1)

pub still_stays : (c : Cache) (p : P) (rs : List ℕ) (a : At) → still p ≡ true → (play c p rs a ≡ some a) × (trace c p rs a ≡ [])
still_stays c (work n) rs a h = absurd (both_ways false refl h)
still_stays c (touch b ks) rs a h = absurd (both_ways false refl h)
still_stays c (seq p q) rs a h =
    let k = and_parts (still p) (still q) h in
    let x = still_stays c p rs a k.0 in
    let y = still_stays c q rs a k.1 in
    (ap (λ z. on z (play c q rs)) x.0 ∙ y.0, ap (λ z. z ++ then_trace (play c p rs a) (trace c q rs)) x.1 ∙ ap (λ z. then_trace z (trace c q rs)) x.0 ∙ y.1)
still_stays c (either p q) rs a h = absurd (both_ways false refl h)
still_stays c (times n p) rs a h = rounds_stay c p rs a (λ j. still_stays c p (j ∷ rs) a h) n 0
still_stays c skip rs a h = (refl, refl)

-- the loop p of n rounds of a, begun at f, is in round i at g
pub record Turned (c : Cache) (rs : List ℕ) (bs : List Bool) (p a : P) (n i : ℕ) (f : Place) (xs : List ℕ) (K : List Event → Type 0) (g : Place) (ys : List ℕ) (L : List Event → Type 0) : Type 0 where
  pub plays : play c p rs (here c bs f xs) ≡ rounds (n - i) i (λ j. play c a (j ∷ rs)) (here c bs g ys)
  pub done : List Event
  pub told : Tells K L done
  pub traced : trace c p rs (here c bs f xs) ≡ done ++ rounds_trace (n - i) i (λ j. play c a (j ∷ rs)) (λ j. trace c a (j ∷ rs)) (here c bs g ys)
  pub room : g.time + 65535 * ((n - i) * amount a) < 18446744073709551616

-- the body of the loop that stands at a place
pub record Body (ws : List ℕ) (loops n : ℕ) (g : Place) (q : P) (rest : List ℕ) : Type 0 where
  pub a : P
  pub loop : q ≡ times n a
  pub is : drop (g.at + 2) ws ≡ row a ++ rest
  pub within : g.at + 2 ≤ length ws
  pub fine : ok (loops + 1) 0 a ≡ true
  pub few : n ≤ 4096
  pub nested : loops < 8

module _ (c : Cache) (rs : List ℕ) (loops : ℕ) (bs : List Bool) (ws : List ℕ) (n : ℕ) where
  pub body : (q : P) (rest : List ℕ) (g : Place) → Begins (drop g.at ws) (Ok (Loop n)) → Fit ws loops g q rest → Body ws loops n g q rest
  body q rest g b h =
      let x = of 4 (n ∷ drop 2 (drop g.at ws)) q rest (sym b ∙ h.is) in
      let w : n ∷ drop 2 (drop g.at ws) ≡ x.0 ∷ (row x.1 ++ rest) = x.3 in
      let i : x.0 ≡ n = cc in
      let e : q ≡ times n x.1 = x.2 ∙ ap (λ k. times k x.1) i in
      let o = and_parts (ltb loops 8) (leb n 4096 && ok (suc loops) 0 x.1) (sym (ap (ok loops 0) e) ∙ h.fine) in
      let p = and_parts (leb n 4096) (ok (suc loops) 0 x.1) o.1 in
      record {
        a = x.1;
        loop = e;
        is = sym (drop-drop 2 g.at ws) ∙ cc;
        within = omega (arith, ap length b, length-drop g.at ws, h.within);
        fine = rw add-one p.1;
        few = leb-true n 4096 p.0;
        nested = ltb-true loops 8 o.0;
      }

  pub turned_start : (q a : P) (rest : List ℕ) (f : Place) (xs : List ℕ) (K : List Event → Type 0) → q ≡ times n a → Fit ws loops f q rest → Turned c rs bs q a n 0 f xs K f xs K
  turned_start q a rest f xs K e h =
      let z : n ≡ n - 0 = omega arith in
      record {
        plays = ap (λ k. play c k rs (here c bs f xs)) e ∙ ap (λ k. rounds k 0 (λ j. play c a (j ∷ rs)) (here c bs f xs)) z;
        done = [];
        told = tells_none K;
        traced = ap (λ k. trace c k rs (here c bs f xs)) e ∙ ap (λ k. rounds_trace k 0 (λ j. play c a (j ∷ rs)) (λ j. trace c a (j ∷ rs)) (here c bs f xs)) z;
        room = subst (λ k. f.time + 65535 * (k * amount a) < 18446744073709551616) z (omega (arith, h.room, ap amount e));
      }

  -- the next round's program
  pub fit_body : (q a : P) (rest : List ℕ) (i : ℕ) (f : Place) (xs : List ℕ) (K : List Event → Type 0) (g : Place) (ys : List ℕ) (L : List Event → Type 0) → drop (f.at + 2) ws ≡ row a ++ rest → f.at + 2 ≤ length ws → ok (loops + 1) 0 a ≡ true → i < n → Turned c rs bs q a n i f xs K g ys L → Fit ws (loops + 1) (place_at (f.at + 2) g.time g.used) a rest
  fit_body q a rest i f xs K g ys L is w o h t =
      let k : n - i ≡ suc (n - (i + 1)) = omega arith in
      let r = subst (λ z. g.time + 65535 * (z * amount a) < 18446744073709551616) k t.room in
      record { is = is; within = w; fine = o; room = omega (arith, r, suc-mul (n - (i + 1)) (amount a), mul-add 65535 (amount a) ((n - (i + 1)) * amount a)) }

  pub turned_more : Quick c → (q a : P) (i at : ℕ) (f : Place) (xs : List ℕ) (K : List Event → Type 0) (g : Place) (ys zs : List ℕ) (L M : List Event → Type 0) (t : Place) → i < n → ok (loops + 1) 0 a ≡ true → Turned c rs bs q a n i f xs K g ys L → Came c (i ∷ rs) bs a (place_at at g.time g.used) ys zs L M (Some t) → Turned c rs bs q a n (i + 1) f xs K t zs M
  turned_more quick q a i at f xs K g ys zs L M t h o u m =
      let k : n - i ≡ suc (n - (i + 1)) = omega arith in
      let l = play_bound c a (i ∷ rs) (loops + 1) (here c bs g ys) (here c bs t zs) quick o m.1 in
      let r = subst (λ z. g.time + 65535 * (z * amount a) < 18446744073709551616) k u.room in
      let one : rounds (n - i) i (λ j. play c a (j ∷ rs)) (here c bs g ys) ≡ rounds (n - (i + 1)) (i + 1) (λ j. play c a (j ∷ rs)) (here c bs t zs) = rw (k, add-one) (ap (λ z. on z (rounds (n - suc i) (suc i) (λ j. play c a (j ∷ rs)))) m.1) in
      let two : rounds_trace (n - i) i (λ j. play c a (j ∷ rs)) (λ j. trace c a (j ∷ rs)) (here c bs g ys) ≡ trace c a (i ∷ rs) (here c bs g ys) ++ rounds_trace (n - (i + 1)) (i + 1) (λ j. play c a (j ∷ rs)) (λ j. trace c a (j ∷ rs)) (here c bs t zs) = rw (k, add-one) (ap (λ z. trace c a (i ∷ rs) (here c bs g ys) ++ then_trace z (rounds_trace (n - suc i) (suc i) (λ j. play c a (j ∷ rs)) (λ j. trace c a (j ∷ rs)))) m.1) in
      record {
        plays = u.plays ∙ one;
        done = u.done ++ trace c a (i ∷ rs) (here c bs g ys);
        told = tells_then K L M u.told m.2;
        traced = u.traced ∙ ap (λ z. u.done ++ z) two ∙ sym (append_assoc u.done (trace c a (i ∷ rs) (here c bs g ys)) (rounds_trace (n - (i + 1)) (i + 1) (λ j. play c a (j ∷ rs)) (λ j. trace c a (j ∷ rs)) (here c bs t zs)));
        room = omega (arith, l, r, suc-mul (n - (i + 1)) (amount a), mul-add 65535 (amount a) ((n - (i + 1)) * amount a));
      }

  pub turned_none : (q a : P) (i at : ℕ) (f : Place) (xs : List ℕ) (K : List Event → Type 0) (g : Place) (ys zs : List ℕ) (L M : List Event → Type 0) → i < n → Turned c rs bs q a n i f xs K g ys L → Came c (i ∷ rs) bs a (place_at at g.time g.used) ys zs L M None → Came c rs bs q f xs zs K M None
  turned_none q a i at f xs K g ys zs L M h u m =
      let k : n - i ≡ suc (n - (i + 1)) = omega arith in
      let one : rounds (n - i) i (λ j. play c a (j ∷ rs)) (here c bs g ys) ≡ none = rw k (ap (λ z. on z (rounds (n - (i + 1)) (suc i) (λ j. play c a (j ∷ rs)))) m.0) in
      let two : rounds_trace (n - i) i (λ j. play c a (j ∷ rs)) (λ j. trace c a (j ∷ rs)) (here c bs g ys) ≡ trace c a (i ∷ rs) (here c bs g ys) ++ [] = rw k (ap (λ z. trace c a (i ∷ rs) (here c bs g ys) ++ then_trace z (rounds_trace (n - (i + 1)) (suc i) (λ j. play c a (j ∷ rs)) (λ j. trace c a (j ∷ rs)))) m.0) in
      (u.plays ∙ one, tells_as K M (sym (u.traced ∙ ap (λ z. u.done ++ z) (two ∙ append-nil (trace c a (i ∷ rs) (here c bs g ys))))) (tells_then K L M u.told m.1))

  pub turned_all : (q a : P) (i at : ℕ) (f : Place) (xs : List ℕ) (K : List Event → Type 0) (g : Place) (ys : List ℕ) (L : List Event → Type 0) → n ≤ i → q ≡ times n a → at ≡ f.at + 2 + length (row a) → g.used ≤ length bs → Turned c rs bs q a n i f xs K g ys L → Came c rs bs q f xs ys K L (Some (place_at at g.time g.used))
  turned_all q a i at f xs K g ys L h e w u t =
      let k : n - i ≡ 0 = omega arith in
      let none_left : rounds_trace (n - i) i (λ j. play c a (j ∷ rs)) (λ j. trace c a (j ∷ rs)) (here c bs g ys) ≡ [] = rw k in
      (omega (arith, w, ap (λ z. length (row z)) e), t.plays ∙ rw k, tells_as K L (sym (t.traced ∙ ap (λ z. t.done ++ z) none_left ∙ append-nil t.done)) t.told, u)

  -- a body that does nothing need not be gone round
  pub came_quiet : (q a : P) (at : ℕ) (f : Place) (xs : List ℕ) (K : List Event → Type 0) → q ≡ times n a → at ≡ f.at + 2 + length (row a) → f.used ≤ length bs → still a ≡ true → Came c rs bs q f xs xs K K (Some (place_at at f.time f.used))
  came_quiet q a at f xs K e w u s =
      let k = still_stays c (times n a) rs (here c bs f xs) s in
      (omega (arith, w, ap (λ z. length (row z)) e), ap (λ z. play c z rs (here c bs f xs)) e ∙ k.0, tells_as K K (sym (ap (λ z. trace c z rs (here c bs f xs)) e ∙ k.1)) (tells_none K), u)
