-- How a play goes through words: on behind the first of two, and to its end.
use Rattle.std.proofs.Common.{◌≡◌, ℕ, ◌+◌, ◌*◌, ◌<◌, ◌≤◌, Bool, true, false, List, [], ◌∷◌, ◌++◌, length, get_or, drop, Some, None, Ok, Option as StdOption, sym, refl, ap, ◌∙◌, subst, append_assoc, append-nil, mul-add, arith, length-append, length-drop}
use mathlib.Core.Option.{some}
use Rattle.std.proofs.lemmas.List.{drop-drop, drop_at, drop_more, drop_all}
use Rattle.std.proofs.lemmas.Bool.{and_parts, ltb-true, leb-true}
use Rattle.cycles.specs.declared.node.Node.TheVariants.{Work, Seq, Either, Skip}
use Rattle.cycles.specs.Code.{pick, P, work, touch, seq, either, Cache, place}
use Rattle.cycles.specs.Plays.{on, choose, left, which, play}
use Rattle.cycles.specs.Rows.{row, ok, amount, small}
use Rattle.cycles.specs.Reading.{Begins}
use Rattle.cycles.proofs.Unique.{of, same_parts}
use Rattle.machine.specs.declared.observer.Event.{Event}
use Rattle.machine.specs.declared.observer.Event.TheVariants.{Work as Worked}
use Rattle.machine.specs.declared.player.Game.{Game}
use Rattle.machine.specs.declared.player.Place.{Place}
use Rattle.machine.specs.Cells.{state_of}
use Rattle.machine.specs.Trace.{trace, then_trace, choose_trace, rounds_trace}
use Rattle.machine.specs.Telling.{Tells}
use Rattle.machine.specs.Playing.{Fit, Ready, Stands, Came, Goes, Observed, here}
use Rattle.machine.proofs.Tellings.{tells_none, tells_as, tells_then}
use Rattle.machine.proofs.Times.{Quick, cost_bound, play_bound}

abbrev pub place_at : ℕ → ℕ → ℕ → Place
place_at at time used = record { at = at; time = time; used = used }

-- what is left of a program p, begun at f with the cells xs and K told: the program q at g, with the cells ys and L told, the events done between them
pub record Onward (c : Cache) (rs : List ℕ) (loops : ℕ) (bs : List Bool) (ws : List ℕ) (p : P) (rest : List ℕ) (f : Place) (xs : List ℕ) (K : List Event → Type 0) (g : Place) (ys : List ℕ) (L : List Event → Type 0) : Type 0 where
  pub q : P
  pub fit : Fit ws loops g q rest
  pub ends : g.at + length (row q) ≡ f.at + length (row p)
  pub plays : play c p rs (here c bs f xs) ≡ play c q rs (here c bs g ys)
  pub done : List Event
  pub told : Tells K L done
  pub traced : trace c p rs (here c bs f xs) ≡ done ++ trace c q rs (here c bs g ys)

module _ (c : Cache) (rs : List ℕ) (loops : ℕ) (bs : List Bool) (ws : List ℕ) where
  pub onward_start : (p : P) (rest : List ℕ) (f : Place) (xs : List ℕ) (K : List Event → Type 0) → Fit ws loops f p rest → Onward c rs loops bs ws p rest f xs K f xs K
  onward_start p rest f xs K h = record { q = p; fit = h; ends = refl; plays = refl; done = []; told = tells_none K; traced = refl }

  pub onward_end : (p : P) (rest : List ℕ) (f : Place) (xs : List ℕ) (K : List Event → Type 0) (g : Place) (ys zs : List ℕ) (L M : List Event → Type 0) (r : StdOption Place) → (o : Onward c rs loops bs ws p rest f xs K g ys L) → Came c rs bs o.q g ys zs L M r → Came c rs bs p f xs zs K M r
  onward_end p rest f xs K g ys zs L M (Some t) o h = (h.0 ∙ o.ends, o.plays ∙ h.1, tells_as K M (sym o.traced) (tells_then K L M o.told h.2), h.3)
  onward_end p rest f xs K g ys zs L M None o h = (o.plays ∙ h.0, tells_as K M (sym o.traced) (tells_then K L M o.told h.1))

  -- the parts of two in turn
  pub fit_seq : (q : P) (rest : List ℕ) (g : Place) → Begins (drop g.at ws) (Ok Seq) → Fit ws loops g q rest → (a : P) × (b : P) × (q ≡ seq a b) × Fit ws loops (place_at (g.at + 1) g.time g.used) a (row b ++ rest)
  fit_seq q rest g n h =
      let x = of 2 (drop 1 (drop g.at ws)) q rest (sym n ∙ h.is) in
      let o = and_parts (ok loops 0 x.0) (ok loops 0 x.1) (sym (ap (ok loops 0) x.2) ∙ h.fine) in (
        x.0,
        x.1,
        x.2,
        record {
          is = sym (drop-drop 1 g.at ws) ∙ x.3;
          within = omega (arith, ap length n, length-drop g.at ws, h.within);
          fine = o.0;
          room = omega (arith, h.room, ap amount x.2, mul-add 65535 (amount x.0) (amount x.1));
        },
      )

  -- behind the first of two
  pub onward_seq : Quick c → (p : P) (rest : List ℕ) (f : Place) (xs : List ℕ) (K : List Event → Type 0) (g : Place) (ys : List ℕ) (L : List Event → Type 0) → Begins (drop g.at ws) (Ok Seq) → (o : Onward c rs loops bs ws p rest f xs K g ys L) → (t : Place) (zs : List ℕ) (M : List Event → Type 0) → ((a : P) (r : List ℕ) → Fit ws loops (place_at (g.at + 1) g.time g.used) a r → Came c rs bs a (place_at (g.at + 1) g.time g.used) ys zs L M (Some t)) → Onward c rs loops bs ws p rest f xs K t zs M
  onward_seq quick p rest f xs K g ys L n o t zs M came =
      let (a, b, e, h) = fit_seq o.q rest g n o.fit in
      let m = came a (row b ++ rest) h in
      let k = and_parts (ok loops 0 a) (ok loops 0 b) (sym (ap (ok loops 0) e) ∙ o.fit.fine) in
      let l = play_bound c a rs loops (here c bs g ys) (here c bs t zs) quick k.0 m.1 in
      let w : drop t.at ws ≡ row b ++ rest = ap (λ i. drop i ws) m.0 ∙ sym (drop-drop (length (row a)) (g.at + 1) ws) ∙ ap (drop (length (row a))) h.is ∙ drop_at (row a) (row b ++ rest) (length (row a)) refl in
      let s : play c (seq a b) rs (here c bs g ys) ≡ play c b rs (here c bs t zs) = ap (λ z. on z (play c b rs)) m.1 in
      let u : trace c (seq a b) rs (here c bs g ys) ≡ trace c a rs (here c bs g ys) ++ trace c b rs (here c bs t zs) = ap (λ z. trace c a rs (here c bs g ys) ++ then_trace z (trace c b rs)) m.1 in
      record {
        q = b;
        fit = record { is = w; within = omega (arith, m.0, h.within, ap length h.is, length-append (row a) (row b ++ rest), length-drop (g.at + 1) ws); fine = k.1; room = omega (arith, o.fit.room, ap amount e, mul-add 65535 (amount a) (amount b)) };
        ends = omega (arith, m.0, o.ends, ap (λ z. length (row z)) e, length-append (row a) (row b));
        plays = o.plays ∙ ap (λ z. play c z rs (here c bs g ys)) e ∙ s;
        done = o.done ++ trace c a rs (here c bs g ys);
        told = tells_then K L M o.told m.2;
        traced = o.traced ∙ ap (λ z. o.done ++ trace c z rs (here c bs g ys)) e ∙ ap (λ z. o.done ++ z) u ∙ sym (append_assoc o.done (trace c a rs (here c bs g ys)) (trace c b rs (here c bs t zs)));
      }

  pub came_work : (q : P) (rest : List ℕ) (g : Place) (xs : List ℕ) (K L : List Event → Type 0) (n : ℕ) → Begins (drop g.at ws) (Ok (Work n)) → Fit ws loops g q rest → g.used ≤ length bs → Tells K L (Worked g.time n ∷ []) → Came c rs bs q g xs xs K L (Some (place_at (g.at + 2) (g.time + n) g.used))
  came_work q rest g xs K L n b h u f =
      let x = of 0 (n ∷ drop 2 (drop g.at ws)) q rest (sym b ∙ h.is) in
      let w : n ∷ drop 2 (drop g.at ws) ≡ x.0 ∷ rest = x.2 in
      let i : x.0 ≡ n = cc in
      let e : q ≡ work n = x.1 ∙ ap work i in
      (ap (λ z. g.at + length (row z)) (sym e), ap (λ z. play c z rs (here c bs g xs)) e, tells_as K L (ap (λ z. trace c z rs (here c bs g xs)) (sym e)) f, u)

  pub came_skip : (q : P) (rest : List ℕ) (g : Place) (xs : List ℕ) (K : List Event → Type 0) → Begins (drop g.at ws) (Ok Skip) → Fit ws loops g q rest → g.used ≤ length bs → Came c rs bs q g xs xs K K (Some (place_at (g.at + 1) g.time g.used))
  came_skip q rest g xs K b h u =
      let x = of 5 (drop 1 (drop g.at ws)) q rest (sym b ∙ h.is) in
      (ap (λ z. g.at + length (row z)) (sym x.0), ap (λ z. play c z rs (here c bs g xs)) x.0, tells_as K K (ap (λ z. trace c z rs (here c bs g xs)) (sym x.0)) (tells_none K), u)

  -- the touch that stands at a place
  pub fit_touch : (q : P) (rest : List ℕ) (g : Place) (b : ℕ) (ks : List ℕ) → drop g.at ws ≡ 1 ∷ b ∷ length ks ∷ (ks ++ drop (3 + length ks) (drop g.at ws)) → Fit ws loops g q rest → (q ≡ touch b ks) × (b < 65536) × (length ks ≤ loops) × (small ks ≡ true)
  fit_touch q rest g b ks n h =
      let x = of 1 (b ∷ length ks ∷ (ks ++ drop (3 + length ks) (drop g.at ws))) q rest (sym n ∙ h.is) in
      let w : b ∷ length ks ∷ (ks ++ drop (3 + length ks) (drop g.at ws)) ≡ x.0 ∷ length x.1 ∷ (x.1 ++ rest) = x.3 in
      let i : x.0 ≡ b = cc in
      let j = (same_parts x.1 ks rest (drop (3 + length ks) (drop g.at ws)) (cc) (cc)).0 in
      let t : q ≡ touch b ks = x.2 ∙ cc in
      let a = and_parts _ _ (sym (ap (ok loops 0) t) ∙ h.fine) in
      let d = and_parts _ _ a.1 in
      (t, ltb-true b 65536 a.0, leb-true (length ks) loops d.0, d.1)

  pub came_touch : (q : P) (rest : List ℕ) (g : Place) (xs ys : List ℕ) (K L : List Event → Type 0) (b : ℕ) (ks : List ℕ) (v n : ℕ) → drop g.at ws ≡ 1 ∷ b ∷ length ks ∷ (ks ++ drop (3 + length ks) (drop g.at ws)) → Fit ws loops g q rest → g.used ≤ length bs → v ≡ place b ks rs → Observed c v g.time xs ys K L n → Came c rs bs q g xs ys K L (Some (place_at (g.at + (3 + length ks)) (g.time + n) g.used))
  came_touch q rest g xs ys K L b ks v n k h u p o =
      let t = (fit_touch q rest g b ks k h).0 in
      let played : play c (touch b ks) rs (here c bs g xs) ≡ some (here c bs (place_at (g.at + (3 + length ks)) (g.time + n) g.used) ys) = rw (o.after, o.cost, p) in
      let told : Tells K L (trace c (touch b ks) rs (here c bs g xs)) = subst (λ z. Tells K L (Rattle.machine.specs.Trace.touch_event c z (here c bs g xs) ∷ [])) p o.told in
      (ap (λ z. g.at + z) (omega (arith, ap (λ z. length (row z)) t)), ap (λ z. play c z rs (here c bs g xs)) t ∙ played, tells_as K L (ap (λ z. trace c z rs (here c bs g xs)) (sym t)) told, u)

  -- the parts of an either: the first behind its own word, the second behind the first
  pub fit_either : (q : P) (rest : List ℕ) (g : Place) (used : ℕ) → Begins (drop g.at ws) (Ok Either) → Fit ws loops g q rest → (a : P) × (b : P) × (q ≡ either a b) × Fit ws loops (place_at (g.at + 1) g.time used) a (row b ++ rest) × Fit ws loops (place_at (g.at + 1 + length (row a)) g.time used) b rest
  fit_either q rest g used n h =
      let x = of 3 (drop 1 (drop g.at ws)) q rest (sym n ∙ h.is) in
      let o = and_parts (ok loops 0 x.0) (ok loops 0 x.1) (sym (ap (ok loops 0) x.2) ∙ h.fine) in
      let w : g.at + 1 ≤ length ws = omega (arith, ap length n, length-drop g.at ws, h.within) in
      let i : drop (g.at + 1) ws ≡ row x.0 ++ (row x.1 ++ rest) = sym (drop-drop 1 g.at ws) ∙ x.3 in (
        x.0,
        x.1,
        x.2,
        record { is = i; within = w; fine = o.0; room = omega (arith, h.room, ap amount x.2) },
        record {
          is = sym (drop-drop (length (row x.0)) (g.at + 1) ws) ∙ ap (drop (length (row x.0))) i ∙ drop_at (row x.0) (row x.1 ++ rest) (length (row x.0)) refl;
          within = omega (arith, w, ap length i, length-append (row x.0) (row x.1 ++ rest), length-drop (g.at + 1) ws);
          fine = o.1;
          room = omega (arith, h.room, ap amount x.2);
        },
      )

  -- no choice is left for an either
  pub came_none : (q : P) (rest : List ℕ) (g : Place) (xs : List ℕ) (K : List Event → Type 0) → Begins (drop g.at ws) (Ok Either) → Fit ws loops g q rest → length bs ≤ g.used → Came c rs bs q g xs xs K K None
  came_none q rest g xs K n h u =
      let (a, b, e, x, y) = fit_either q rest g 0 n h in
      let d = drop_all g.used bs u in
      (ap (λ z. play c z rs (here c bs g xs)) e ∙ ap (λ z. choose z (λ v vs. which v (play c a rs) (play c b rs) (left (here c bs g xs) vs))) d, tells_as K K (sym (ap (λ z. trace c z rs (here c bs g xs)) e ∙ ap (λ z. choose_trace z (λ v vs. pick v (trace c a rs (left (here c bs g xs) vs)) (trace c b rs (left (here c bs g xs) vs)))) d)) (tells_none K))

  -- the either goes on as the part that is chosen
  chosen : (a b : P) (g : Place) (xs : List ℕ) (v : Bool) → g.used < length bs → get_or bs g.used false ≡ v → (play c (either a b) rs (here c bs g xs) ≡ play c (pick v a b) rs (here c bs (place_at 0 g.time (g.used + 1)) xs)) × (trace c (either a b) rs (here c bs g xs) ≡ trace c (pick v a b) rs (here c bs (place_at 0 g.time (g.used + 1)) xs))
  chosen a b g xs v u e =
      let d : drop g.used bs ≡ v ∷ drop (g.used + 1) bs = drop_more bs g.used false u ∙ ap (λ z. z ∷ drop (g.used + 1) bs) e in
      (ap (λ z. choose z (λ w vs. which w (play c a rs) (play c b rs) (left (here c bs g xs) vs))) d ∙ played v, ap (λ z. choose_trace z (λ w vs. pick w (trace c a rs (left (here c bs g xs) vs)) (trace c b rs (left (here c bs g xs) vs)))) d ∙ traced v)
    where
      played : (v : Bool) → which v (play c a rs) (play c b rs) (left (here c bs g xs) (drop (g.used + 1) bs)) ≡ play c (pick v a b) rs (here c bs (place_at 0 g.time (g.used + 1)) xs)
      played true = refl
      played false = refl

      traced : (v : Bool) → pick v (trace c a rs (left (here c bs g xs) (drop (g.used + 1) bs))) (trace c b rs (left (here c bs g xs) (drop (g.used + 1) bs))) ≡ trace c (pick v a b) rs (here c bs (place_at 0 g.time (g.used + 1)) xs)
      traced true = refl
      traced false = refl

  second_as : (q a b : P) (g : Place) (xs ys : List ℕ) (K L : List Event → Type 0) (at : ℕ) (r : StdOption Place) → q ≡ either a b → at ≡ g.at + 1 + length (row a) → g.used < length bs → get_or bs g.used false ≡ false → Came c rs bs b (place_at at g.time (g.used + 1)) xs ys K L r → Came c rs bs q g xs ys K L r
  second_as q a b g xs ys K L at None is i u e m =
      let k = chosen a b g xs false u e in
      (ap (λ z. play c z rs (here c bs g xs)) is ∙ k.0 ∙ m.0, tells_as K L (sym (ap (λ z. trace c z rs (here c bs g xs)) is ∙ k.1)) m.1)
  second_as q a b g xs ys K L at (Some t) is i u e m =
      let k = chosen a b g xs false u e in
      (m.0 ∙ omega (arith, i, ap (λ z. length (row z)) is, length-append (row a) (row b)), ap (λ z. play c z rs (here c bs g xs)) is ∙ k.0 ∙ m.1, tells_as K L (sym (ap (λ z. trace c z rs (here c bs g xs)) is ∙ k.1)) m.2, m.3)

  -- the second is chosen: where it ends, the either ends
  pub came_second : (q : P) (rest : List ℕ) (g : Place) (xs ys : List ℕ) (K L : List Event → Type 0) (at : ℕ) (r : StdOption Place) → Begins (drop g.at ws) (Ok Either) → Fit ws loops g q rest → g.used < length bs → get_or bs g.used false ≡ false → ((a : P) (s : List ℕ) → drop (g.at + 1) ws ≡ row a ++ s → at ≡ g.at + 1 + length (row a)) → ((b : P) (s : List ℕ) → Fit ws loops (place_at at g.time (g.used + 1)) b s → Came c rs bs b (place_at at g.time (g.used + 1)) xs ys K L r) → Came c rs bs q g xs ys K L r
  came_second q rest g xs ys K L at r n h u e ends came =
      let (a, b, is, x, y) = fit_either q rest g (g.used + 1) n h in
      let i = ends a (row b ++ rest) x.is in
      second_as q a b g xs ys K L at r is i u e (came b rest (subst (λ z. Fit ws loops (place_at z g.time (g.used + 1)) b rest) (sym i) y))

  -- the first is chosen: the either ends behind the second
  pub came_first : (q : P) (rest : List ℕ) (g : Place) (xs ys : List ℕ) (K L : List Event → Type 0) (t : Place) (at : ℕ) → Begins (drop g.at ws) (Ok Either) → Fit ws loops g q rest → g.used < length bs → get_or bs g.used false ≡ true → ((a : P) (s : List ℕ) → Fit ws loops (place_at (g.at + 1) g.time (g.used + 1)) a s → Came c rs bs a (place_at (g.at + 1) g.time (g.used + 1)) xs ys K L (Some t)) → ((b : P) (s : List ℕ) → drop t.at ws ≡ row b ++ s → at ≡ t.at + length (row b)) → Came c rs bs q g xs ys K L (Some (place_at at t.time t.used))
  came_first q rest g xs ys K L t at n h u e came ends =
      let (a, b, is, x, y) = fit_either q rest g (g.used + 1) n h in
      let m = came a (row b ++ rest) x in
      let k = chosen a b g xs true u e in
      let i = ends b rest (ap (λ z. drop z ws) m.0 ∙ y.is) in
      (omega (arith, i, m.0, ap (λ z. length (row z)) is, length-append (row a) (row b)), ap (λ z. play c z rs (here c bs g xs)) is ∙ k.0 ∙ m.1, tells_as K L (sym (ap (λ z. trace c z rs (here c bs g xs)) is ∙ k.1)) m.2, m.3)

  pub came_first_none : (q : P) (rest : List ℕ) (g : Place) (xs ys : List ℕ) (K L : List Event → Type 0) → Begins (drop g.at ws) (Ok Either) → Fit ws loops g q rest → g.used < length bs → get_or bs g.used false ≡ true → ((a : P) (s : List ℕ) → Fit ws loops (place_at (g.at + 1) g.time (g.used + 1)) a s → Came c rs bs a (place_at (g.at + 1) g.time (g.used + 1)) xs ys K L None) → Came c rs bs q g xs ys K L None
  came_first_none q rest g xs ys K L n h u e came =
      let (a, b, is, x, y) = fit_either q rest g (g.used + 1) n h in
      let m = came a (row b ++ rest) x in
      let k = chosen a b g xs true u e in
      (ap (λ z. play c z rs (here c bs g xs)) is ∙ k.0 ∙ m.0, tells_as K L (sym (ap (λ z. trace c z rs (here c bs g xs)) is ∙ k.1)) m.1)

  -- the choices run out in the first of two
  pub seq_none : (q : P) (rest : List ℕ) (g : Place) (ys zs : List ℕ) (L M : List Event → Type 0) → Begins (drop g.at ws) (Ok Seq) → Fit ws loops g q rest → Goes c rs loops bs ws (place_at (g.at + 1) g.time g.used) ys zs L M None → Came c rs bs q g ys zs L M None
  seq_none q rest g ys zs L M n h came =
      let (a, b, e, x) = fit_seq q rest g n h in
      let m = came a (row b ++ rest) x in
      (ap (λ z. play c z rs (here c bs g ys)) e ∙ ap (λ z. on z (play c b rs)) m.0, tells_as L M (sym (ap (λ z. trace c z rs (here c bs g ys)) e ∙ ap (λ z. trace c a rs (here c bs g ys) ++ then_trace z (trace c b rs)) m.0 ∙ append-nil (trace c a rs (here c bs g ys)))) m.1)

  pub goes_as : (f f' : Place) (xs ys : List ℕ) (K L : List Event → Type 0) (r : StdOption Place) → f ≡ f' → Goes c rs loops bs ws f xs ys K L r → Goes c rs loops bs ws f' xs ys K L r
  goes_as f f' xs ys K L r e m = subst (λ z. Goes c rs loops bs ws z xs ys K L r) e m

  pub came_as : (p : P) (f : Place) (xs ys : List ℕ) (K L : List Event → Type 0) (r s : StdOption Place) → r ≡ s → Came c rs bs p f xs ys K L s → Came c rs bs p f xs ys K L r
  came_as p f xs ys K L r s e m = subst (λ z. Came c rs bs p f xs ys K L z) (sym e) m

-- a program that fits at a place stands there, and is ready
pub stands : (ws : List ℕ) (loops : ℕ) (f : Place) (p : P) (rest : List ℕ) → Fit ws loops f p rest → Stands ws f.at
stands ws loops f p rest h = record { p = p; rest = rest; is = h.is; within = h.within }

pub ready_as : (m : Game) (loops : ℕ) (f g : Place) (xs : List ℕ) (p : P) (rest : List ℕ) → g ≡ f → Fit m.words.now loops f p rest → f.used ≤ length m.choices.now → m.cache.sets * m.cache.ways ≤ length xs → Ready m loops g xs
ready_as m loops f g xs p rest e h u c = subst (λ z. Ready m loops z xs) (sym e) (record { p = p; rest = rest; fit = h; used = u; cells = c })

-- the bounds of a work and of a touch
pub work_bounds : (ws : List ℕ) (loops : ℕ) (q : P) (rest : List ℕ) (g : Place) (n : ℕ) → Begins (drop g.at ws) (Ok (Work n)) → Fit ws loops g q rest → (g.at + 2 ≤ length ws) × (g.time + n < 18446744073709551616)
work_bounds ws loops q rest g n b h =
    let x = of 0 (n ∷ drop 2 (drop g.at ws)) q rest (sym b ∙ h.is) in
    let w : n ∷ drop 2 (drop g.at ws) ≡ x.0 ∷ rest = x.2 in
    let i : x.0 ≡ n = cc in
    let o = ltb-true x.0 65536 (sym (ap (ok loops 0) x.1) ∙ h.fine) in
    (omega (arith, ap length b, length-drop g.at ws, h.within), omega (arith, o, i, h.room, ap amount x.1))

pub touch_bounds : (c : Cache) (ws : List ℕ) (loops : ℕ) (q : P) (rest : List ℕ) (g : Place) (xs ys : List ℕ) (K L : List Event → Type 0) (b : ℕ) (ks : List ℕ) (v n : ℕ) → Quick c → drop g.at ws ≡ 1 ∷ b ∷ length ks ∷ (ks ++ drop (3 + length ks) (drop g.at ws)) → Fit ws loops g q rest → Observed c v g.time xs ys K L n → (g.at + (3 + length ks) ≤ length ws) × (g.time + n < 18446744073709551616)
touch_bounds c ws loops q rest g xs ys K L b ks v n quick k h o =
    let t = (fit_touch c [] loops [] ws q rest g b ks k h).0 in
    (omega (arith, ap length k, length-append ks (drop (3 + length ks) (drop g.at ws)), length-drop g.at ws, h.within), omega (arith, o.cost, cost_bound c (state_of c xs) v quick, h.room, ap amount t))

-- the same in equal rounds, under as many loops, from an equal place
pub goes_in : (c : Cache) (rs rs' : List ℕ) (l l' : ℕ) (bs : List Bool) (ws : List ℕ) (f f' : Place) (xs ys : List ℕ) (K L : List Event → Type 0) (r : StdOption Place) → rs ≡ rs' → l ≡ l' → f ≡ f' → Goes c rs l bs ws f xs ys K L r → Goes c rs' l' bs ws f' xs ys K L r
goes_in c rs rs' l l' bs ws f f' xs ys K L r a b d m =
    subst (λ z. Goes c z l' bs ws f' xs ys K L r) a (subst (λ z. Goes c rs z bs ws f' xs ys K L r) b (subst (λ z. Goes c rs l bs ws z xs ys K L r) d m))
