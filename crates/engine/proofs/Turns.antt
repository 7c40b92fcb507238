-- How a pass goes through a loop, round by round.
use Rattle.std.proofs.Common.{◌≡◌, ℕ, suc, ◌+◌, ◌-◌, ◌*◌, ◌<◌, ◌≤◌, max, true, List, ◌∷◌, length, Option, sym, ap, ◌∙◌, subst, suc-mul, add-one, arith}
use Rattle.cycles.specs.Code.{P, times, Cache}
use Rattle.cycles.specs.Rows.{row, ok, amount}
use Rattle.machine.specs.Playing.{still}
use Rattle.machine.proofs.Times.{Quick}
use Rattle.trails.specs.declared.store.Store.{Store}
use Rattle.trails.specs.Stores.{Grown, nodes}
use Rattle.trails.proofs.Fronts.{grown_none, grown_on}
use Rattle.tables.specs.Best.{Both, Table, Room, told}
use Rattle.tables.specs.Showing.{Shows, width}
use Rattle.tables.specs.Tables.{run, need, turns, turns_need}
use Rattle.tables.proofs.Rooms.{room_less, room_run}
use Rattle.tables.proofs.Stills.{still_run}
use Rattle.engine.specs.declared.pass.Point.{Point}
use Rattle.engine.specs.Passing.{Fit, Task, Ready, Ran, Came, Goes}
use Rattle.engine.proofs.Chains.{point, came_plain}

-- the rounds from i on of a loop of n, as they run and as they need
abbrev rest_run : Cache → List ℕ → P → ℕ → ℕ → Table → Table
rest_run c rs b n i = turns (n - i) i (λ j. run told c b (j ∷ rs))

abbrev rest_need : Cache → List ℕ → P → ℕ → ℕ → Table → ℕ
rest_need c rs b n i = turns_need (n - i) i (λ j. run told c b (j ∷ rs)) (λ j. need told c b (j ∷ rs))

-- the pass over p and T that began at f, where p is n rounds of b, is before round i at g, with the table U
pub record Turned (c : Cache) (a : Both ℕ) (rs : List ℕ) (slots : ℕ) (b : P) (n i : ℕ) (p : P) (T : Table) (f g : Point) (st : Store) (ys : List ℕ) (st' : Store) : Type 0 where
  pub U : Table
  pub shows : Shows c a (nodes st') g.count ys U
  pub grown : Grown st st'
  pub runs : run told c p rs T ≡ rest_run c rs b n i U
  pub wide : rest_need c rs b n i U ≤ need told c p rs T
  pub enough : need told c p rs T ≤ max slots (rest_need c rs b n i U)
  pub room : Room (amount p) T → Room ((n - i) * amount b) U

pub turned_start : {c : Cache} {a : Both ℕ} {rs ws : List ℕ} {loops slots : ℕ} {f : Point} {xs : List ℕ} {st : Store} (b : P) (n : ℕ) (k : Task c a ws loops f xs st) → k.p ≡ times n b → Turned c a rs slots b n 0 k.p k.T f f st xs st
turned_start {c} {rs = rs} {st = st} b n k e =
    let z : n ≡ n - 0 = omega arith in
    let w : rest_need c rs b n 0 k.T ≡ need told c k.p rs k.T = sym (ap (λ q. need told c q rs k.T) e ∙ ap (λ m. turns_need m 0 (λ j. run told c b (j ∷ rs)) (λ j. need told c b (j ∷ rs)) k.T) z) in
    record {
      U = k.T;
      shows = k.shows;
      grown = grown_none st;
      runs = ap (λ q. run told c q rs k.T) e ∙ ap (λ m. turns m 0 (λ j. run told c b (j ∷ rs)) k.T) z;
      wide = omega (arith, w);
      enough = omega (arith, w);
      room = λ r. room_less ((n - 0) * amount b) (amount k.p) k.T (subst (λ m. m * amount b ≤ amount k.p) z (omega (arith, ap amount e))) r;
    }

module _ {c : Cache} {a : Both ℕ} {rs : List ℕ} {slots : ℕ} {b : P} {n i : ℕ} {p : P} {T : Table} {f g : Point} {st : Store} {ys : List ℕ} {st' : Store} (u : Turned c a rs slots b n i p T f g st ys st') where
  rounds_left : i < n → n - i ≡ suc (n - (i + 1))
  rounds_left h = omega arith

  room_round : i < n → Room (amount p) T → Room (amount b + (n - (i + 1)) * amount b) u.U
  room_round h r = room_less (amount b + (n - (i + 1)) * amount b) ((n - i) * amount b) u.U (let k = rounds_left h in rw k (omega (arith, suc-mul (n - (i + 1)) (amount b)))) (u.room r)

  -- the body is ready for this round
  pub ready_round : {ws : List ℕ} (loops l at : ℕ) (rest : List ℕ) → l ≡ loops + 1 → Fit ws (loops + 1) at b rest → i < n → Room (amount p + 0) T → g.count ≤ slots → width c * slots ≤ length ys → Ready c a ws l (point at g.count) slots 0 ys st'
  ready_round {ws} loops l at rest deeper h less r s lent =
      record { task = record { p = b; rest = rest; T = u.U; fit = subst (λ l. Fit ws l at b rest) (sym deeper) h; shows = u.shows }; room = room_less (amount b + 0) (amount b + (n - (i + 1)) * amount b) u.U (omega arith) (room_round less (room_less _ _ T (omega arith) r)); count = s; lent = lent }

  -- what the body comes to in this round
  pub came_round : {ws : List ℕ} (loops l at : ℕ) (rest js zs : List ℕ) (st'' : Store) (t : Point) (r : Option Point) → js ≡ i ∷ rs → l ≡ loops + 1 → t ≡ point at g.count → Fit ws (loops + 1) at b rest → Goes c a js ws l t slots ys zs st' st'' r → Came c a (i ∷ rs) b u.U (point at g.count) slots zs st' st'' r
  came_round loops l at rest js zs st'' t r around deeper here h m =
      rw (deeper, here, around) at m (record { p = b; rest = rest; T = u.U; fit = h; shows = u.shows })

  one_need : i < n → rest_need c rs b n i u.U ≡ max (need told c b (i ∷ rs) u.U) (rest_need c rs b n (i + 1) (run told c b (i ∷ rs) u.U))
  one_need h = rw (rounds_left h, add-one)

  pub turned_more : (loops : ℕ) (h : Point) (t : Point) (zs : List ℕ) (st'' : Store) → Quick c → i < n → ok (loops + 1) 0 b ≡ true → Ran c a (i ∷ rs) b u.U h t slots zs st' st'' → Turned c a rs slots b n (i + 1) p T f t st zs st''
  turned_more loops at t zs st'' quick h o m =
      let w = one_need h in
      record {
        U = run told c b (i ∷ rs) u.U;
        shows = m.shows;
        grown = grown_on st st' st'' u.grown m.grown;
        runs = u.runs ∙ rw (rounds_left h, add-one);
        wide = omega (arith, u.wide, w);
        enough = omega (arith, u.enough, w, m.enough);
        room = λ r. room_run c b (i ∷ rs) (loops + 1) ((n - (i + 1)) * amount b) u.U quick o (room_round h r);
      }

  pub turned_crowded : (st'' : Store) → i < n → (slots < need told c b (i ∷ rs) u.U) × Grown st' st'' → (slots < need told c p rs T) × Grown st st''
  turned_crowded st'' h m = (omega (arith, m.0, u.wide, one_need h), grown_on st st' st'' u.grown m.1)

  pub turned_all : (t : Point) (at : ℕ) → t ≡ point at g.count → n ≤ i → p ≡ times n b → at ≡ f.at + 2 + length (row b) → g.count ≤ slots → Ran c a rs p T f t slots ys st st'
  turned_all t at is h e l s =
      let k : n - i ≡ 0 = omega arith in
      let w : rest_need c rs b n i u.U ≡ 0 = rw k in
      let v : rest_run c rs b n i u.U ≡ u.U = rw k in
      subst (λ z. Ran c a rs p T f z slots ys st st') (sym is) (record {
        ends = omega (arith, l, ap (λ q. length (row q)) e);
        grown = u.grown;
        count = s;
        enough = omega (arith, u.enough, w);
        shows = subst (λ V. Shows c a (nodes st') g.count ys V) (sym (u.runs ∙ v)) u.shows;
      })

-- a body that does nothing need not be gone round
pub came_quiet : {c : Cache} {a : Both ℕ} {rs ws : List ℕ} {loops slots : ℕ} {f : Point} {xs : List ℕ} {st : Store} (b : P) (n : ℕ) (t : Point) (at : ℕ) (k : Task c a ws loops f xs st) → t ≡ point at f.count → k.p ≡ times n b → still b ≡ true → at ≡ f.at + 2 + length (row b) → f.count ≤ slots → Ran c a rs k.p k.T f t slots xs st st
came_quiet {c} {a} {rs} {f = f} {xs} {st} b n t at k i e q l h =
    let w = still_run told c (times n b) rs k.T q in
    came_plain (times n b) t at xs k i e w.1 (omega (arith, l)) h (subst (λ V. Shows c a (nodes st) f.count xs V) (sym w.0) k.shows)
