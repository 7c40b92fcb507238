-- The slots behind some that are kept, as a part of the words that is lent on.
use Rattle.std.proofs.Common.{◌≡◌, ℕ, ◌+◌, ◌-◌, ◌*◌, ◌≤◌, Bool, List, ◌++◌, map, length, take, drop, Some, None, Option, ap, ◌∙◌, append-nil, mul-add, arith, length-drop}
use borrow.Rule.Slice.PartMut.{put_mid}
use Rattle.std.proofs.lemmas.List.{take_rest, take_at, drop_at, drop_all, length-take-le}
use Rattle.cycles.specs.Code.{Cache}
use Rattle.cycles.specs.Rows.{amount}
use Rattle.trails.specs.declared.store.Store.{Store}
use Rattle.trails.specs.Stores.{Grown, nodes}
use Rattle.trails.proofs.Fronts.{grown_on}
use Rattle.tables.specs.Best.{Both, Table, told}
use Rattle.tables.specs.Showing.{Shows}
use Rattle.tables.specs.Tables.{chose}
use Rattle.tables.proofs.Chunks.{up_to}
use Rattle.tables.proofs.Rooms.{room_less, room_chose}
use Rattle.engine.specs.declared.pass.Point.{Point}
use Rattle.engine.specs.Passing.{Task, Ready, Came, Goes}

-- by a width w that the code computes, with k of n slots kept
module _ {w s n : ℕ} (k : ℕ) (xs : List ℕ) (wide : w ≡ s) (fits : s * n ≤ length xs) (less : k ≤ n) where
  pub behind_is : take (length xs - w * k) (drop (w * k) xs) ≡ drop (s * k) xs
  behind_is = take_rest xs (w * k) ∙ ap (λ v. drop (v * k) xs) wide

  pub behind_room : s * (n - k) ≤ length (drop (s * k) xs)
  behind_room =
      let e : s * n ≡ s * k + s * (n - k) = ap (λ v. s * v) (let q : n ≡ k + (n - k) = omega arith in q) ∙ mul-add s k (n - k) in
      omega (arith, length-drop (s * k) xs)

  module _ (ys : List ℕ) (long : length ys ≡ length (drop (s * k) xs)) where
    pub behind_back : drop (s * k) (put_mid (w * k) (length xs - w * k) xs ys) ≡ ys
    behind_back =
        let l = length-drop (s * k) xs in
        let u = up_to s k n less in
        rw wide (drop_at (take (s * k) xs) _ (s * k) (length-take-le (s * k) xs (omega arith)) ∙ ap (λ z. ys ++ z) (drop_all (length xs - s * k) (drop (s * k) xs) (omega arith)) ∙ append-nil ys)

    pub behind_front : take (s * k) (put_mid (w * k) (length xs - w * k) xs ys) ≡ take (s * k) xs
    behind_front = let u = up_to s k n less in rw wide (take_at (take (s * k) xs) _ (s * k) (length-take-le (s * k) xs (omega arith)))

-- a branch after its choice is noted
module _ {c : Cache} {a : Both ℕ} {f : Point} {st st' : Store} (b : Bool) (xs ys : List ℕ) (noted : (T : Table) → Shows c a (nodes st) f.count xs T → Shows c a (nodes st') f.count ys (map (chose told b) T)) where
  pub ready_noted : {ws : List ℕ} {loops slots : ℕ} → length ys ≡ length xs → Ready c a ws loops f slots 1 xs st → Ready c a ws loops f slots 0 ys st'
  ready_noted l r =
      let k = r.task in
      record {
        task = record { p = k.p; rest = k.rest; T = map (chose told b) k.T; fit = k.fit; shows = noted k.T k.shows };
        room = room_chose (amount k.p + 0) b k.T (room_less _ _ k.T (omega arith) r.room);
        count = r.count;
        lent = omega (arith, r.lent);
      }

  pub came_noted : {ws : List ℕ} {loops : ℕ} (rs : List ℕ) (slots : ℕ) (zs : List ℕ) (st'' : Store) (r : Option Point) (k : Task c a ws loops f xs st) → Grown st st' → Goes c a rs ws loops f slots ys zs st' st'' r → Came c a rs k.p (map (chose told b) k.T) f slots zs st st'' r
  came_noted rs slots zs st'' None k grown m =
      let x = m (record { p = k.p; rest = k.rest; T = map (chose told b) k.T; fit = k.fit; shows = noted k.T k.shows }) in
      (x.0, grown_on st st' st'' grown x.1)
  came_noted rs slots zs st'' (Some t) k grown m =
      let x = m (record { p = k.p; rest = k.rest; T = map (chose told b) k.T; fit = k.fit; shows = noted k.T k.shows }) in
      record { ends = x.ends; grown = grown_on st st' st'' grown x.grown; count = x.count; enough = x.enough; shows = x.shows }
