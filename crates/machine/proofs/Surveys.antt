-- A program gone over by counting the programs that are still to come.
use Rattle.std.proofs.Common.{◌≡◌, ℕ, ◌+◌, ◌-◌, ◌<◌, ◌≤◌, Bool, true, false, ◌&&◌, List, [], ◌∷◌, ◌++◌, length, drop, Ok, sym, refl, ap, ◌∙◌, append_assoc, append-nil, arith, length-append, length-drop}
use Rattle.std.proofs.lemmas.List.{drop-drop}
use Rattle.cycles.specs.declared.node.Node.{Node}
use Rattle.cycles.specs.declared.node.Node.TheVariants.{Work, Touch, Seq, Either, Loop, Skip}
use Rattle.cycles.specs.Code.{P, work, touch, seq, either, times, skip}
use Rattle.cycles.specs.Rows.{row}
use Rattle.cycles.specs.Reading.{Begins, size_of, parts_of, quiet_of}
use Rattle.cycles.proofs.Unique.{of, same_parts}
use Rattle.machine.specs.Playing.{still}

abbrev pub rows : List P → List ℕ
rows [] = []
rows (p ∷ ps) = row p ++ rows ps

abbrev pub stills : List P → Bool
stills [] = true
stills (p ∷ ps) = still p && stills ps

-- the programs still to come behind a place, of a program that began before it
pub record Pending (ws : List ℕ) (start at : ℕ) (quiet : Bool) (n : ℕ) (p : P) (rest : List ℕ) : Type 0 where
  pub ps : List P
  pub many : length ps ≡ n
  pub is : drop at ws ≡ rows ps ++ rest
  pub far : at + length (rows ps) ≡ start + length (row p)
  pub calm : (quiet && stills ps) ≡ still p

pub begun : (ws : List ℕ) (start : ℕ) (p : P) (rest : List ℕ) → drop start ws ≡ row p ++ rest → Pending ws start start true 1 p rest
begun ws start p rest e =
    record { ps = p ∷ []; many = refl; is = e ∙ ap (λ t. t ++ rest) (sym (append-nil (row p))); far = ap (λ t. start + length t) (append-nil (row p)); calm = and_true (still p) }
  where
    and_true : (b : Bool) → (b && true) ≡ b
    and_true true = refl
    and_true false = refl

-- what a node that begins a program's words holds, and what stands behind it
record Opened (ws : List ℕ) (at : ℕ) (node : Node) (x : P) (tail : List ℕ) : Type 0 where
  ys : List P
  many : length ys ≡ parts_of node
  is : drop (at + size_of node) ws ≡ rows ys ++ tail
  long : length (row x) ≡ size_of node + length (rows ys)
  calm : (quiet_of node && stills ys) ≡ still x

opened : (ws : List ℕ) (at : ℕ) (node : Node) (x : P) (tail : List ℕ) → Begins (drop at ws) (Ok node) → drop at ws ≡ row x ++ tail → Opened ws at node x tail
opened ws at (Work k) x tail b e =
    let q = of 0 (k ∷ drop 2 (drop at ws)) x tail (sym b ∙ e) in
    let w : k ∷ drop 2 (drop at ws) ≡ q.0 ∷ tail = q.2 in
    record { ys = []; many = refl; is = sym (drop-drop 2 at ws) ∙ cc; long = ap (λ p. length (row p)) q.1; calm = sym (ap still q.1) }
opened ws at (Touch k ks) x tail b e =
    let q = of 1 (k ∷ length ks.now ∷ (ks.now ++ drop (3 + length ks.now) (drop at ws))) x tail (sym b ∙ e) in
    let w : k ∷ length ks.now ∷ (ks.now ++ drop (3 + length ks.now) (drop at ws)) ≡ q.0 ∷ length q.1 ∷ (q.1 ++ tail) = q.3 in
    let l : length ks.now ≡ length q.1 = cc in
    let same = same_parts ks.now q.1 (drop (3 + length ks.now) (drop at ws)) tail l (cc) in
    record { ys = []; many = refl; is = sym (drop-drop (3 + length ks.now) at ws) ∙ same.1; long = ap (λ p. length (row p)) q.2 ∙ omega arith; calm = sym (ap still q.2) }
opened ws at Seq x tail b e =
    let q = of 2 (drop 1 (drop at ws)) x tail (sym b ∙ e) in
    record { ys = q.0 ∷ q.1 ∷ []; many = refl; is = sym (drop-drop 1 at ws) ∙ q.3 ∙ simp (append_assoc, append-nil); long = ap (λ p. length (row p)) q.2 ∙ simp (append-nil, length-append) (omega arith); calm = sym (ap still q.2 ∙ both (still q.0) (still q.1)) }
  where
    both : (a b : Bool) → (a && b) ≡ (a && (b && true))
    both true true = refl
    both true false = refl
    both false b = refl
opened ws at Either x tail b e =
    let q = of 3 (drop 1 (drop at ws)) x tail (sym b ∙ e) in
    record { ys = q.0 ∷ q.1 ∷ []; many = refl; is = sym (drop-drop 1 at ws) ∙ q.3 ∙ simp (append_assoc, append-nil); long = ap (λ p. length (row p)) q.2 ∙ simp (append-nil, length-append) (omega arith); calm = sym (ap still q.2) }
opened ws at (Loop k) x tail b e =
    let q = of 4 (k ∷ drop 2 (drop at ws)) x tail (sym b ∙ e) in
    let w : k ∷ drop 2 (drop at ws) ≡ q.0 ∷ (row q.1 ++ tail) = q.3 in
    record { ys = q.1 ∷ []; many = refl; is = sym (drop-drop 2 at ws) ∙ cc (append-nil (row q.1)); long = ap (λ p. length (row p)) q.2 ∙ simp append-nil (omega arith); calm = sym (ap still q.2 ∙ and_true (still q.1)) }
  where
    and_true : (b : Bool) → b ≡ (b && true)
    and_true true = refl
    and_true false = refl
opened ws at Skip x tail b e =
    let q = of 5 (drop 1 (drop at ws)) x tail (sym b ∙ e) in
    record { ys = []; many = refl; is = sym (drop-drop 1 at ws) ∙ q.1; long = ap (λ p. length (row p)) q.0; calm = sym (ap still q.0) }

rows_append : (ps qs : List P) → rows (ps ++ qs) ≡ rows ps ++ rows qs
rows_append [] qs = refl
rows_append (p ∷ ps) qs = ap (λ t. row p ++ t) (rows_append ps qs) ∙ sym (append_assoc (row p) (rows ps) (rows qs))

and_assoc : (a b c : Bool) → ((a && b) && c) ≡ (a && (b && c))
and_assoc true b c = refl
and_assoc false b c = refl

stills_append : (ps qs : List P) → stills (ps ++ qs) ≡ (stills ps && stills qs)
stills_append [] qs = refl
stills_append (p ∷ ps) qs = ap (λ b. still p && b) (stills_append ps qs) ∙ sym (and_assoc (still p) (stills ps) (stills qs))

-- one node further
pub gone_on : (ws : List ℕ) (start at : ℕ) (q : Bool) (n : ℕ) (p : P) (rest : List ℕ) (node : Node) → Begins (drop at ws) (Ok node) → 0 < n → Pending ws start at q n p rest → Pending ws start (at + size_of node) (q && quiet_of node) (n - 1 + parts_of node) p rest
gone_on ws start at q n p rest node b h g = go g.ps g.many g.is g.far g.calm
  where
    go : (ps : List P) → length ps ≡ n → drop at ws ≡ rows ps ++ rest → at + length (rows ps) ≡ start + length (row p) → (q && stills ps) ≡ still p → Pending ws start (at + size_of node) (q && quiet_of node) (n - 1 + parts_of node) p rest
    go [] m i f c = absurd (omega arith)
    go (x ∷ xs) m i f c =
        let o = opened ws at node x (rows xs ++ rest) b (i ∙ append_assoc (row x) (rows xs) rest) in
        record {
          ps = o.ys ++ xs;
          many = omega (arith, length-append o.ys xs, o.many);
          is = o.is ∙ sym (ap (λ t. t ++ rest) (rows_append o.ys xs) ∙ append_assoc (rows o.ys) (rows xs) rest);
          far = omega (arith, ap length (rows_append o.ys xs), length-append (rows o.ys) (rows xs), length-append (row x) (rows xs), o.long);
          calm = ap (λ t. (q && quiet_of node) && t) (stills_append o.ys xs) ∙ and_assoc q (quiet_of node) (stills o.ys && stills xs) ∙ ap (λ t. q && t) (sym (and_assoc (quiet_of node) (stills o.ys) (stills xs)) ∙ ap (λ t. t && stills xs) o.calm) ∙ c;
        }

-- a node stands wherever a program is still to come
pub some_node : (ws : List ℕ) (start at : ℕ) (q : Bool) (n : ℕ) (p : P) (rest : List ℕ) → 0 < n → Pending ws start at q n p rest → (x : P) × (r : List ℕ) × (drop at ws ≡ row x ++ r)
some_node ws start at q n p rest h g = go g.ps g.many g.is
  where
    go : (ps : List P) → length ps ≡ n → drop at ws ≡ rows ps ++ rest → (x : P) × (r : List ℕ) × (drop at ws ≡ row x ++ r)
    go [] m i = absurd (omega arith)
    go (x ∷ xs) m i = (x, rows xs ++ rest, i ∙ append_assoc (row x) (rows xs) rest)

row_some : (p : P) → 1 ≤ length (row p)
row_some (work n) = omega arith
row_some (touch b ks) = omega arith
row_some (seq p q) = omega arith
row_some (either p q) = omega arith
row_some (times n p) = omega arith
row_some skip = omega arith

rows_many : (ps : List P) → length ps ≤ length (rows ps)
rows_many [] = omega arith
rows_many (p ∷ ps) = omega (arith, row_some p, rows_many ps, length-append (row p) (rows ps))

-- no more programs are to come than words
pub few_pending : (ws : List ℕ) (start at : ℕ) (q : Bool) (n : ℕ) (p : P) (rest : List ℕ) → Pending ws start at q n p rest → n ≤ length ws
few_pending ws start at q n p rest g = omega (arith, g.many, rows_many g.ps, ap length g.is, length-append (rows g.ps) rest, length-drop at ws)

pub parts_few : (node : Node) → parts_of node ≤ 2
parts_few (Work n) = omega arith
parts_few (Touch b ks) = omega arith
parts_few Seq = omega arith
parts_few Either = omega arith
parts_few (Loop n) = omega arith
parts_few Skip = omega arith
