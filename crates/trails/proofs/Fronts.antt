-- What is told over a store is told over a longer one too.
use Rattle.std.proofs.Common.{◌≡◌, ℕ, ◌+◌, ◌-◌, ◌≤◌, Bool, List, ◌++◌, length, take, drop, sym, refl, ap, ◌∙◌, subst, arith}
use Rattle.std.proofs.lemmas.List.{drop-drop, length-take-le, take_at, take-take, take-append-drop}
use Rattle.trails.specs.declared.store.Store.{Store}
use Rattle.trails.specs.declared.telling.Telling.{Telling}
use Rattle.trails.specs.Stores.{Grown, nodes}
use Rattle.trails.specs.Trails.{Keeps, Lies, Sound, Stays, Tells, bits_of, full, held, record_of}
use Rattle.trails.proofs.Nodes.{chain_front, lies_front}

pub record_front : (s u : List ℕ) (t : Telling) → Lies s (full t.recorded) t.parent → record_of (s ++ u) t ≡ record_of s t
record_front s u t l = ap (λ bs. bs ++ bits_of (held t.recorded) t.head) (chain_front s u (full t.recorded) t.parent l)

pub sound_front : (a : ℕ) (s u : List ℕ) (t : Telling) → Sound a s t → Sound a (s ++ u) t
sound_front a s u t h = record { few = h.few; within = h.within; small = h.small; lies = lies_front s u (full t.recorded) t.parent h.lies; all = h.all }

pub tells_front : (a : ℕ) (s u : List ℕ) (t : Telling) (bs : List Bool) → Sound a s t → Tells a s t bs → Tells a (s ++ u) t bs
tells_front a s u t bs h w = record { count = w.count; front = record_front s u t h.lies ∙ w.front }

keeps_front : (s u : List ℕ) → Keeps s (s ++ u)
keeps_front s u a t bs h w = (sound_front a s u t h, tells_front a s u t bs h w)

-- a store that has grown
pub grown : (top top' : ℕ) (st st' : List ℕ) → top ≤ top' → take top st' ≡ take top st → take top' st' ≡ take top st ++ drop top (take top' st')
grown top top' st st' h e = sym (take-append-drop top (take top' st')) ∙ ap (λ r. r ++ drop top (take top' st')) (take-take top top' st' h ∙ e)

pub stays : Stays
stays a top top' st st' t bs h e s w = subst (Keeps (take top st)) (sym (grown top top' st st' h e)) (keeps_front (take top st) (drop top (take top' st'))) a t bs s w

-- a store that stays as it is, and one that has taken words more
pub grown_none : (s : Store) → Grown s s
grown_none s = record { same = refl; long = refl; above = omega arith; front = refl; rest = refl; keeps = λ a t bs h w. (h, w) }

pub grown_pushed : (s s' : Store) (u : List ℕ) → s'.words.ghost_name ≡ s.words.ghost_name → length s'.words.now ≡ length s.words.now → s.top ≤ s'.top → nodes s' ≡ nodes s ++ u → drop s'.top s'.words.now ≡ drop s'.top s.words.now → Grown s s'
grown_pushed s s' u same long above pushed rest =
    record {
      same = same;
      long = long;
      above = above;
      front = sym (take-take s.top s'.top s'.words.now above) ∙ ap (take s.top) pushed ∙ take_at (nodes s) u s.top (length-take-le s.top s.words.now s.within);
      rest = rest;
      keeps = subst (Keeps (nodes s)) (sym pushed) (keeps_front (nodes s) u);
    }

-- a store that grows twice

drop_from : (b d : ℕ) (t s : List ℕ) → b ≤ d → drop b t ≡ drop b s → drop d t ≡ drop d s
drop_from b d t s l e =
    let q : d ≡ b + (d - b) = omega arith in
    rw q (sym (drop-drop (d - b) b t) ∙ ap (drop (d - b)) e ∙ drop-drop (d - b) b s)

pub grown_on : (s t u : Store) → Grown s t → Grown t u → Grown s u
grown_on s t u g h =
    record {
      same = h.same ∙ g.same;
      long = h.long ∙ g.long;
      above = omega (arith, g.above, h.above);
      front = sym (take-take s.top t.top u.words.now g.above) ∙ ap (take s.top) h.front ∙ take-take s.top t.top t.words.now g.above ∙ g.front;
      rest = h.rest ∙ drop_from t.top u.top t.words.now s.words.now h.above g.rest;
      keeps = λ a x bs k w. let r = g.keeps a x bs k w in h.keeps a x bs r.0 r.1;
    }

-- over what lies below the top of a store, and so over all of it

pub sound_within : (a top : ℕ) (st : List ℕ) (t : Telling) → Sound a (take top st) t → Sound a st t
sound_within a top st t h = subst (λ r. Sound a r t) (take-append-drop top st) (sound_front a (take top st) (drop top st) t h)

pub tells_within : (a top : ℕ) (st : List ℕ) (t : Telling) (bs : List Bool) → Sound a (take top st) t → Tells a (take top st) t bs → Tells a st t bs
tells_within a top st t bs h w = subst (λ r. Tells a r t bs) (take-append-drop top st) (tells_front a (take top st) (drop top st) t bs h w)
