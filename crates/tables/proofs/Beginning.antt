-- A slot of zeros: the empty cache, and tellings of no cycles and no choice.
use Rattle.std.proofs.Common.{◌≡◌, ℕ, zero, suc, ◌+◌, ◌-◌, List, [], length, get_or, drop, replicate, refl, ap, ◌∙◌}
use Rattle.std.proofs.lemmas.List.{drop-replicate}
use Rattle.cycles.specs.Code.{Cache, empty}
use Rattle.machine.specs.Cells.{state_of, TidyCells}
use Rattle.trails.specs.Trails.{telling_of, none}
use Rattle.trails.proofs.Noting.{none_sound, none_tells}
use Rattle.tables.specs.Best.{Both, start}
use Rattle.tables.specs.Showing.{Matches, Shown, cells}
use Rattle.tables.proofs.Matching.{matches_as}

zero_at : (n i : ℕ) → ◌≡◌ {A = ℕ} (get_or (replicate n 0) i 0) 0
zero_at zero i = refl
zero_at (suc n) zero = refl
zero_at (suc n) (suc i) = zero_at n i

none_at : (n w : ℕ) → telling_of (drop w (replicate n 0)) ≡ none
none_at n w = ap telling_of (drop-replicate {X = ℕ} w n 0) ∙ rw (zero_at (n - w) 0, zero_at (n - w) 1, zero_at (n - w) 2, zero_at (n - w) 3, zero_at (n - w) 4, zero_at (n - w) 5, zero_at (n - w) 6)

none_matches : (a : ℕ) (s : List ℕ) → Matches a s none (record { time = 0; choices = [] })
none_matches a s = record { time = refl; sound = none_sound a s; tells = none_tells a s }

pub begun : (c : Cache) (a : Both ℕ) (s ws : List ℕ) → ws ≡ replicate (length ws) 0 → state_of c ws ≡ empty c → TidyCells c ws → Shown c a s ws (start c)
begun c a s ws z e t =
    record {
      tidy = t;
      state = e;
      long = matches_as a.long s none _ _ (ap (λ u. telling_of (drop (cells c) u)) z ∙ none_at (length ws) (cells c)) (none_matches a.long s);
      short = matches_as a.short s none _ _ (ap (λ u. telling_of (drop (cells c + 7) u)) z ∙ none_at (length ws) (cells c + 7)) (none_matches a.short s);
    }
