-- The last line of a play.
use Rattle.std.proofs.Common.{◌≡◌, ℕ, Bool, List, [], Ok, Err, Result, subst}
use Rattle.machine.specs.declared.player.Played.{Played}
use Rattle.machine.specs.declared.player.PlayError.{PlayError}
use Rattle.machine.specs.declared.tally.Tally.{Tally}
use Rattle.machine.specs.Playing.{PlayPost, PlaySays}
use Rattle.machine.specs.Counts.{Counted}
use Rattle.console.specs.Totals.{Totals}

module _ (ws us : List ℕ) (bs : List Bool) (t u : Tally) (same : us ≡ ws) where
  said : (r : Result Played PlayError) → PlayPost us bs 512 (Counted t) (Counted u) r → PlaySays ws bs 512 (Counted t) (Counted u) r
  said r post = subst (λ xs. PlaySays xs bs 512 (Counted t) (Counted u) r) same post.says

  -- a tally that had counted nothing has counted the trace
  pub played : (d : Played) → Counted t [] → PlayPost us bs 512 (Counted t) (Counted u) (Ok d) → Totals ws bs (Ok (record { played = d; tally = u }))
  played d none post =
      let (c, p, reads, plays, used, tells, sum) = said (Ok d) post in
      (c, p, reads, plays, used, tells.now_told [] none)

  pub unplayed : (e : PlayError) → PlayPost us bs 512 (Counted t) (Counted u) (Err e) → Totals ws bs (Err e)
  unplayed e post = (t, u, said (Err e) post)
