use Rattle.std.proofs.Common.{◌≡◌, ◌+◌, ◌∷◌, length, true, take, set, sym, refl, ap, subst, ◌∙◌, add-one, arith}
use Rattle.std.proofs.lemmas.List.{take-take}
use Rattle.machine.specs.Around.{below}
use Rattle.machine.proofs.Addresses.{below_front}
use Rattle.machine.proofs.WayLaws.{rotated}
use Rattle.machine.proofs.rounds.Rounds.inside.Goals as goal

pub invariant_of-result : goal.invariant_of-result
invariant_of-result c =
    let e : set c.rotate_right.new.self 0 c.args.round ≡ take (length c.args.self.at) (c.args.round ∷ c.args.self.at) = ap (λ t. set t 0 c.args.round) c.rotate_right.ensures.after ∙ rotated c.args.self.at c.args.round (omega arith) in
    record { deep = omega arith; low = subst (λ xs. below 4096 xs ≡ true) (sym e) (below_front 4096 _ c.args.round c.args.self.at c.requires.few c.args.self.low) }

pub returns : goal.returns
returns c =
    let e : set c.rotate_right.new.self 0 c.args.round ≡ take (length c.args.self.at) (c.args.round ∷ c.args.self.at) = ap (λ t. set t 0 c.args.round) c.rotate_right.ensures.after ∙ rotated c.args.self.at c.args.round (omega arith) in
    record { around = rw e (take-take (c.args.self.depth + 1) (length c.args.self.at) (c.args.round ∷ c.args.self.at) (omega arith) ∙ ap (λ n. take n (c.args.round ∷ c.args.self.at)) (add-one c.args.self.depth)); deeper = refl }
