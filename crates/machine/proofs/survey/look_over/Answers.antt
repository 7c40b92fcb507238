use Rattle.std.proofs.Common.{◌≡◌, ℕ, Bool, List, drop, sym, subst, arith, length-drop}
use Rattle.cycles.specs.Code.{P}
use Rattle.cycles.proofs.Fits.{fits}
use Rattle.machine.proofs.Surveys.{Pending, begun, gone_on, some_node, few_pending, parts_few}
use Rattle.machine.proofs.survey.look_over.Goals as goal

-- the same by equal numbers
pending_as : (ws : List ℕ) (start : ℕ) (p : P) (rest : List ℕ) (at : ℕ) (q : Bool) (n at' : ℕ) (q' : Bool) (n' : ℕ) → at' ≡ at → q' ≡ q → n' ≡ n → Pending ws start at q n p rest → Pending ws start at' q' n' p rest
pending_as ws start p rest at q n at' q' n' a b c g =
    subst (λ x. Pending ws start x q' n' p rest) (sym a) (subst (λ x. Pending ws start at x n' p rest) (sym b) (subst (λ x. Pending ws start at q x p rest) (sym c) g))

pub loop-pending-init : goal.loop-pending-init
loop-pending-init c = (c.requires.within, λ p rest e. begun c.args.words.now c.args.start p rest e)

pub loop-pending-preserved : goal.loop-pending-preserved
loop-pending-preserved c =
    let b = c.node_at-node.ensures in
    let f = fits (drop c.loop-pending.at c.args.words.now) c.node_at-node.result b in
    (omega (arith, f.0, c.size-at.ensures, c.loop-pending.invariant.0, length-drop c.loop-pending.at c.args.words.now), λ p rest e. pending_as c.args.words.now c.args.start p rest _ _ _ _ _ _ (omega (arith, c.size-at.ensures)) (cc) (omega (arith, c.parts.ensures)) (gone_on c.args.words.now c.args.start c.loop-pending.at c.loop-pending.quiet c.loop-pending.pending p rest c.node_at-node.result b (omega arith) (c.loop-pending.invariant.1 p rest e)))

pub overflow_add-pending : goal.overflow_add-pending
overflow_add-pending c =
    let f = few_pending _ _ _ _ _ _ _ (c.loop-pending.invariant.1 c.requires.p c.requires.rest c.requires.is) in
    omega (arith, f, parts_few c.node_at-node.result, c.parts.ensures)

pub node_at-node-requires : goal.node_at-node-requires
node_at-node-requires c =
    let x = some_node _ _ _ _ _ _ _ c.loop-pending-test.true (c.loop-pending.invariant.1 c.requires.p c.requires.rest c.requires.is) in
    record { p = x.0; rest = x.1; is = x.2; within = c.loop-pending.invariant.0 }
