-- Each atom leaves some of the candidates, or all.
use Rattle.std.proofs.Common.{◌≡◌, ◌<◌, ◌∙◌, arith}
use Rattle.card.specs.Represents.{blank_atom}
use Rattle.open_actions.proofs.Choosing.{list_atom, all_atoms, front_atom, all_left, left_at, same_left, fewer_left}
use Rattle.open_actions.proofs.query.Query.candidates_for.Goals as goal
use Rattle.open_actions.proofs.query.Query.candidates_for.Goals.{then-left-mask, else-left-mask}

pub loop-a-init : goal.loop-a-init
loop-a-init c = all_left c.all_below-mask.ensures

pub atom_support-one-requires : goal.atom_support-one-requires
unfolding blank_atom
atom_support-one-requires c =
    let inside : c.loop-a.a-index < c.args.list.count = omega (arith, c.loop-a-test.true, all_atoms c.requires) in
    rw (front_atom c.requires inside) (list_atom _ c.requires inside)

pub loop-a-preserved : goal.loop-a-preserved
unfolding blank_atom
loop-a-preserved c =
    let inside : c.loop-a.a-index < c.args.list.count = omega (arith, c.loop-a-test.true, all_atoms c.requires) in
    elim c.if-left-mask.branch [
      | then-left-mask w ↦
          fewer_left c.loop-a.invariant (rw (front_atom c.requires inside) at c.atom_support-one.ensures)
          (w.mask-is ∙ c.common-left.ensures) (w.culprits-is ∙ w.union-culprits.ensures)
      | else-left-mask w ↦ rw (w.mask-is, w.culprits-is) (same_left c.loop-a.invariant)
    ]

pub returns : goal.returns
returns c = left_at c.loop-a.invariant (omega (arith, c.loop-a.auto.a-index-end, all_atoms c.requires))
