-- Of the atoms passed, those that do not hold are counted.
use Rattle.std.proofs.Common.{◌<◌, length-take-le, arith}
use lib.Seq.{get_or-take}
use Rattle.card.specs.Represents.{blank_atom}
use Rattle.actions.specs.Grounds.{holds_in, missing_in}
use Rattle.actions.proofs.GroundRows.{atom_known}
use Rattle.actions.proofs.Holding.{front_says, atom_counts, atom_passed_over, all_counted}
use Rattle.actions.proofs.missing_facts.Goals as goal
use Rattle.actions.proofs.missing_facts.Goals.{then-not-holds, else-not-holds}

pub holds-requires : goal.holds-requires
unfolding blank_atom
holds-requires c =
    let l = c.args.list in
    let few = c.requires.0.few in
    let more : c.loop-a.a-index < l.count = omega arith in
    rw (get_or-take l.count l.atoms c.loop-a.a-index blank_atom more)
    (c.requires.0.right, atom_known _ _ l c.requires.0 c.loop-a.a-index more, c.requires.1)

pub loop-a-preserved : goal.loop-a-preserved
unfolding blank_atom
loop-a-preserved c =
    let more : c.loop-a.a-index < c.args.list.count = let few = c.requires.0.few in omega arith in
    let says = front_says (holds_in c.args.count c.args.state.now c.args.objects.now) c.args.arities.now c.args.list more c.holds.ensures in
    elim c.if-not-holds.branch [
      | then-not-holds w ↦ rw w.missing-is (atom_counts c.loop-a.invariant more says w.if-not-holds.true)
      | else-not-holds w ↦ rw w.missing-is (atom_passed_over c.loop-a.invariant more says w.if-not-holds.false)
    ]

pub returns : goal.returns
unfolding missing_in
returns c =
    let l = c.args.list in
    all_counted c.loop-a.invariant (omega (arith, length-take-le l.count l.atoms (omega (arith, c.requires.0.few, c.requires.0.size))))
