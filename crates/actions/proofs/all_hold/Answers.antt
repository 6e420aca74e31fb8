-- An atom that does not hold decides; otherwise the atoms after it do.
use Rattle.std.proofs.Common.{◌<◌, length-take-le, arith}
use lib.Seq.{get_or-take}
use Rattle.card.specs.Represents.{blank_atom}
use Rattle.actions.specs.Grounds.{holds_in}
use Rattle.actions.proofs.GroundRows.{atom_known}
use Rattle.actions.proofs.Holding.{front_says, atom_fails, atom_passes, all_passed}
use Rattle.actions.proofs.all_hold.Goals as goal

pub holds-requires : goal.holds-requires
unfolding blank_atom
holds-requires c =
    let l = c.args.list in
    let few = c.requires.0.few in
    let more : c.loop-atom.atom-index < l.count = omega arith in
    rw (get_or-take l.count l.atoms c.loop-atom.atom-index blank_atom more)
    (c.requires.0.right, atom_known _ _ l c.requires.0 c.loop-atom.atom-index more, c.requires.1)

pub returns-then-not-holds : goal.returns-then-not-holds
unfolding blank_atom
returns-then-not-holds c =
    let more : c.loop-atom.atom-index < c.args.list.count = let few = c.requires.0.few in omega arith in
    let says = front_says (holds_in c.args.count c.args.state.now c.args.objects.now) c.args.arities.now c.args.list more c.holds.ensures in
    atom_fails c.loop-atom.invariant more says c.if-not-holds.true

pub loop-atom-preserved : goal.loop-atom-preserved
unfolding blank_atom
loop-atom-preserved c =
    let more : c.loop-atom.atom-index < c.args.list.count = let few = c.requires.0.few in omega arith in
    let says = front_says (holds_in c.args.count c.args.state.now c.args.objects.now) c.args.arities.now c.args.list more c.holds.ensures in
    atom_passes c.loop-atom.invariant more says c.if-not-holds.false

pub returns : goal.returns
returns c =
    let l = c.args.list in
    all_passed c.loop-atom.invariant (omega (arith, length-take-le l.count l.atoms (omega (arith, c.requires.0.few, c.requires.0.size))))
