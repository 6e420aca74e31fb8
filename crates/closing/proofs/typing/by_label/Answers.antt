-- A space more, and its mask at its label.
use Rattle.std.proofs.Common.{refl, add-one}
use Rattle.closing.specs.Typing.{label_masks}
use Rattle.closing.proofs.typing.by_label.Goals as goal

pub loop-k-init : goal.loop-k-init
unfolding label_masks
loop-k-init c = refl

pub loop-k-preserved : goal.loop-k-preserved
unfolding label_masks
loop-k-preserved c =
    let spaces = c.args.spaces in
    let k = c.loop-k.k in
    rw (c.from.ensures, c.loop-k.invariant, add-one) refl
