-- The masks of the spaces passed stand at their labels.
use Rattle.std.proofs.Common.{◌≡◌}
use Rattle.closing.specs.Typing.{label_masks}
use Rattle.closing.proofs.typing.by_label.Given as goal

abbrev pub invariant-loop-k : goal.invariant-loop-k
invariant-loop-k l = l.masks ≡ label_masks l.spaces.lowest l.spaces.members l.k
