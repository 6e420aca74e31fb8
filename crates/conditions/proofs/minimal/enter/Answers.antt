-- One number goes into one mask of each table.
use Rattle.std.proofs.Common.{get_or, set}
use mathlib.Core.Path.{ap, ◌∙◌}
use Rattle.masks.specs.Sets.{union_of}
use Rattle.conditions.specs.Minimal.{entered_at}
use Rattle.conditions.proofs.minimal.enter.Goals as goal

pub returns : goal.returns
unfolding entered_at
returns c =
    let own = c.args in (
      ap (set own.containing.now own.i)
          (c.union.ensures ∙ ap (union_of (get_or own.containing.now own.i 0)) c.single.ensures),
      ap (set own.contained.now own.k) (c.union-2.ensures ∙ ap (union_of (get_or own.contained.now own.k 0)) c.single-2.ensures),
    )
