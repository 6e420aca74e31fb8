-- A condition that is minimal is picked, another is not.
use Rattle.std.proofs.Common.{arith}
use mathlib.Core.Path.{sym, ◌∙◌}
use Rattle.conditions.proofs.Containing.{minimal_found}
use Rattle.conditions.proofs.Entering.{entered_none}
use Rattle.conditions.proofs.Filling.{picked_start, picked_next, picked_skipped, place_inside}
use Rattle.conditions.proofs.minimal.minimal_of.Goals as goal
use Rattle.conditions.proofs.minimal.minimal_of.Goals.{then-is_minimal, else-is_minimal}

pub compare_all-requires-clause-all_entered : goal.compare_all-requires-clause-all_entered
compare_all-requires-clause-all_entered c = record { containing = entered_none; contained = entered_none }

pub loop-i-init : goal.loop-i-init
loop-i-init c = picked_start 64

pub bounds-indices-n : goal.bounds-indices-n
bounds-indices-n c = place_inside c.requires.1 c.loop-i-test.true c.loop-i.invariant

pub overflow_add-n : goal.overflow_add-n
overflow_add-n c = omega (arith, place_inside c.requires.1 c.loop-i-test.true c.loop-i.invariant)

pub loop-i-preserved : goal.loop-i-preserved
loop-i-preserved c =
    elim c.if-is_minimal.branch [
      | then-is_minimal w ↦
          rw (w.indices-is, w.n-is)
          (picked_next c.requires.1 c.loop-i-test.true c.loop-i.invariant (sym c.is_minimal.ensures ∙ w.if-is_minimal.true))
      | else-is_minimal w ↦
          rw (w.indices-is, w.n-is)
          (picked_skipped c.requires.1 c.loop-i-test.true c.loop-i.invariant (sym c.is_minimal.ensures ∙ w.if-is_minimal.false))
    ]

pub returns : goal.returns
returns c =
    let found =
    minimal_found _ _ _ c.requires.1 c.compare_all.ensures c.loop-i.invariant c.loop-i-test.false in
    record { count = found.0; indices = found.1; containing = found.2 }
