use Rattle.std.proofs.Common.{arith}
use Rattle.sections.proofs.LinesLeft.{nested_start, nested_next, nested_end}
use Rattle.text.proofs.Writing.{remains_as, start, next_fits, next, finish}
use Rattle.sections.proofs.nestings.write_nestings.Goals as goal

pub loop-i-init : goal.loop-i-init
loop-i-init c = remains_as (nested_start _ _) (start c.requires.2)

pub write_nestings_of-n-requires : goal.write_nestings_of-n-requires
write_nestings_of-n-requires c =
    let h = c.requires in
    let inside = c.loop-i-test.true in
    (h.0, omega (arith, inside, h.1), next_fits c.loop-i.invariant (nested_next _ _ c.loop-i.i inside))

pub loop-i-preserved : goal.loop-i-preserved
loop-i-preserved c = next c.loop-i.invariant (nested_next _ _ c.loop-i.i c.loop-i-test.true) c.write_nestings_of-n.ensures

pub returns : goal.returns
returns c = finish c.loop-i.invariant (nested_end _ _ _ c.loop-i-test.false)
