use Rattle.sections.proofs.LinesLeft.{states_start, states_next, states_end}
use Rattle.text.proofs.Writing.{remains_as, start, next_fits, next, finish}
use Rattle.sections.proofs.states.write_states.Goals as goal

pub loop-i-init : goal.loop-i-init
loop-i-init c = remains_as (states_start _ _ _) (start c.requires.1)

pub write_state-n-requires : goal.write_state-n-requires
write_state-n-requires c = next_fits c.loop-i.invariant (states_next _ _ _ c.loop-i.i c.loop-i-test.true)

pub loop-i-preserved : goal.loop-i-preserved
loop-i-preserved c = next c.loop-i.invariant (states_next _ _ _ c.loop-i.i c.loop-i-test.true) c.write_state-n.ensures

pub returns : goal.returns
returns c = finish c.loop-i.invariant (states_end _ _ _ _ c.loop-i-test.false)
