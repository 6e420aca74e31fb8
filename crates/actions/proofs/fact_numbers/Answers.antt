-- A fact more is put behind the others, and at the end all are there.
use Rattle.std.proofs.Common.{arith, refl}
use Rattle.card.specs.Represents.{blank_atom}
use Rattle.actions.proofs.GroundRows.{fact_predicate, facts_step, facts_end}
use Rattle.actions.proofs.fact_numbers.Goals as goal

pub loop-i-init : goal.loop-i-init
loop-i-init c = refl

pub fact_number-requires : goal.fact_number-requires
unfolding blank_atom
fact_number-requires c = (c.requires.right, fact_predicate _ _ _ c.requires c.loop-i.i c.loop-i-test.true)

pub loop-i-preserved : goal.loop-i-preserved
unfolding blank_atom
loop-i-preserved c = facts_step _ _ _ c.requires c.loop-i.i _ _ c.loop-i-test.true c.loop-i.invariant c.fact_number.ensures

pub returns : goal.returns
returns c = facts_end _ c.args.facts _ c.requires c.loop-i.i _ (omega arith) c.loop-i.invariant
