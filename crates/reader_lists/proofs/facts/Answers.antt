-- The facts are read in ascending order.
use Rattle.std.proofs.Common.{refl}
use Rattle.reader_bytes.proofs.Reading.{hands_on}
use Rattle.reader_lists.proofs.Ordered.{ordered_starts, ordered_goes_on, ordered_stops}
use Rattle.reader_lists.proofs.Blanks.{blank_facts, facts_filled}
use Rattle.reader_lists.proofs.facts.Goals as goal

pub loop-i-init : goal.loop-i-init
loop-i-init c = ordered_starts c.requires.0 c.requires.1 refl (blank_facts c.no_facts-list.ensures)

pub returns-in_err-f : goal.returns-in_err-f
returns-in_err-f c = hands_on _ _ c.from_residual.ensures.1 (ordered_stops c.loop-i.invariant c.loop-i-test.true c.in_err-f.ensures)

pub loop-i-preserved : goal.loop-i-preserved
loop-i-preserved c = ordered_goes_on c.loop-i.invariant c.loop-i-test.true c.in_ok-f.ensures

pub returns : goal.returns
returns c = facts_filled c.loop-i.invariant.within c.loop-i-test.false _ _ c.loop-i.invariant.filling
