-- The objects one after the other, then the culprits that are parameters come before them.
use Rattle.std.proofs.Common.{arith, inr}
use Rattle.open_actions.proofs.Noting.{note_start, note_next, note_end, few_fit}
use Rattle.open_actions.proofs.notes.note.Goals as goal

pub loop-p-init : goal.loop-p-init
loop-p-init c = note_start

pub loop-p-preserved : goal.loop-p-preserved
loop-p-preserved c = note_next c.loop-p.invariant c.loop-p-test.true c.requires.1 c.if-notes-first.false

pub overflow_cast-notes : goal.overflow_cast-notes
overflow_cast-notes c = omega (arith, few_fit c.args.culprits c.all_below.ensures c.common-few.ensures)

pub returns : goal.returns
returns c = inr (note_end c.loop-p.invariant c.loop-p-test.false (omega arith) c.all_below.ensures c.common-few.ensures)
