-- An object that stands again decides; otherwise the objects after it do.
use Rattle.std.proofs.Common.{arith, sym, ◌∙◌}
use Rattle.actions.proofs.Passing.{distinct_fails, distinct_again, distinct_end}
use Rattle.actions.proofs.all_different.Goals as goal

pub returns-then-stands_from : goal.returns-then-stands_from
returns-then-stands_from c =
    distinct_fails c.args.objects.now c.loop-i.i _ c.loop-i.invariant (omega arith) (sym c.stands_from.ensures ∙ c.if-stands_from.true)

pub loop-i-preserved : goal.loop-i-preserved
loop-i-preserved c =
    distinct_again c.args.objects.now c.loop-i.i _ c.loop-i.invariant (omega arith) (sym c.stands_from.ensures ∙ c.if-stands_from.false)

pub returns : goal.returns
returns c = distinct_end c.args.objects.now c.loop-i.i _ c.loop-i.invariant (omega arith)
