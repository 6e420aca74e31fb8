-- Nothing changes where the labels are one; else the higher gives way to the lower.
use mathlib.Core.Path.{◌∙◌}
use Rattle.spaces.proofs.Uniting.{unite_same, unite_lower, unite_upper}
use Rattle.spaces.proofs.grouping.unite.Goals as goal

pub returns-then-g-h : goal.returns-then-g-h
returns-then-g-h c = unite_same c.args.groups c.args.c c.args.d c.if-g-h.true

pub returns-then-g-h-2 : goal.returns-then-g-h-2
returns-then-g-h-2 c = c.relabelled.ensures ∙ unite_lower c.args.groups c.args.c c.args.d c.if-g-h-2.true

pub returns : goal.returns
returns c = c.relabelled-2.ensures ∙ unite_upper c.args.groups c.args.c c.args.d c.if-g-h-2.false
