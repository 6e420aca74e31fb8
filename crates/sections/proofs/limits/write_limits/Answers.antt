use Rattle.std.proofs.Common.{arith}
use Rattle.sections.proofs.LimitLines.{limits_start, limit_at, limits_end, no_limits}
use Rattle.sections.proofs.LinesLeft.{index_below}
use Rattle.text.proofs.Writing.{remains_as, start, next_fits, next, finish}
use Rattle.sections.proofs.limits.write_limits.Goals as goal

pub returns-then-count-eq0 : goal.returns-then-count-eq0
returns-then-count-eq0 c = no_limits _ _ _ _ c.if-count-eq0.true

pub loop-column-init : goal.loop-column-init
loop-column-init c = remains_as (limits_start _ _ _ _ (omega (arith, c.if-count-eq0.false))) (start c.requires.3)

pub bounds-arities-c : goal.bounds-arities-c
bounds-arities-c c = index_below _ _ _ c.requires.2 c.loop-column-test.true

pub write_limit_of-n-requires : goal.write_limit_of-n-requires
write_limit_of-n-requires c =
    let pre = c.requires in
    let l = c.loop-column in
    (pre.0.long, omega (arith, pre.0.narrow), next_fits l.invariant (limit_at _ _ _ _ l.column pre.0 pre.1 c.loop-column-test.true))

pub loop-column-preserved : goal.loop-column-preserved
loop-column-preserved c =
    let pre = c.requires in
    let l = c.loop-column in
    next l.invariant (limit_at _ _ _ _ l.column pre.0 pre.1 c.loop-column-test.true) c.write_limit_of-n.ensures

pub returns : goal.returns
returns c = finish c.loop-column.invariant (limits_end _ _ _ _ c.loop-column.column c.loop-column-test.false)
