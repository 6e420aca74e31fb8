use Rattle.sections.proofs.LinesLeft.{exclusions_start, exclusion_next, exclusion_skipped, exclusions_end, index_below}
use Rattle.text.proofs.Writing.{remains_as, start, next_fits, next, finish}
use Rattle.sections.proofs.minimal.write_exclusions_of.Goals as goal
use Rattle.sections.proofs.minimal.write_exclusions_of.Goals.{then-common-eq0, else-common-eq0}

pub loop-index-init : goal.loop-index-init
loop-index-init c = remains_as (exclusions_start _ _ _) (start c.requires.2)

pub bounds-containing-j : goal.bounds-containing-j
bounds-containing-j c = rw c.from-j.ensures (index_below _ _ _ c.requires.1 c.loop-index-test.true)

pub write_exclusion-n-requires : goal.write_exclusion-n-requires
write_exclusion-n-requires c =
    let l = c.loop-index in
    next_fits l.invariant (exclusion_next _ _ _ l.index-index c.loop-index-test.true c.from-j.ensures c.common.ensures c.if-common-eq0.true)

pub loop-index-preserved : goal.loop-index-preserved
loop-index-preserved c =
    let l = c.loop-index in
    let known = c.loop-index-test.true in
    elim c.if-common-eq0.branch [
      | then-common-eq0 w ↦
          rw (w.out-is, w.at-is)
          (next l.invariant (exclusion_next _ _ _ l.index-index known c.from-j.ensures c.common.ensures w.if-common-eq0.true) w.write_exclusion-n.ensures)
      | else-common-eq0 w ↦
          rw (w.out-is, w.at-is)
          (remains_as (exclusion_skipped _ _ _ l.index-index known c.from-j.ensures c.common.ensures w.if-common-eq0.false) l.invariant)
    ]

pub returns : goal.returns
returns c = finish c.loop-index.invariant (exclusions_end _ _ _ _ c.loop-index-test.false)
