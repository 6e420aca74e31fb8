-- A property of the group is written, another is not.
use Rattle.std.proofs.Common.{ℕ, Bool, eqb, get_or, arith}
use mathlib.Core.Path.{refl, ◌∙◌}
use borrow.Author.Tests.{eq-eqb, ne_eqb}
use Rattle.laws.proofs.Padded.{pick_written, pick_skipped}
use Rattle.laws.specs.Lists.{keep, from, up_to, padded}
use Rattle.spaces.specs.Own.{own_of}
use Rattle.spaces.proofs.own.own_properties.Goals as goal
use Rattle.spaces.proofs.own.own_properties.Goals.{then-groups-c, else-groups-c}

pub loop-c-init : goal.loop-c-init
unfolding own_of keep up_to from padded
loop-c-init c = (omega arith, refl, refl)

pub loop-c-preserved : goal.loop-c-preserved
unfolding own_of
loop-c-preserved c =
    let a = c.args in
    let l = c.loop-c in
    let few = l.invariant.0 in
    let test : ℕ → Bool = λ d. eqb (get_or a.groups.now d 0) a.lowest in
    elim c.if-groups-c.branch [
      | then-groups-c w ↦
          let next = pick_written test 60 l.properties l.count l.c (omega arith) l.invariant.1 l.invariant.2
          (eq-eqb (get_or a.groups.now l.c 0) a.lowest w.if-groups-c.true) in
          (omega (arith, w.count-is, few), w.count-is ∙ next.0, w.properties-is ∙ next.1)
      | else-groups-c w ↦
          let next = pick_skipped test 60 l.properties l.count l.c (omega arith) l.invariant.1 l.invariant.2
          (ne_eqb (get_or a.groups.now l.c 0) a.lowest w.if-groups-c.false) in
          (omega (arith, w.count-is, few), w.count-is ∙ next.0, w.properties-is ∙ next.1)
    ]
