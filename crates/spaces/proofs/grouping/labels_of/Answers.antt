-- A property that is its own label is written, another is not.
use Rattle.std.proofs.Common.{◌≡◌, ◌<◌, ℕ, List, Bool, eqb, length, get_or, set, arith}
use mathlib.Core.Path.{refl, ap, ◌∙◌}
use borrow.Author.Tests.{eq-eqb, ne_eqb}
use Rattle.laws.proofs.Padded.{pick_written, pick_skipped}
use Rattle.laws.specs.Lists.{keep, from, up_to, padded}
use Rattle.laws.proofs.Walks.{keep_few}
use Rattle.spaces.specs.Steps.{labelled}
use Rattle.spaces.proofs.grouping.labels_of.Goals as goal
use Rattle.spaces.proofs.grouping.labels_of.Goals.{then-groups-c, else-groups-c}

-- a property is its own label
abbrev own : List ℕ → ℕ → Bool
own groups c = eqb (get_or groups c 0) c

pub loop-c-init : goal.loop-c-init
unfolding labelled keep up_to from padded
loop-c-init c = (refl, refl)

pub bounds-lowest-count : goal.bounds-lowest-count
unfolding labelled
bounds-lowest-count c =
    let few = keep_few (own c.args.groups.now) c.loop-c.c in
    let counted : c.loop-c.count ≡ length (keep (own c.args.groups.now) (up_to c.loop-c.c)) = c.loop-c.invariant.0 in
    omega arith

pub overflow_add-count : goal.overflow_add-count
unfolding labelled
overflow_add-count c =
    let few = keep_few (own c.args.groups.now) c.loop-c.c in
    let counted : c.loop-c.count ≡ length (keep (own c.args.groups.now) (up_to c.loop-c.c)) = c.loop-c.invariant.0 in
    omega arith

pub loop-c-preserved : goal.loop-c-preserved
unfolding labelled
loop-c-preserved c =
    let a = c.args in
    let l = c.loop-c in
    let test = own a.groups.now in
    let room : l.c < 60 = omega arith in
    elim c.if-groups-c.branch [
      | then-groups-c w ↦
          let label = w.if-groups-c.true in
          let next = pick_written test 60 l.lowest l.count l.c room l.invariant.0 l.invariant.1 (eq-eqb (get_or a.groups.now l.c 0) l.c label) in
          (w.count-is ∙ next.0, w.lowest-is ∙ ap (set l.lowest l.count) label ∙ next.1)
      | else-groups-c w ↦
          let next = pick_skipped test 60 l.lowest l.count l.c room l.invariant.0 l.invariant.1
          (ne_eqb (get_or a.groups.now l.c 0) l.c w.if-groups-c.false) in
          (w.count-is ∙ next.0, w.lowest-is ∙ next.1)
    ]
