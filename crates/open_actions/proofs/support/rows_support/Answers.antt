-- The objects of the rows that agree, one row of the range after the other.
use Rattle.std.proofs.Common.{◌∙◌, ap, arith}
use Rattle.std.proofs.lemmas.Option.{MatchOption-at_some}
use Rattle.masks.specs.Sets.{union_of, single_of}
use Rattle.open_actions.proofs.Supporting.{rows_before_lem, row_inside, rows_after, everything, row_passed, no_object, row_joins}
use Rattle.open_actions.proofs.support.rows_support.Goals as goal
use Rattle.open_actions.proofs.support.rows_support.Goals.{then-row_agrees+in-Some+then-o-lt64, then-row_agrees+in-Some+else-o-lt64, else-row_agrees}

pub loop-i-init : goal.loop-i-init
loop-i-init c = record {
  placed = c.place_of-place.ensures;
  supported = rows_before_lem c.requires.0 (λ k. omega (arith, c.type_inv.state k)) c.range_of-range.ensures c.rows_below-start.ensures;
}

pub row_agrees-requires : goal.row_agrees-requires
row_agrees-requires c =
    (row_inside c.requires.0 (λ k. omega (arith, c.type_inv.state k)) c.range_of-range.ensures c.rows_below-end.ensures c.loop-i-test.true, c.requires.1)

pub returns-in_default : goal.returns-in_default
returns-in_default c = everything c.all_below.ensures

pub overflow_mul-i : goal.overflow_mul-i
overflow_mul-i c =
    let there = row_inside c.requires.0 (λ k. omega (arith, c.type_inv.state k)) c.range_of-range.ensures c.rows_below-end.ensures c.loop-i-test.true in
    omega arith

pub overflow_add-i : goal.overflow_add-i
overflow_add-i c =
    let there = row_inside c.requires.0 (λ k. omega (arith, c.type_inv.state k)) c.range_of-range.ensures c.rows_below-end.ensures c.loop-i-test.true in
    let placed = MatchOption-at_some _ _ _ c.in-Some.is c.loop-i.invariant.placed in
    omega (arith, placed.at_most)

pub bounds-state-i : goal.bounds-state-i
bounds-state-i c =
    let there = row_inside c.requires.0 (λ k. omega (arith, c.type_inv.state k)) c.range_of-range.ensures c.rows_below-end.ensures c.loop-i-test.true in
    let placed = MatchOption-at_some _ _ _ c.in-Some.is c.loop-i.invariant.placed in
    omega (arith, placed.at_most)

pub loop-i-preserved : goal.loop-i-preserved
loop-i-preserved c =
    let so_far = c.loop-i.invariant in
    elim c.if-row_agrees.branch [
      | then-row_agrees+in-Some+then-o-lt64 w ↦
          let placed = MatchOption-at_some _ _ _ w.in-Some.is so_far.placed in
          let object = w.single.ensures ∙ ap single_of w.from-o.ensures in
          record { placed = rw w.place-is placed; supported = row_joins so_far.supported placed (w.mask-is ∙ w.union-mask.ensures ∙ ap (union_of _) object) }
      | then-row_agrees+in-Some+else-o-lt64 w ↦
          let placed = MatchOption-at_some _ _ _ w.in-Some.is so_far.placed in
          let large = no_object so_far.supported placed (omega (arith, w.if-o-lt64.false, w.from-o.ensures)) in
          record { placed = rw w.place-is placed; supported = rw w.mask-is large }
      | else-row_agrees w ↦ record {
        placed = rw w.place-is so_far.placed;
        supported = rw w.mask-is (row_passed so_far.supported c.row_agrees.ensures w.if-row_agrees.false);
      }
    ]

pub returns : goal.returns
returns c =
    rows_after c.requires.0 (λ k. omega (arith, c.type_inv.state k)) c.range_of-range.ensures c.rows_below-end.ensures c.loop-i-test.false
    c.loop-i.invariant.supported
