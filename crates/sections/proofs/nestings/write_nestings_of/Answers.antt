use Rattle.std.proofs.Common.{arith}
use Rattle.sections.proofs.LinesLeft.{walked, nestings_start, nesting_next, nesting_skipped, nestings_end}
use Rattle.text.proofs.Writing.{remains_as, start, next_fits, next, finish}
use Rattle.sections.proofs.nestings.write_nestings_of.Goals as goal

pub loop-rest-init : goal.loop-rest-init
loop-rest-init c = record { left = remains_as (nestings_start _ _) (start c.requires.2); fits = (c.type_inv.containing c.args.i).fits }

-- a turn takes the first member from the mask
pub offset_bounds-containing-j : goal.offset_bounds-containing-j
offset_bounds-containing-j c =
    let w = walked c.loop-rest-test.true c.loop-rest.invariant.fits c.first_member-j.ensures c.without_first-rest.ensures in omega arith

pub bounds-containing-j : goal.bounds-containing-j
bounds-containing-j c =
    let w = walked c.loop-rest-test.true c.loop-rest.invariant.fits c.first_member-j.ensures c.without_first-rest.ensures in
    omega (arith, c.requires.0)

pub write_nesting-n-requires : goal.write_nesting-n-requires
write_nesting-n-requires c =
    let w = walked c.loop-rest-test.true c.loop-rest.invariant.fits c.first_member-j.ensures c.without_first-rest.ensures in
    next_fits c.loop-rest.invariant.left (nesting_next _ _ w c.is_member.ensures c.if-not-is_member.true)

pub loop-rest-smaller-then-not-is_member : goal.loop-rest-smaller-then-not-is_member
loop-rest-smaller-then-not-is_member c =
    (walked c.loop-rest-test.true c.loop-rest.invariant.fits c.first_member-j.ensures c.without_first-rest.ensures).fewer

pub loop-rest-preserved-then-not-is_member : goal.loop-rest-preserved-then-not-is_member
loop-rest-preserved-then-not-is_member c =
    let w = walked c.loop-rest-test.true c.loop-rest.invariant.fits c.first_member-j.ensures c.without_first-rest.ensures in
    record {
      left = next c.loop-rest.invariant.left (nesting_next _ _ w c.is_member.ensures c.if-not-is_member.true) c.write_nesting-n.ensures;
      fits = w.small;
    }

pub loop-rest-smaller : goal.loop-rest-smaller
loop-rest-smaller c =
    (walked c.loop-rest-test.true c.loop-rest.invariant.fits c.first_member-j.ensures c.without_first-rest.ensures).fewer

pub loop-rest-preserved : goal.loop-rest-preserved
loop-rest-preserved c =
    let w = walked c.loop-rest-test.true c.loop-rest.invariant.fits c.first_member-j.ensures c.without_first-rest.ensures in
    record {
      left = remains_as (nesting_skipped _ _ w c.is_member.ensures c.if-not-is_member.false) c.loop-rest.invariant.left;
      fits = w.small;
    }

pub returns : goal.returns
returns c = finish c.loop-rest.invariant.left (nestings_end _ _ _ c.loop-rest-test.false)
