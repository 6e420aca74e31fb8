use Rattle.std.proofs.Common.{refl, arith}
use Rattle.masks.proofs.Walking.{walk}
use Rattle.text.proofs.Writing.{finish, next_fits, next}
use Rattle.text.proofs.NumberRows.{member_first, no_member}
use Rattle.text.proofs.rows.write_members.Goals as goal

pub write_item-at-requires : goal.write_item-at-requires
write_item-at-requires c =
    let l = c.loop-rest in
    next_fits l.invariant.0 (member_first c.loop-rest-test.true l.invariant.1 c.first_member.ensures refl)

pub loop-rest-smaller : goal.loop-rest-smaller
loop-rest-smaller c =
    let some = c.loop-rest-test.true in
    omega (arith, c.without_first-rest.ensures, (walk (omega arith) c.loop-rest.invariant.1).fewer)

pub loop-rest-preserved : goal.loop-rest-preserved
loop-rest-preserved c =
    let l = c.loop-rest in
    let some = c.loop-rest-test.true in (
      next l.invariant.0 (member_first some l.invariant.1 c.first_member.ensures c.without_first-rest.ensures) c.write_item-at.ensures,
      omega (arith, c.without_first-rest.ensures, (walk (omega arith) l.invariant.1).small),
    )

pub returns : goal.returns
returns c = finish c.loop-rest.invariant.0 (no_member c.loop-rest-test.false)
