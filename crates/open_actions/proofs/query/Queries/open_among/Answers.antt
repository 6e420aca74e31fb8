-- The first open binding of the first schema that has one is the answer; each schema before it is passed over.
use Rattle.std.proofs.Common.{inl, inr, refl, arith}
use Rattle.open_actions.proofs.OverSchemas.{pass_next}
use Rattle.open_actions.proofs.Answering.{same_parameters}
use Rattle.open_actions.proofs.query.Queries.open_among.Goals as goal

pub returns-in-Some : goal.returns-in-Some
returns-in-Some c = inl (record {
  number = c.loop-number.number;
  passed = c.loop-number.invariant;
  within = c.loop-number-test.true;
  objects = c.in-Some.objects;
  chooses = rw c.query-query.ensures at c.in-Some.ensures;
  is = rw (same_parameters _ _ _ _ _ _ c.query-query.ensures) refl;
})

pub loop-number-preserved : goal.loop-number-preserved
loop-number-preserved c =
    pass_next c.loop-number.invariant c.loop-number-test.true (rw c.query-query.ensures at c.first_open.ensures.none c.in_default.is)

pub returns : goal.returns
returns c = inr (record {
  number = c.loop-number.number;
  passed = c.loop-number.invariant;
  past = omega (arith, c.loop-number-test.false);
  is = refl;
})
