-- Each turn checks one schema, and what is left to check stays the answer.
use Rattle.std.proofs.Common.{◌≡◌, length, List, [], ◌∷◌, arith, refl, ◌∙◌, rules}
use Rattle.std.proofs.Math.Option.{Option, none}
use Rattle.std.proofs.lemmas.Result.{err_from_is_err_and}
use Rattle.model.specs.Answer.{Answer}
use Rattle.model.specs.Writer.{each}
use Rattle.card.proofs.Entries.{no_schema, schemas_within}
use Rattle.writer_checks.proofs.Loops.{item_refused, item_passed, items_passed}
use Rattle.writer_checks.proofs.checking.check_schemas.Goals as goal

-- a check that does not look at the item before is the same after any
alike : {A : Type 0} (check : A → Answer (Unit {0})) (p : Option A) (xs : List A) → each (λ before. check) none xs ≡ each (λ before. check) p xs
unfolding each
alike check p [] = refl
alike check p (x ∷ xs) = refl

pub returns-in_err-check_schema : goal.returns-in_err-check_schema
returns-in_err-check_schema c =
    let there : length c.args.list.schemas ≡ 32 = search rules in
    let p = err_from_is_err_and c.from_residual.result c.from_residual.ensures.1 in
    rw (p.1, p.2, schemas_within c.args.arities.now c.args.list (omega arith))
    (item_refused _ _ _ _ none c.loop-s.invariant no_schema c.loop-s-test.true _ c.in_err-check_schema.ensures)

pub loop-s-preserved : goal.loop-s-preserved
loop-s-preserved c =
    alike _ _ _ ∙ item_passed _ _ _ _ none c.loop-s.invariant no_schema c.loop-s-test.true _ c.in_ok-check_schema.ensures

pub returns : goal.returns
returns c =
    let there : length c.args.list.schemas ≡ 32 = search rules in
    rw (schemas_within c.args.arities.now c.args.list (omega arith)) (items_passed _ _ _ _ none c.loop-s.invariant _ c.loop-s-test.false)
