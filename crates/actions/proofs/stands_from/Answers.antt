-- `any` of std is our `member`.
use Rattle.std.proofs.Common.{eqb, length, arith, rules, tests, ap, ◌∙◌}
use Rattle.std.proofs.lemmas.Slice.{between_to_end}
use Rattle.std.proofs.lemmas.Iterator.{YieldsList-from_slice}
use Rattle.std.proofs.lemmas.Iterator.Search.{any_from_yields_List}
use Rattle.laws.specs.Lists.{member}
use Rattle.actions.proofs.Passing.{listed_member}
use Rattle.actions.proofs.stands_from.Goals as goal

pub returns : goal.returns
returns c =
    any_from_yields_List (λ x. eqb x c.args.o) _ _ _ c.any.ensures.ran (YieldsList-from_slice _ c.iter.ensures.rest)
    (λ x b q k. search (rules, tests))
    ∙ listed_member c.args.o _
    ∙ ap (member c.args.o) (between_to_end c.args.objects.now c.args.at (length c.args.objects.now) (omega arith))
