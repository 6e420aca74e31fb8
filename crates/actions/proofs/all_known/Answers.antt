-- `all` of std is ours.
use Rattle.std.proofs.Common.{ltb, rules, tests, ◌∙◌}
use Rattle.std.proofs.lemmas.Iterator.{YieldsList-from_slice}
use Rattle.std.proofs.lemmas.Iterator.Search.{all_from_yields_List}
use Rattle.actions.proofs.Passing.{listed_all}
use Rattle.actions.proofs.all_known.Goals as goal

pub returns : goal.returns
returns c =
    all_from_yields_List (λ o. ltb o c.args.bound) _ _ _ c.all.ensures.ran (YieldsList-from_slice c.args.objects.now cc)
    (λ x b q k. search (rules, tests))
    ∙ listed_all _ c.args.objects.now
