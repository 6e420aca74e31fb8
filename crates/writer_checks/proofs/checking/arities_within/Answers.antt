-- The test of the code's is that of the definition.
use Rattle.std.proofs.Common.{◌∙◌, rules, tests}
use Rattle.std.proofs.lemmas.Iterator.{YieldsList-from_slice}
use Rattle.std.proofs.lemmas.Iterator.Search.{all_from_yields_List}
use Rattle.model.specs.Card.{between, in_range}
use Rattle.writer_checks.proofs.Loops.{all_same}
use Rattle.writer_checks.proofs.checking.arities_within.Goals as goal

pub returns : goal.returns
unfolding in_range between
returns c =
    all_from_yields_List {all = c.args.arities.now} (between 1 3) _ _ _ c.all.ensures.ran (YieldsList-from_slice _ cc) (λ x b q k. search (rules, tests))
    ∙ all_same (between 1 3) c.args.arities.now
