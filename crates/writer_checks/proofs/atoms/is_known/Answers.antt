use Rattle.std.proofs.Common.{◌≡◌, ℕ, take, rules, tests, arith, ◌∙◌}
use Rattle.std.proofs.lemmas.Iterator.{YieldsList-from_slice}
use Rattle.std.proofs.lemmas.Iterator.Search.{all_from_yields_List}
use lib.Dec.{ltb}
use Rattle.writer_checks.proofs.Loops.{all_same}
use Rattle.writer_checks.proofs.AtomLaws.{three, unknown_predicate, unknown_arity, known_arguments}
use Rattle.writer_checks.proofs.atoms.is_known.Goals as goal
use Rattle.writer_checks.proofs.atoms.is_known.Goals.{then-from-arities-via-then-from-arities, then-from-arities-via-else-from-arities+then-n-gt3}

pub returns-then-from-arities : goal.returns-then-from-arities
returns-then-from-arities c =
    elim c.then-from-arities.branch [
      | then-from-arities-via-then-from-arities w ↦ unknown_predicate _ _ _ (omega arith)
      | then-from-arities-via-else-from-arities+then-n-gt3 w ↦ unknown_arity _ _ _ (omega arith)
    ]

pub returns : goal.returns
returns c =
    let n = c.arity-n.result in
    let read : c.iter.result.rest.now ≡ take c.arity-n.result c.arguments.result = search rules in
    let below = λ (x : ℕ). ltb x c.args.bound in
    all_from_yields_List {all = take n (three c.args.a)} below _ _ _ c.all.ensures.ran (YieldsList-from_slice _ (rw c.arguments.ensures at read))
    (λ x b q k. search (rules, tests))
    ∙ all_same below _
    ∙ known_arguments _ _ _ n c.arity-n.ensures c.if-n-gt3.false (omega arith)
