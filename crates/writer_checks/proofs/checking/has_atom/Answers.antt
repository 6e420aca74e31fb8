-- The search of the code's is that of the definition.
use Rattle.std.proofs.Common.{◌∙◌, ap, rules, arith, tests, ◌≡◌, length}
use Rattle.std.proofs.lemmas.Iterator.{YieldsList-from_slice}
use Rattle.std.proofs.lemmas.Iterator.Search.{any_from_yields_List}
use Rattle.model.specs.Card as model
use Rattle.laws.specs.Lists.{any}
use Rattle.card.specs.Represents.{atom_of}
use Rattle.writer_checks.proofs.Loops.{any_same, atoms_read}
use Rattle.writer_checks.proofs.checking.has_atom.Goals as goal

pub returns : goal.returns
unfolding model.has
returns c =
    let same = model.same_atom (atom_of c.args.arities.now c.args.a) in
    let eight : length c.args.list.atoms ≡ 8 = search rules in
    any_from_yields_List (λ b. same (atom_of c.args.arities.now b)) _ _ _ c.any.ensures.ran (YieldsList-from_slice _ (search rules))
    (λ x b q k. search (rules, tests))
    ∙ any_same same (atom_of c.args.arities.now) _
    ∙ ap (any same) (atoms_read c.args.arities.now c.args.list (omega arith))
