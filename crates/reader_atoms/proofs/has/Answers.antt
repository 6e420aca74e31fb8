-- `has` looks through the list.
use Rattle.std.proofs.Common.{◌∙◌, sym}
use Rattle.card.specs.Represents.{blank_atom}
use Rattle.reader_atoms.proofs.Orders.{has_first, has_last, has_found, has_next}
use Rattle.reader_atoms.proofs.has.Goals as goal

pub loop-i-init : goal.loop-i-init
loop-i-init c = has_first _ _

pub returns-then-is_same : goal.returns-then-is_same
unfolding blank_atom
returns-then-is_same c =
    let found = sym c.is_same.ensures ∙ c.if-is_same.true in
    sym (c.loop-i.invariant ∙ has_found _ _ _ c.loop-i-test.true found)

pub loop-i-preserved : goal.loop-i-preserved
unfolding blank_atom
loop-i-preserved c =
    let other = sym c.is_same.ensures ∙ c.if-is_same.false in
    c.loop-i.invariant ∙ has_next _ _ _ c.loop-i-test.true other

pub returns : goal.returns
returns c = sym (c.loop-i.invariant ∙ has_last _ _ _ c.loop-i-test.false)
