-- The least number of a row with the predicate, or with the predicate and the object.
use Rattle.std.proofs.Common.{sym, ◌∙◌, ap}
use Rattle.masks.specs.Sets.{is_member}
use Rattle.open_actions.proofs.Supporting.{of_predicate_lem, of_object}
use Rattle.open_actions.proofs.rows.range_of.Goals as goal

pub returns-then-not-is_member : goal.returns-then-not-is_member
returns-then-not-is_member c = rw c.from-least.ensures (of_predicate_lem c.requires)

pub returns : goal.returns
returns c =
    let is_bound = ap (is_member c.args.bound) (sym c.from.ensures) ∙ sym c.is_member.ensures ∙ c.if-not-is_member.false in
    rw (c.from-least.ensures, c.from-3.ensures, c.from-2.ensures) (of_object c.requires is_bound)
