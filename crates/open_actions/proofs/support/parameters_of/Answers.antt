-- The parameters of an atom: the first one, and those further that its arity has.
use Rattle.std.proofs.Common.{◌∙◌, ap}
use Rattle.masks.specs.Sets.{single_of}
use Rattle.open_actions.proofs.Supporting.{one_parameter, two_parameters, three_parameters}
use Rattle.open_actions.proofs.support.parameters_of.Goals as goal

pub returns-then-arity-lt2 : goal.returns-then-arity-lt2
returns-then-arity-lt2 c = one_parameter c.args.a (c.single-one.ensures ∙ ap single_of c.from.ensures) c.if-arity-lt2.true

pub returns-then-arity-lt3 : goal.returns-then-arity-lt3
returns-then-arity-lt3 c =
    two_parameters c.args.a (c.single-one.ensures ∙ ap single_of c.from.ensures) (c.single.ensures ∙ ap single_of c.from-2.ensures) c.union-two.ensures
    c.if-arity-lt2.false c.if-arity-lt3.true

pub returns : goal.returns
returns c =
    three_parameters c.args.a (c.single-one.ensures ∙ ap single_of c.from.ensures) (c.single.ensures ∙ ap single_of c.from-2.ensures) c.union-two.ensures
    (c.single-2.ensures ∙ ap single_of c.from-3.ensures) c.union.ensures c.if-arity-lt3.false
