-- The number's digits stand where the line has them.
use Rattle.std.proofs.Common.{ℕ, ap, ◌∙◌, arith}
use Rattle.model.specs.Answer.{refused}
use Rattle.model.specs.Calls.{printed}
use Rattle.printer.proofs.Showing.{few_refusals, one_digit, two_digits}
use Rattle.printer.proofs.refusals.refused_line.Goals as goal

pub returns-then-has_one_digit : goal.returns-then-has_one_digit
returns-then-has_one_digit c =
    let n = c.refusal_number-n in
    record {
      text = one_digit n.result c.if-has_one_digit.true ∙ ap (λ (k : ℕ). printed (refused k)) n.ensures;
      within = omega arith;
    }

pub returns : goal.returns
returns c =
    let n = c.refusal_number-n in
    let few = few_refusals c.args.refusal in
    let same = n.ensures in
    record {
      text = two_digits n.result c.if-has_one_digit.false (omega arith) ∙ ap (λ (k : ℕ). printed (refused k)) n.ensures;
      within = omega arith;
    }
