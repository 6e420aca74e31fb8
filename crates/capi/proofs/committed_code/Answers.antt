-- A count is answered as it is, a refusal of the press as minus its number, and 23 as minus 23.
use Rattle.std.proofs.Common.{◌≡◌, ap, ◌∙◌}
use Rattle.model.specs.Answer.{refused}
use Rattle.previews.specs.declared.CommitRefusal.{CommitRefusal}
use Rattle.previews.specs.declared.CommitRefusal.TheVariants.{Press, ChangesDiffer}
use Rattle.previews.specs.Answers.{commit_number, committed_says}
use Rattle.capi.specs.Numbers.{signed}
use Rattle.capi.proofs.Codes.{value_fits, value_code, refusal_code, same_code}
use Rattle.capi.proofs.committed_code.Goals as goal

pub overflow_cast-result : goal.overflow_cast-result
unfolding committed_says
overflow_cast-result c = value_fits _ _ c.requires (ap committed_says c.in-Ok.is)

pub returns-in-Ok : goal.returns-in-Ok
unfolding committed_says
returns-in-Ok c = value_code _ _ c.requires (ap committed_says c.in-Ok.is)

pub returns-in-Err-Press : goal.returns-in-Err-Press
unfolding committed_says commit_number
returns-in-Err-Press c =
    let same : c.in-Err-Press.field-0 ≡ Press c.in-Err-Press.refusal = rw c.in-Err-Press.is at c.in-Err-Press.field-0-is in
    same_code c.press_refusal_code.result c.press_refusal_code.type_inv c.press_refusal_code.ensures
    (ap committed_says c.in-Err-Press.is ∙ ap (λ (e : CommitRefusal). refused (commit_number e)) same)

pub returns-in-Err-ChangesDiffer : goal.returns-in-Err-ChangesDiffer
unfolding signed committed_says commit_number
returns-in-Err-ChangesDiffer c =
    let same : c.in-Err-ChangesDiffer.field-0 ≡ ChangesDiffer = rw c.in-Err-ChangesDiffer.is at c.in-Err-ChangesDiffer.field-0-is in
    refusal_code _ 23 (ap committed_says c.in-Err-ChangesDiffer.is ∙ ap (λ (e : CommitRefusal). refused (commit_number e)) same)
