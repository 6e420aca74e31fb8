-- A length is answered as it is, and each refusal as minus its number.
use Rattle.std.proofs.Common.{◌≡◌, Err, ap, ◌∙◌}
use Rattle.writer.specs.declared.WriterRefusal.{WriterRefusal}
use Rattle.writer.specs.declared.WriterRefusal.TheVariants.{Table, OutputShort}
use Rattle.writer.specs.Answers.{writing_says}
use Rattle.capi.specs.Numbers.{signed}
use Rattle.capi.proofs.Codes.{value_fits, value_code, refusal_code, same_code}
use Rattle.capi.proofs.writing_code.Goals as goal

pub overflow_cast-result : goal.overflow_cast-result
unfolding writing_says
overflow_cast-result c = value_fits _ _ c.requires (ap writing_says c.in-Ok.is)

pub returns-in-Ok : goal.returns-in-Ok
unfolding writing_says
returns-in-Ok c = value_code _ _ c.requires (ap writing_says c.in-Ok.is)

pub returns-in-Err-Table : goal.returns-in-Err-Table
unfolding writing_says
returns-in-Err-Table c =
    let refused : c.args.writing ≡ Err c.in-Err-Table.field-0 = c.in-Err-Table.is in
    let table : c.in-Err-Table.field-0 ≡ Table c.in-Err-Table.refusal = rw refused at c.in-Err-Table.field-0-is in
    same_code c.refusal_code.result c.refusal_code.type_inv c.refusal_code.ensures
    (ap writing_says refused ∙ ap (λ (r : WriterRefusal). writing_says (Err r)) table)

pub returns-in-Err-OutputShort : goal.returns-in-Err-OutputShort
unfolding signed writing_says
returns-in-Err-OutputShort c =
    let refused : c.args.writing ≡ Err c.in-Err-OutputShort.field-0 = c.in-Err-OutputShort.is in
    let short : c.in-Err-OutputShort.field-0 ≡ OutputShort = rw refused at c.in-Err-OutputShort.field-0-is in
    refusal_code _ 21 (ap writing_says refused ∙ ap (λ (r : WriterRefusal). writing_says (Err r)) short)
