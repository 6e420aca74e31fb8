use Rattle.std.proofs.Common.{◌≡◌, ℕ, Result, Err, sym, ap, ◌∙◌}
use Rattle.writer.specs.declared.WriterRefusal.{WriterRefusal}
use Rattle.writer.specs.declared.WriterRefusal.TheVariants.{Table, OutputShort}
use Rattle.writer.specs.Answers.{writing_says}
use Rattle.tables.specs.Front.{number_of}
use Rattle.tables.proofs.number_of.Goals as goal

pub returns-in-Ok : goal.returns-in-Ok
unfolding number_of writing_says
returns-in-Ok c = sym (ap (λ (w : Result ℕ WriterRefusal). number_of (writing_says w)) c.in-Ok.is)

pub returns-in-Err-Table : goal.returns-in-Err-Table
unfolding number_of writing_says
returns-in-Err-Table c =
    let refused : c.args.writing ≡ Err c.in-Err-Table.field-0 = c.in-Err-Table.is in
    let table : c.in-Err-Table.field-0 ≡ Table c.in-Err-Table.refusal = rw refused at c.in-Err-Table.field-0-is in
    c.refusal_number.ensures
    ∙ sym (ap (λ (w : Result ℕ WriterRefusal). number_of (writing_says w)) refused ∙ ap (λ (r : WriterRefusal). number_of (writing_says (Err r))) table)

pub returns-in-Err-OutputShort : goal.returns-in-Err-OutputShort
unfolding number_of writing_says
returns-in-Err-OutputShort c =
    let refused : c.args.writing ≡ Err c.in-Err-OutputShort.field-0 = c.in-Err-OutputShort.is in
    let short : c.in-Err-OutputShort.field-0 ≡ OutputShort = rw refused at c.in-Err-OutputShort.field-0-is in
    sym (ap (λ (w : Result ℕ WriterRefusal). number_of (writing_says w)) refused ∙ ap (λ (r : WriterRefusal). number_of (writing_says (Err r))) short)
