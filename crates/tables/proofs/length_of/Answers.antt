use Rattle.std.proofs.Common.{◌≡◌, ℕ, Result, Ok, Err, refl, ◌∙◌}
use Rattle.std.specs.Result.{result_unwrap_or}
use Rattle.writer.specs.declared.WriterRefusal.{WriterRefusal}
use Rattle.writer.specs.declared.WriterRefusal.TheVariants.{Table, OutputShort}
use Rattle.writer.specs.Answers.{writing_says}
use Rattle.tables.specs.Front.{length_of}
use Rattle.tables.proofs.length_of.Goals as goal

told : (w : Result ℕ WriterRefusal) → result_unwrap_or w 0 ≡ length_of (writing_says w)
unfolding length_of writing_says
told (Ok n) = refl
told (Err (Table r)) = refl
told (Err OutputShort) = refl

pub returns : goal.returns
returns c = c.unwrap_or.ensures ∙ told c.args.writing
