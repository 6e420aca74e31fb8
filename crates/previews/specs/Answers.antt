-- What the answers of asking and committing say, the documents' number or value for each case.
use Rattle.std.specs.Prelude.{ℕ, ◌≡◌, List, Result, Ok, Err, IfOk}
use Rattle.model.specs.Answer.{Answer, refused, accepted, ◌>>=◌}
use Rattle.model.specs.Calls.{Call}
use Rattle.model.specs.Preview.{Asked}
use Rattle.strips.specs.Answers.{press_number, applied_says}
use Rattle.strips.specs.declared.PressRefusal.{PressRefusal}
use Rattle.previews.specs.Represents.{preview_of, changes_for}
use Rattle.previews.specs.declared.Foreseen.{Foreseen}
use Rattle.previews.specs.declared.CommitRefusal.{CommitRefusal}
use Rattle.previews.specs.declared.CommitRefusal.TheVariants.{Press, ChangesDiffer}

-- the count, and the preview that the changes stand for; or the refusal
unfoldable pub previewed_says : Result Foreseen PressRefusal → Answer Asked
previewed_says r = applied_says r >>= (λ f. accepted (record { count = f.count; foreseen = preview_of f.changes }))

-- The function answers as the definitions do, and what is past the lists is 0.
pub record Asks (answer : Answer Asked) (r : Result Foreseen PressRefusal) : Type 0 where
  pub answers : previewed_says r ≡ answer
  pub whole : IfOk r (λ f. f.changes ≡ changes_for (preview_of f.changes))

-- the number of a refusal
unfoldable pub commit_number : CommitRefusal → ℕ
commit_number (Press e) = press_number e
commit_number ChangesDiffer = 23

unfoldable pub committed_says : Result ℕ CommitRefusal → Answer ℕ
committed_says (Ok n) = accepted n
committed_says (Err e) = refused (commit_number e)

-- The function's answer, and the buffer lent to it as the function leaves it, are those of a call of the definitions.
pub record Commits (call : Call) (after : List ℕ) (r : Result ℕ CommitRefusal) : Type 0 where
  pub answer : committed_says r ≡ call.answer
  pub buffer : after ≡ call.buffer
