-- Document 02, No. 4, on the calls: asking answers as a press does, and a commit straight after it is that press, its answer and every byte.
use Prim.Native.Nat.{ℕ}
use mathlib.Core.Path.{◌≡◌, refl, sym, ap, ◌∙◌}
use mathlib.Core.List.{List}
use Rattle.std.specs.Prelude.{Result, Ok}
use Rattle.model.specs.Answer.{Answer, refused, accepted, ◌>>=◌}
use Rattle.model.specs.Strips.{Action}
use Rattle.model.specs.Calls.{Call, press}
use Rattle.model.specs.Preview.{Asked, ask, commit, committed, ask_then_commit}
use Rattle.model.proofs.PreviewCalls.{ask_as_press, ask_then_commit_lem}
use Rattle.strips.specs.Answers.{applied_says, Matches}
use Rattle.strips.specs.declared.PressRefusal.{PressRefusal}
use Rattle.previews.specs.Represents.{preview_of}
use Rattle.previews.specs.Answers.{previewed_says, committed_says, Asks, Commits}
use Rattle.previews.specs.declared.Foreseen.{Foreseen}
use Rattle.previews.specs.declared.CommitRefusal.{CommitRefusal}

module _ (card buffer : List ℕ) (count : ℕ) (a : Action) where
  -- the same count, or a refusal by the same number
  pub asked_as_pressed : {asked : Result Foreseen PressRefusal} {after : List ℕ} {applied : Result ℕ PressRefusal}
      → Asks (ask card buffer count a) asked → Matches (press card buffer count a) after applied
      → (applied_says asked >>= (λ f. accepted f.count)) ≡ applied_says applied
  unfolding previewed_says
  asked_as_pressed {asked} asks matches =
      sym (counts (applied_says asked)) ∙ ap (λ (r : Answer Asked). r >>= (λ x. accepted x.count)) asks.answers
      ∙ ask_as_press card buffer count a ∙ sym matches.answer
    where
      counts : (x : Answer Foreseen)
          → ((x >>= (λ f. accepted (record { count = f.count; foreseen = preview_of f.changes }))) >>= (λ (r : Asked). accepted r.count))
          ≡ (x >>= (λ f. accepted f.count))
      counts (refused m) = unfold ◌>>=◌ in refl
      counts (accepted f) = unfold ◌>>=◌ in refl

  -- what was answered, committed straight after
  module _ {foreseen : Foreseen} (asks : Asks (ask card buffer count a) (Ok foreseen)) where
    commits_press : commit card buffer count (preview_of foreseen.changes) ≡ press card buffer count a
    unfolding previewed_says applied_says committed ask_then_commit ◌>>=◌
    commits_press = ap (committed card buffer count) asks.answers ∙ ask_then_commit_lem card buffer count a

    pub ask_then_commit_is_press : {committed_buffer pressed_buffer : List ℕ} {r : Result ℕ CommitRefusal} {applied : Result ℕ PressRefusal}
        → Commits (commit card buffer count (preview_of foreseen.changes)) committed_buffer r
        → Matches (press card buffer count a) pressed_buffer applied
        → (committed_says r ≡ applied_says applied) × (committed_buffer ≡ pressed_buffer)
    ask_then_commit_is_press commits matches = (
      commits.answer ∙ ap (λ (c : Call). c.answer) commits_press ∙ sym matches.answer,
      commits.buffer ∙ ap (λ (c : Call). c.buffer) commits_press ∙ sym matches.buffer,
    )
