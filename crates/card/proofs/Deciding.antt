-- What the card reader's verdict says of a card: it is refused by that number, or its task stands beside the verdict.
use mathlib.Core.Path.{◌≡◌, sym, ap, ◌∙◌}
use mathlib.Core.List.{List}
use Prim.Native.Nat.{ℕ}
use Rattle.model.specs.Answer.{refused, accepted}
use Rattle.model.specs.Card as model
use Rattle.model.proofs.RoundTrip.{decode_checks}
use Rattle.card.specs.declared.Decoded.{Decoded}
use Rattle.card.specs.declared.Refusal.{Refusal}
use Rattle.card.specs.declared.Verdict.{Verdict}
use Rattle.card.specs.declared.Verdict.TheVariants.{Accepted, Refused}
use Rattle.card.specs.Represents.{Decodes, answer_of, task_beside, refusal_number, task_of, Represented}

module _ (card : List ℕ) (d : Decoded) (decodes : Decodes card d) where
  pub refuses : (r : Refusal) → d.verdict ≡ Refused r → model.decode card ≡ refused (refusal_number r)
  unfolding answer_of
  refuses r verdict = sym decodes.answer ∙ ap (λ (v : Verdict). answer_of v d.task) verdict

  module _ (verdict : d.verdict ≡ Accepted) where
    pub accepts : model.decode card ≡ accepted (task_of d.task)
    unfolding answer_of
    accepts = sym decodes.answer ∙ ap (λ (v : Verdict). answer_of v d.task) verdict

    -- the task is kept with its blanks, and is one that a card can carry
    pub represented : Represented d.task (task_of d.task)
    unfolding task_beside
    represented = record {
      stands = decodes.kept ∙ ap task_beside accepts;
      checked = decode_checks card (task_of d.task) accepts;
    }
