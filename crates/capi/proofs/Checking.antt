-- What the calls on a card alone answer, from what the card reader does.
use Prim.Native.Nat.{ℕ}
use mathlib.Core.Path.{◌≡◌, sym, ap}
use mathlib.Core.List.{List}
use lib.IntN.{pos}
use Rattle.model.specs.Answer.{refused, accepted}
use Rattle.model.specs.Card as model
use Rattle.model.specs.Calls.{encode}
use Rattle.model.proofs.Answers.{then_accepted, then_refused}
use Rattle.card.specs.Represents.{task_of, Decodes, refusal_number}
use Rattle.card.specs.declared.Decoded.{Decoded}
use Rattle.card.specs.declared.Refusal.{Refusal}
use Rattle.card.specs.declared.Verdict.TheVariants.{Accepted, Refused}
use Rattle.card.proofs.Deciding.{refuses, accepts}
use Rattle.capi.specs.Numbers.{signed, checks, rewritten, rewrites}

module _ (card : List ℕ) (d : Decoded) (decodes : Decodes card d) where
  module _ (r : Refusal) (verdict : d.verdict ≡ Refused r) where
    pub checks_refused : checks card ≡ refused (refusal_number r)
    unfolding checks
    checks_refused = then_refused _ (refuses card d decodes r verdict)

    pub rewrites_refused : (out : List ℕ) → rewrites card out ≡ record { answer = refused (refusal_number r); buffer = out }
    unfolding rewrites rewritten
    rewrites_refused out = ap (rewritten out) (refuses card d decodes r verdict)

  module _ (verdict : d.verdict ≡ Accepted) where
    pub checks_accepted : pos 0 ≡ signed (checks card)
    unfolding checks signed
    checks_accepted = ap signed (sym (then_accepted {x = model.decode card} (λ t. accepted 0) (accepts card d decodes verdict)))

    pub rewrites_accepted : (out : List ℕ) → rewrites card out ≡ encode (task_of d.task) out
    unfolding rewrites rewritten
    rewrites_accepted out = ap (rewritten out) (accepts card d decodes verdict)
