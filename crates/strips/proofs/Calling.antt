-- A call, from what the card reader answers: a refusal is handed through, and an accepted card's task goes on.
use Prim.Native.Nat.{ℕ}
use mathlib.Core.Path.{◌≡◌, refl, sym, ap, subst}
use mathlib.Core.List.{List}
use Rattle.std.specs.Prelude.{Result, Err}
use Rattle.model.specs.Answer.{Answer, ◌>>=◌}
use Rattle.model.specs.Card as model
use Rattle.model.specs.Calls.{Call, finish}
use Rattle.card.specs.Represents.{Decodes, task_of}
use Rattle.card.specs.declared.Decoded.{Decoded}
use Rattle.card.specs.declared.Refusal.{Refusal}
use Rattle.card.specs.declared.Verdict.TheVariants.{Accepted, Refused}
use Rattle.card.proofs.Deciding.{refuses, accepts}
use Rattle.strips.specs.Answers.{press_number, applied_says, Matches}
use Rattle.strips.specs.declared.PressRefusal.{PressRefusal}
use Rattle.strips.specs.declared.PressRefusal.TheVariants.{Card}

-- `next` is what follows the card reader
module _ {card : List ℕ} {d : Decoded} (decodes : Decodes card d) (buffer : List ℕ) (next : model.Task → Answer Call) where
  -- what the card reader's answer comes to
  abbrev follows : Answer model.Task → Call
  follows answer = finish buffer (answer >>= next)

  pub card_refused : {r : Refusal} {e : PressRefusal} → d.verdict ≡ Refused r → e ≡ Card r → Matches (follows (model.decode card)) buffer (Err e)
  unfolding ◌>>=◌ finish applied_says press_number
  card_refused {r} {e} verdict is =
      subst (λ (call : Call). Matches call buffer (Err e)) (sym (ap follows (refuses card d decodes r verdict)))
      (rw is (record { answer = refl; buffer = refl }))

  pub card_accepted :
      {after : List ℕ} {r : Result ℕ PressRefusal} → d.verdict ≡ Accepted → Matches (finish buffer (next (task_of d.task))) after r
      → Matches (follows (model.decode card)) after r
  unfolding ◌>>=◌
  card_accepted {after} {r} verdict matches =
      subst (λ (call : Call). Matches call after r) (sym (ap follows (accepts card d decodes verdict))) matches
