-- What printing a card leaves in the buffer, by the verdict on the card.
use Prim.Native.Nat.{ℕ}
use native.Mathlib.Omega.{arith}
use mathlib.Core.Path.{◌≡◌, sym, ap, ◌∙◌}
use mathlib.Core.List.{List}
use lib.ListN.{length, take}
use lib.Seq.{take_all}
use Rattle.std.specs.Prelude.{Result, Ok, Err}
use Rattle.model.specs.Answer.{Answer}
use Rattle.model.specs.Card.{Task, decode}
use Rattle.model.specs.Lines.{Line, sections}
use Rattle.card.specs.declared.Decoded.{Decoded}
use Rattle.card.specs.declared.Refusal.{Refusal}
use Rattle.card.specs.declared.Verdict.TheVariants.{Accepted, Refused}
use Rattle.card.specs.Represents.{Decodes, task_of}
use Rattle.card.proofs.Deciding.{refuses, accepts}
use Rattle.printer.specs.declared.printing.Stopped.{Stopped}
use Rattle.printer.specs.Leaves.{in_turn, left_by_printing, left_by_sections, sections_made, Prints}

module _ (card : List ℕ) (d : Decoded) (decodes : Decodes card d) (out : List ℕ) where
  -- a refused card leaves the buffer as it was
  pub refused_prints : (r : Result (Unit {0}) Stopped) (refusal : Refusal) → d.verdict ≡ Refused refusal → Prints (decode card) r out out
  unfolding left_by_printing left_by_sections
  refused_prints (Ok u) refusal verdict =
      sym (ap (λ (a : Answer Task). left_by_printing a out) (refuses card d decodes refusal verdict))
  refused_prints (Err r) refusal verdict =
      sym (ap (λ (a : Answer Task). left_by_sections r.sections a out) (refuses card d decodes refusal verdict))

  -- the sections of the task beside the verdict are those of an accepted card
  pub accepted_prints : (r : Result (Unit {0}) Stopped) {out' : List ℕ} → d.verdict ≡ Accepted
      → out' ≡ in_turn (take (sections_made (sections (task_of d.task)) r) (sections (task_of d.task))) out → Prints (decode card) r out out'
  unfolding left_by_printing left_by_sections
  accepted_prints (Ok u) verdict written =
      let all = sections (task_of d.task) in
      written
      ∙ ap (λ (some : List (List Line)). in_turn some out) (take_all (length all) all (omega arith))
      ∙ sym (ap (λ (a : Answer Task). left_by_printing a out) (accepts card d decodes verdict))
  accepted_prints (Err r) verdict written =
      written ∙ sym (ap (λ (a : Answer Task). left_by_sections r.sections a out) (accepts card d decodes verdict))
