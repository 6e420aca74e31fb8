-- Asking: the changes of an action that may be applied, 20 from their number, and the call from its admission.
use Prim.Native.Nat.{ℕ, ◌+◌, ◌-◌, ◌≤◌, ◌<◌}
use native.Mathlib.Omega.{arith}
use mathlib.Core.Path.{◌≡◌, refl, sym, ap, ◌∙◌, subst}
use mathlib.Core.List.{List, map}
use lib.ListN.{length, length-map}
use Rattle.std.specs.Prelude.{Result, Ok, Err}
use borrow.Author.Tests.{le-leb, lt-leb}
use Rattle.laws.specs.Lists.{padded}
use Rattle.model.specs.Answer.{Answer, refused, accepted, ◌>>=◌, ◌>>◌, need}
use Rattle.model.specs.Card as model
use Rattle.model.specs.Strips.{State, Action, most_facts, fact_bytes, facts_in, successor, limited}
use Rattle.model.specs.Preview.{Preview, Asked, going, coming, preview, ask_of, ask}
use Rattle.model.proofs.Answers.{then_accepted, then_refused}
use Rattle.card.specs.Represents.{schema_of}
use Rattle.card.specs.declared.Schema.{Schema}
use Rattle.card.proofs.Entries.{entries_kept}
use Rattle.strips.specs.Admission.{Admissible, admission}
use Rattle.strips.specs.Answers.{press_number, applied_says}
use Rattle.strips.specs.declared.PressRefusal.{PressRefusal}
use Rattle.strips.specs.declared.PressRefusal.TheVariants.{StateFull}
use Rattle.strips.proofs.Admitting.{admission_first}
use Rattle.previews.specs.Represents.{rows_for, preview_of, changes_for}
use Rattle.previews.specs.Answers.{previewed_says, Asks}
use Rattle.previews.specs.Steps.{ask_admitted, Allowed}
use Rattle.previews.specs.declared.Rows.{Rows}
use Rattle.previews.specs.declared.Changes.{Changes}
use Rattle.previews.specs.declared.Foreseen.{Foreseen}
use Rattle.previews.proofs.RowLists.{rows_read}
use Rattle.previews.proofs.InOrder.{going_few, coming_few, size_next, gone_four, come_four}

-- 20 refuses, or not
pub limited_full : (next : State) → most_facts < length next → limited next ≡ refused 20
unfolding limited need ◌>>◌
limited_full next h = rw (lt-leb (length next) most_facts h) refl

pub limited_fits : (next : State) → length next ≤ most_facts → limited next ≡ accepted next
unfolding limited need ◌>>◌
limited_fits next h = rw (le-leb (length next) most_facts h) refl

-- An action that may be applied.
module _ {arities objects : List ℕ} {schema : Schema} {buffer : List ℕ} {count : ℕ} (allowed : Allowed arities objects schema buffer count) (number : ℕ) where
  abbrev state : State
  state = facts_in arities count buffer

  abbrev model_schema : model.Schema
  model_schema = schema_of arities schema

  abbrev next : State
  next = successor model_schema objects state

  abbrev pub foreseen : Preview
  foreseen = preview model_schema (record { schema = number; objects = objects }) state

  -- what the code keeps of its preview is read back
  pub preview_read : preview_of (changes_for foreseen) ≡ foreseen
  unfolding preview_of changes_for preview
  preview_read =
      λ i. record {
        action = record { schema = number; objects = entries_kept 6 (length objects) 0 objects refl i };
        gone = rows_read (map fact_bytes (going model_schema objects state)) (gone_four allowed) i;
        come = rows_read (map fact_bytes (coming model_schema objects state)) (come_four allowed) i;
      }

  -- the changes from their parts
  pub changes_made : {front : List ℕ} {gone come : Rows} → front ≡ padded 6 0 objects
      → gone ≡ rows_for (map fact_bytes (going model_schema objects state)) → come ≡ rows_for (map fact_bytes (coming model_schema objects state))
      → record { schema = number; object_count = length objects; objects = front; gone = gone; come = come } ≡ changes_for foreseen
  unfolding changes_for preview
  changes_made p q r = λ i. record { schema = number; object_count = length objects; objects = p i; gone = q i; come = r i }

  module _ {changes : Changes} (made : changes ≡ changes_for foreseen) where
    gone_counted : changes.gone.count ≡ length (going model_schema objects state)
    unfolding changes_for preview rows_for
    gone_counted = ap (λ (c : Changes). c.gone.count) made ∙ length-map (going model_schema objects state) fact_bytes

    come_counted : changes.come.count ≡ length (coming model_schema objects state)
    unfolding changes_for preview rows_for
    come_counted = ap (λ (c : Changes). c.come.count) made ∙ length-map (coming model_schema objects state) fact_bytes

    -- there are no more than eight of either
    pub gone_few : changes.gone.count ≤ 8
    gone_few = let counted = gone_counted in let few = going_few allowed in omega arith

    pub come_few : changes.come.count ≤ 8
    come_few = let counted = come_counted in let few = coming_few allowed in omega arith

    -- what goes was there, so that the number of facts after the action is known
    pub room_made_lem : changes.gone.count ≤ count + changes.come.count
    room_made_lem = let gone = gone_counted in let come = come_counted in let size = size_next allowed in omega arith

    next_counted : count + changes.come.count - changes.gone.count ≡ length next
    next_counted = let gone = gone_counted in let come = come_counted in let size = size_next allowed in omega arith

    abbrev asking : Answer Asked
    asking = ask_admitted model_schema (record { schema = number; objects = objects }) state

    -- 20
    pub asked_full : most_facts < count + changes.come.count - changes.gone.count → Asks asking (Err StateFull)
    unfolding ask_admitted previewed_says applied_says press_number ◌>>=◌
    asked_full h =
        let full : most_facts < length next = (let counted = next_counted in omega arith) in
        rw (limited_full next full) (record { answers = refl; whole = tt })

    -- or the count and the preview
    pub asked_fits : count + changes.come.count - changes.gone.count ≤ most_facts
        → Asks asking (Ok (record { count = count + changes.come.count - changes.gone.count; changes = changes }))
    unfolding ask_admitted previewed_says applied_says ◌>>=◌
    asked_fits h =
        let few : length next ≤ most_facts = (let counted = next_counted in omega arith) in
        rw (limited_fits next few)
        (record {
          answers = λ i. accepted (record { count = next_counted i; foreseen = (ap preview_of made ∙ preview_read) i });
          whole = made ∙ ap changes_for (sym (ap preview_of made ∙ preview_read));
        })

-- Asking, from what may be applied.
module _ (card buffer : List ℕ) (count : ℕ) (action : Action) where
  asking_on : List ℕ → model.Schema → State → Answer Asked
  asking_on arities schema next = accepted (record { count = length next; foreseen = preview schema action (facts_in arities count buffer) })

  pub asked_refused : (e : PressRefusal) → admission card buffer count action ≡ refused (press_number e) → Asks (ask card buffer count action) (Err e)
  unfolding ask ask_of asking_on previewed_says applied_says ◌>>=◌
  asked_refused e is =
      subst (λ (a : Answer Asked). Asks a (Err e)) (sym (admission_first card buffer count action asking_on ∙ then_refused _ is))
      (record { answers = refl; whole = tt })

  pub asked_granted : {r : Result Foreseen PressRefusal} {s : Admissible} → admission card buffer count action ≡ accepted s
      → Asks (ask_admitted s.schema action (facts_in s.arities count buffer)) r → Asks (ask card buffer count action) r
  unfolding ask ask_of asking_on ask_admitted
  asked_granted {r} e asks =
      subst (λ (a : Answer Asked). Asks a r) (sym (admission_first card buffer count action asking_on ∙ then_accepted _ e)) asks
