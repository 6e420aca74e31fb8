-- A card read part by part: the predicates, the objects, the schemas, the facts, and nothing after them.
use Prim.Native.Nat.{ℕ, ◌≤◌, ◌<◌}
use native.Mathlib.Omega.{arith}
use mathlib.Core.Bool.{true, false}
use mathlib.Core.List.{List}
use mathlib.Core.Option.{none}
use mathlib.Core.Path.{◌≡◌, refl, ap, ◌∙◌, sym, subst⁻¹}
use lib.ListN.{length, take, drop, length-append, drop_of_length-le}
use lib.Seq.{drop-cons}
use Rattle.laws.specs.Lists.{padded}
use Rattle.model.specs.Answer.{Answer, refused, accepted}
use Rattle.model.specs.Card as model
use Rattle.card.specs.declared.ArityList.{ArityList}
use Rattle.card.specs.declared.SchemaList.{SchemaList}
use Rattle.card.specs.declared.FactList.{FactList}
use Rattle.card.specs.declared.Refusal.{Refusal}
use Rattle.card.specs.declared.Task.{Task}
use Rattle.card.specs.declared.Decoded.{Decoded}
use Rattle.card.specs.declared.Verdict.TheVariants.{Accepted}
use Rattle.card.specs.Represents.{refusal_number, arities_of, arities_for, schemas_of, schemas_for, facts_of, facts_for}
use Rattle.card.specs.Represents.{task_of, task_for, answer_of, task_beside, Decodes}
use Rattle.card.proofs.Entries.{arities_within}
use Rattle.model.proofs.Answers.{need_both}
use Rattle.reader_bytes.proofs.Answers.{goes, halts, fails, differ, byte_that_held}
use Rattle.reader_atoms.proofs.Many.{many_all}
use Rattle.reader.specs.TaskReads.{decoded_refused}

module _ (card : List ℕ) where
  -- the predicates are refused
  pub no_predicates : {k : ℕ} → model.predicates card ≡ refused k → model.decode card ≡ refused k
  unfolding model.decode
  no_predicates e = halts _ e

  module _ {arities : List ℕ} {s₁ : List ℕ} (p : model.predicates card ≡ accepted (arities, s₁)) where
    -- the number of objects is refused
    pub no_objects : {k : ℕ} → model.byte_that (model.between 1 64) 3 s₁ ≡ refused k → model.decode card ≡ refused k
    unfolding model.decode
    no_objects e = goes _ p ∙ halts _ e

    module _ {objects : ℕ} {s₂ : List ℕ} (o : model.byte_that (model.between 1 64) 3 s₁ ≡ accepted (objects, s₂)) where
      -- the schemas are refused
      pub no_schemas : {k : ℕ} → model.schemas arities s₂ ≡ refused k → model.decode card ≡ refused k
      unfolding model.decode
      no_schemas e = goes _ p ∙ goes _ o ∙ halts _ e

      module _ {ss : List model.Schema} {s₃ : List ℕ} (q : model.schemas arities s₂ ≡ accepted (ss, s₃)) where
        -- the facts are refused
        pub no_facts : {k : ℕ} → model.facts arities objects s₃ ≡ refused k → model.decode card ≡ refused k
        unfolding model.decode
        no_facts e = goes _ p ∙ goes _ o ∙ goes _ q ∙ halts _ e

        module _ {fs : List model.Atom} {s₄ : List ℕ} (f : model.facts arities objects s₃ ≡ accepted (fs, s₄)) where
          -- 14: bytes follow
          pub more_bytes : model.is_end s₄ ≡ false → model.decode card ≡ refused 14
          unfolding model.decode
          more_bytes e = goes _ p ∙ goes _ o ∙ goes _ q ∙ goes _ f ∙ fails _ _ e

          -- all is read
          pub whole_card : model.is_end s₄ ≡ true
              → model.decode card ≡ accepted (record { arities = arities; objects = objects; schemas = ss; facts = fs })
          unfolding model.decode
          whole_card e = goes _ p ∙ goes _ o ∙ goes _ q ∙ goes _ f ∙ need_both _ _ e

-- the card goes on at a place, or ends there
pub goes_on : (card : List ℕ) (at : ℕ) → at < length card → model.is_end (drop at card) ≡ false
unfolding model.is_end
goes_on card at h = rw (drop-cons card at 0 h)

pub is_over : (card : List ℕ) (at : ℕ) → length card ≤ at → model.is_end (drop at card) ≡ true
unfolding model.is_end
is_over card at h = rw (drop_of_length-le card h)

-- arities that were read are in range
pub arities_in_range : (s : List ℕ) {arities : List ℕ} {rest : List ℕ} → model.predicates s ≡ accepted (arities, rest) → model.in_range arities ≡ true
unfolding model.predicates model.in_range
arities_in_range s {arities} {rest} e = counted (model.byte_that (model.between 1 20) 2 s) refl
  where
    counted : (r : Answer (ℕ × List ℕ)) → model.byte_that (model.between 1 20) 2 s ≡ r → model.in_range arities ≡ true
    counted (refused k) f = absurd (differ (sym (halts _ f) ∙ e))
    counted (accepted (n, s₁)) f =
        many_all (model.between 1 3) (λ previous. model.byte_that (model.between 1 3) 2) (λ previous s x rest. byte_that_held (model.between 1 3) 2 s)
        none n s₁ (sym (goes _ f) ∙ e)

-- the arities lie within their array
pub arities_room : {l : ArityList} → l ≡ arities_for (arities_of l) → l.count ≤ length l.arities
unfolding arities_for padded
arities_room {l} e =
    let count : l.count ≡ length (arities_of l) = ap (λ l. l.count) e in
    let size = ap (λ l. length l.arities) e ∙ length-append (arities_of l) _ in
    omega arith

-- the part of the array that is lent has the arities
pub lent_arities : {l : ArityList} → l ≡ arities_for (arities_of l) → arities_of l ≡ take l.count l.arities
lent_arities {l} kept = arities_within l (arities_room kept)

-- a task is kept as its parts are
pub task_kept : {l : ArityList} (objects : ℕ) {sl : SchemaList} {fl : FactList} → l ≡ arities_for (arities_of l)
    → sl ≡ schemas_for (schemas_of (arities_of l) sl) → fl ≡ facts_for (facts_of (arities_of l) fl)
    → ◌≡◌ {A = Task} (record { predicates = l; objects = objects; schemas = sl; facts = fl })
    (task_for (task_of (record { predicates = l; objects = objects; schemas = sl; facts = fl })))
unfolding task_for task_of
task_kept objects p s f = λ i. record { predicates = p i; objects = objects; schemas = s i; facts = f i }

-- the code's answer to a refused card
pub decodes_refused : {card : List ℕ} {d : Decoded} {k : Refusal} → d ≡ decoded_refused k
    → model.decode card ≡ refused (refusal_number k) → Decodes card d
unfolding answer_of task_beside
decodes_refused {card} e a =
    subst⁻¹ (λ d. Decodes card d) e (record { answer = sym a; kept = sym (ap task_beside a) })

-- .. and to an accepted one
pub decodes_accepted : {card : List ℕ} {t : Task} → model.decode card ≡ accepted (task_of t) → t ≡ task_for (task_of t)
    → Decodes card (record { verdict = Accepted; task = t })
unfolding answer_of task_beside
decodes_accepted a k = record { answer = sym a; kept = k ∙ sym (ap task_beside a) }
