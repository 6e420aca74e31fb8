-- The whole call: a table that passed its check fits, and what the writer answers and leaves is what document 01's writer does.
use Prim.Native.Nat.{ℕ, ◌≤◌, ◌<◌}
use native.Mathlib.Nat.{zero-add}
use mathlib.Core.Path.{◌≡◌, refl, ap, ◌∙◌}
use mathlib.Core.Bool.{true}
use mathlib.Core.Option.{Option, none, some}
use mathlib.Core.List.{List, [], ◌∷◌, ◌++◌, map}
use lib.ListN.{length, drop}
use borrow.Author.Tests.{leb-true, le-leb, lt-leb}
use Rattle.laws.specs.Lists.{all}
use Rattle.laws.proofs.Tests.{and_intro}
use Rattle.model.specs.Answer.{Answer, refused, accepted, ◌>>◌, need}
use Rattle.model.specs.Card as model
use Rattle.model.specs.Writer.{each, check_schema, check_task, task_bytes}
use Rattle.model.specs.Calls.{output_bytes, finish, output, encode}
use Rattle.card.specs.Represents.{schema_of, arities_of, schemas_of, facts_of, task_of}
use Rattle.card.specs.declared.Refusal.{Refusal}
use Rattle.card.specs.declared.Schema.{Schema}
use Rattle.card.specs.declared.Task.{Task}
use Rattle.writer_checks.specs.Checking.{checked_says}
use Rattle.writer.specs.Answers.{writing_says, Encodes}
use Rattle.writer.specs.Bytes.{card_room, WritesAt, schema_fits, Fits}
use Rattle.std.proofs.Common.{Ok, Err, sym}
use Rattle.writer.specs.declared.WriterRefusal.TheVariants.{Table, OutputShort}
use Rattle.card.proofs.Entries.{length_arities, length_schemas, length_facts}
use Rattle.model.proofs.CheckParts.{between_parts, schema_parts, task_parts}
use Rattle.writer_checks.proofs.Sequence.{then_left}
use Rattle.writer_checks.proofs.SchemaLaws.{passed_list}

-- what passed in sequence: the rest
then_right : (x y : Answer (Unit {0})) → x >> y ≡ accepted tt → y ≡ accepted tt
unfolding ◌>>◌
then_right (refused n) y e = cc
then_right (accepted done) y e = e

-- a schema that passed fits
passed_schema : (arities : List ℕ) (s : Schema) → check_schema arities (schema_of arities s) ≡ accepted tt → schema_fits s ≡ true
unfolding schema_of schema_fits
passed_schema arities s e =
    let c = schema_parts arities (schema_of arities s) e in
    and_intro _ _
    (and_intro _ _
    (and_intro _ _ (le-leb s.parameters 6 (between_parts 1 6 s.parameters c.parameters).1)
    (le-leb s.preconditions.count 8 (passed_list _ arities s.preconditions c.preconditions)))
    (le-leb s.deletes.count 8 (passed_list _ arities s.deletes c.deletes)))
    (le-leb s.adds.count 8 (passed_list _ arities s.adds c.adds))

passed_schemas : (arities : List ℕ) (p : Option model.Schema) (xs : List Schema)
    → each (λ before. check_schema arities) p (map (schema_of arities) xs) ≡ accepted tt → all schema_fits xs ≡ true
unfolding each all
passed_schemas arities p [] e = refl
passed_schemas arities p (s ∷ xs) e =
    and_intro (schema_fits s) (all schema_fits xs)
    (passed_schema arities s (then_left (check_schema arities (schema_of arities s)) _ e))
    (passed_schemas arities (some (schema_of arities s)) xs (then_right (check_schema arities (schema_of arities s)) _ e))

-- a table that passed fits
passed_task : (t : Task) → check_task (task_of t) ≡ accepted tt → Fits t
unfolding task_of schemas_of
passed_task t e =
    let arities : List ℕ = arities_of t.predicates in
    let schemas : List model.Schema = schemas_of arities t.schemas in
    let facts : List model.Atom = facts_of arities t.facts in
    let c = task_parts (task_of t) e in
    record {
      predicates = rw (length_arities t.predicates) at (between_parts 1 20 (length arities) c.predicates).1;
      objects = (between_parts 1 64 t.objects c.objects).1;
      schemas = rw length_schemas at (leb-true (length schemas) 32 c.few_schemas);
      lists = passed_schemas arities none _ c.schemas;
      facts = rw length_facts at (leb-true (length facts) 512 c.few_facts);
    }

module _ (t : Task) where
  pub checked_fits : (done : Unit {0}) → checked_says (Ok done) ≡ check_task (task_of t) → Fits t
  unfolding checked_says
  checked_fits done says = passed_task t (sym says)

  -- the three answers of the call
  module _ (out : List ℕ) where
    pub encode_refused : (r : Refusal) → checked_says (Err r) ≡ check_task (task_of t) → Encodes t out out (Err (Table r))
    unfolding encode finish writing_says checked_says ◌>>◌
    encode_refused r says = record { answer = rw (← says); buffer = rw (← says) }

    module _ (done : Unit {0}) (says : checked_says (Ok done) ≡ check_task (task_of t)) where
      pub encode_short : length out < output_bytes → Encodes t out out (Err OutputShort)
      unfolding encode finish writing_says checked_says ◌>>◌ need
      encode_short h = record { answer = rw (← says, lt-leb output_bytes (length out) h); buffer = rw (← says, lt-leb output_bytes (length out) h) }

      pub encode_written : output_bytes ≤ length out → (after : List ℕ) (n : ℕ)
          → WritesAt card_room 0 (task_bytes (task_of t)) out after n → Encodes t out after (Ok n)
      unfolding encode finish output writing_says checked_says ◌>>◌ need
      encode_written h after n w =
          let bytes = task_bytes (task_of t) in
          record {
            answer = rw (← says, le-leb output_bytes (length out) h) (ap accepted (w.place ∙ zero-add _));
            buffer = rw (← says, le-leb output_bytes (length out) h) (w.stands ∙ ap (λ (k : ℕ). bytes ++ drop k out) (zero-add (length bytes)));
          }
