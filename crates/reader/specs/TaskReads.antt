-- What the reads of a task's parts answer: of a schema, of the facts.
use Rattle.std.specs.Prelude.{ℕ, List, drop}
use Rattle.model.specs.Answer.{Answer}
use Rattle.model.specs.Card as model
use Rattle.card.specs.declared.Refusal.{Refusal}
use Rattle.card.specs.declared.Schema.{Schema}
use Rattle.card.specs.declared.FactList.{FactList}
use Rattle.card.specs.declared.Verdict.TheVariants.{Refused as NoTask}
use Rattle.card.specs.declared.Decoded.{Decoded}
use Rattle.card.specs.Represents.{schema_of, schema_for, blank_task}
use Rattle.reader_bytes.specs.Reads.{Read, Reads}
use Rattle.reader_lists.specs.ListReads.{FactsReads}

-- the code's whole answer where a schema is due
abbrev pub SchemaReads : List ℕ → List ℕ → Answer (model.Schema × List ℕ) → Read Schema → Type 0
SchemaReads arities card answer r = Reads (schema_of arities) schema_for card answer r

-- What the functions promise: the code's whole answer at a place on the card.
abbrev pub SchemaReadAt : List ℕ → model.Reader model.Schema → List ℕ → ℕ → Read Schema → Type 0
SchemaReadAt arities read card at r = SchemaReads arities card (read (drop at card)) r

abbrev pub FactsListReadAt : List ℕ → ℕ → List ℕ → ℕ → Read FactList → Type 0
FactsListReadAt arities objects card at r = FactsReads arities card (model.facts arities objects (drop at card)) r

-- a refused card
abbrev pub decoded_refused : Refusal → Decoded
decoded_refused r = record { verdict = NoTask r; task = blank_task }
