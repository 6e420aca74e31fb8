-- What the parts of the writer's check answer: document 01's refusals in the code's terms.
use Rattle.std.specs.Prelude.{ℕ, List, Result, Ok, Err}
use Rattle.std.specs.Prelude.{Option as Maybe, None, Some}
use Rattle.std.proofs.Math.Option.{Option, none, some}
use Rattle.model.specs.Answer.{Answer, refused, accepted, ◌>>◌, need}
use Rattle.model.specs.Card as model
use Rattle.model.specs.Writer.{known, check_schemas, check_facts}
use Rattle.card.specs.Represents.{atom_of, schemas_of, facts_of, refusal_number}
use Rattle.card.specs.declared.Atom.{Atom}
use Rattle.card.specs.declared.SchemaList.{SchemaList}
use Rattle.card.specs.declared.FactList.{FactList}
use Rattle.card.specs.declared.Refusal.{Refusal}

unfoldable pub checked_says : Result (Unit {0}) Refusal → Answer (Unit {0})
checked_says (Ok passed) = accepted tt
checked_says (Err r) = refused (refusal_number r)

-- the atom before an atom, if there is one
unfoldable pub previous : List ℕ → Maybe Atom → Option model.Atom
previous arities None = none
previous arities (Some before) = some (atom_of arities before)

-- an atom is known, and stands above the one before it: refused by the two numbers given
unfoldable pub check_ordered : List ℕ → ℕ → ℕ → ℕ → Option model.Atom → model.Atom → Answer (Unit {0})
check_ordered arities bound unknown disorder before a = do
  need (known arities bound a) unknown
  need (model.above before a) disorder

-- what card order checks after the predicates: objects, schemas, facts
unfoldable pub check_rest : List ℕ → ℕ → SchemaList → FactList → Answer (Unit {0})
check_rest arities objects schemas facts = do
  need (model.between 1 64 objects) 3
  check_schemas arities (schemas_of arities schemas)
  check_facts arities objects (facts_of arities facts)
