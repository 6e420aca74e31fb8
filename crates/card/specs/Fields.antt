-- The three lists of a schema: what each asks of its atoms beside the schema's preconditions, and how it refuses one that fails.
use Rattle.std.specs.Prelude.{Bool, true, not, List}
use Rattle.model.specs.Card as model
use Rattle.card.specs.declared.ListField.{ListField}
use Rattle.card.specs.declared.ListField.TheVariants.{Preconditions, Deletes, Adds}
use Rattle.card.specs.declared.Refusal.{Refusal}
use Rattle.card.specs.declared.Refusal.TheVariants.{AtomOrder, DeleteNotPrecondition, AddIsPrecondition}

-- a deleted atom is a precondition, an added one is none
unfoldable pub field_test : ListField → List model.Atom → model.Atom → Bool
field_test Preconditions preconditions = λ a. true
field_test Deletes preconditions = model.has preconditions
field_test Adds preconditions = λ a. not (model.has preconditions a)

-- no precondition fails its test, so that its refusal is never given
abbrev pub field_refusal : ListField → Refusal
field_refusal Preconditions = AtomOrder
field_refusal Deletes = DeleteNotPrecondition
field_refusal Adds = AddIsPrecondition
