-- A table that the bags P of a task's parameters were written to begins with them.
use Prim.Native.Nat.{ℕ, ◌*◌, ◌≤◌}
use mathlib.Core.Path.{◌≡◌, sym, ◌∙◌}
use mathlib.Core.List.{List}
use lib.ListN.{length}
use Rattle.model.specs.Card.{Task}
use Rattle.model.specs.Transitions.{properties}
use Rattle.properties.specs.Parameters.{parameters_in, parameter_bags, ParameterTables}
use Rattle.properties.specs.Tables.{stride, bags_in}
use Rattle.properties.proofs.ParameterRows.{length_bags, bags_sized}
use Rattle.properties.proofs.RowTables.{Sized, rows_before_back}
use Rattle.closing.specs.Typing.{PreconditionRows}

module _ (t : Task) (narrow : length (properties t) ≤ stride) {count : ℕ} {preconditions deletes adds p d a : List ℕ}
    (written : ParameterTables (properties t) t.schemas count preconditions deletes adds p d a)
    (room : stride * parameters_in t.schemas ≤ length p) where
  sized : Sized (length (properties t)) (parameter_bags (properties t) (λ s. s.preconditions) t.schemas)
  sized = bags_sized (properties t) (λ s. s.preconditions) t.schemas

  many : length (parameter_bags (properties t) (λ s. s.preconditions) t.schemas) ≡ parameters_in t.schemas
  many = length_bags (properties t) (λ s. s.preconditions) t.schemas

  pub preconditions_held : PreconditionRows t p
  preconditions_held =
      let bags = parameter_bags (properties t) (λ s. s.preconditions) t.schemas in
      record {
        rows_there = room;
        rows_are =
            (λ i. bags_in (length (properties t)) (sym many i) (written.preconditions_are i))
            ∙ rows_before_back (length (properties t)) narrow bags sized preconditions;
      }
