-- A task whose tables are filled, and what is known of it beside them.
use Rattle.std.specs.Prelude.{ℕ, ◌+◌, ◌*◌, ◌≤◌, ◌≡◌, List, length}
use Rattle.laws.specs.Lists.{padded}
use Rattle.model.specs.Answer.{accepted}
use Rattle.model.specs.Card.{Task}
use Rattle.model.specs.Writer.{check_task}
use Rattle.model.specs.Transitions.{properties}
use Rattle.properties.specs.Tables.{stride, rows_before}
use Rattle.properties.specs.Represented.{object_bags, property_arities}
use Rattle.properties.specs.Parameters.{parameters_in, RoomForBags, ParameterTables}
use Rattle.spaces.specs.SpaceTable.{SpacesOf}
use Rattle.prepared.specs.declared.Prepared.{Prepared}

-- as many rows as the tables of a task's parameters, or of the moves of one of its spaces, take at most
unfoldable pub rows_at_most : Task → ℕ
rows_at_most t = parameters_in t.schemas + length (properties t)

-- Tables that are lent for the analysis of spaces have room for so many moves, and for 64 conditions.
pub record RoomForMoves (rows : ℕ) (starts finishes conditions : List ℕ) : Type 0 where
  pub starts_room : stride * rows ≤ length starts
  pub finishes_room : stride * rows ≤ length finishes
  pub conditions_room : length conditions ≡ 3840

-- The answer of `prepare` for a task, and every number of the four tables, before and after.
pub record PreparedOf (t : Task) (r : Prepared) (preconditions deletes adds counts p d a c : List ℕ) : Type 0 where
  pub tables : ParameterTables (properties t) t.schemas r.parameters preconditions deletes adds p d a
  pub counts_are : c ≡ rows_before (object_bags t) counts
  pub properties_counted : r.properties ≡ length (properties t)
  pub arities_are : r.arities ≡ padded 60 0 (property_arities t.arities)
  pub spaces_are : SpacesOf t r.spaces

-- Tables that `prepare` has filled for a checked task; the table of the objects' bags has 64 rows.
pub record Given (t : Task) (r : Prepared) (p d a c : List ℕ) : Type 0 where
  pub checked : check_task t ≡ accepted tt
  pub preconditions : List ℕ
  pub deletes : List ℕ
  pub adds : List ℕ
  pub counts : List ℕ
  pub prepared : PreparedOf t r preconditions deletes adds counts p d a c
  pub room : RoomForBags r.parameters p d a
  pub counts_long : 3840 ≤ length c
