-- The tables that are lent for a task: filled they are given to what follows, and cleared they have room for it.
use Prim.Native.Nat.{ℕ, ◌*◌, ◌≤◌, ◌<◌}
use native.Mathlib.Omega.{arith}
use mathlib.Core.Path.{◌≡◌, refl, sym}
use mathlib.Core.List.{List}
use lib.ListN.{length}
use Rattle.model.specs.Answer.{accepted}
use Rattle.model.specs.Card.{Task}
use Rattle.model.specs.Writer.{check_task}
use Rattle.model.proofs.RuleCount.{properties_few}
use Rattle.card.specs.declared.Task as code
use Rattle.card.specs.Represents.{arities_of, schemas_of, task_of, Represented}
use Rattle.properties.specs.Represented.{AritiesRight, SchemasSmall}
use Rattle.properties.specs.Parameters.{parameters_in, RoomForBags}
use Rattle.properties.specs.Tables.{stride}
use Rattle.properties.proofs.TaskParts.{arities_right, schemas_right}
use Rattle.properties.proofs.SchemaLists.{right_small}
use Rattle.properties.proofs.ParameterRows.{rows_few}
use Rattle.prepared.specs.declared.Prepared.{Prepared}
use Rattle.prepared.specs.Prepared.{rows_at_most, RoomForMoves, PreparedOf, Given}
use Rattle.prepared.specs.Found.{SpaceReady}
use Rattle.prepared.proofs.Cleared.{cleared, cleared_length, cleared_long, cleared_room}

-- tables with room that were filled, and kept their lengths
pub given_filled : {t : Task} {r : Prepared} {preconditions deletes adds counts p d a c : List ℕ} → check_task t ≡ accepted tt
    → RoomForBags (parameters_in t.schemas) preconditions deletes adds → 3840 ≤ length counts
    → PreparedOf t r preconditions deletes adds counts p d a c
    → (length p ≡ length preconditions) × ((length d ≡ length deletes) × ((length a ≡ length adds) × (length c ≡ length counts)))
    → Given t r p d a c
given_filled {preconditions = preconditions} {deletes} {adds} {counts} ok room long filled kept = record {
  checked = ok;
  preconditions = preconditions;
  deletes = deletes;
  adds = adds;
  counts = counts;
  prepared = filled;
  room =
      record {
        preconditions_room = omega (arith, room.preconditions_room, filled.tables.counted, kept.0);
        deletes_room = omega (arith, room.deletes_room, filled.tables.counted, kept.1.0);
        adds_room = omega (arith, room.adds_room, filled.tables.counted, kept.1.1.0);
      };
  counts_long = omega (arith, long, kept.1.1.1);
}

-- any of its spaces can be analysed then
pub analysable_given : {t : Task} {r : Prepared} {p d a c starts finishes conditions : List ℕ} {number : ℕ} → Given t r p d a c
    → RoomForMoves (rows_at_most t) starts finishes conditions → number < r.spaces.count
    → SpaceReady number r d a c starts finishes conditions
unfolding rows_at_most
analysable_given {t} {p = p} given room known = record {
  task = t;
  preconditions = p;
  given = given;
  known = known;
  starts_long = omega (arith, room.starts_room, given.prepared.tables.counted, given.prepared.properties_counted);
  finishes_long = omega (arith, room.finishes_room, given.prepared.tables.counted, given.prepared.properties_counted);
  conditions_long = room.conditions_room;
}

-- what counting the rows of a task asks, and what it says
module _ (task : code.Task) where
  pub rows_asked : Represented task (task_of task) → AritiesRight task.predicates × SchemasSmall task.schemas
  rows_asked r = (arities_right task r, right_small (schemas_right task r))

  pub rows_counted : {rows : ℕ}
      → ((t : Task) → t.arities ≡ arities_of task.predicates → t.schemas ≡ schemas_of (arities_of task.predicates) task.schemas
      → rows ≡ rows_at_most t)
      → rows ≡ rows_at_most (task_of task)
  unfolding task_of
  rows_counted counted = counted (task_of task) refl refl

-- how many parameters and rows a task has
pub parameters_fewer : (t : Task) → parameters_in t.schemas ≤ rows_at_most t
unfolding rows_at_most
parameters_fewer t = omega arith

pub rows_most : (t : Task) → check_task t ≡ accepted tt → rows_at_most t ≤ 252
unfolding rows_at_most
rows_most t ok = omega (arith, rows_few t ok, properties_few t ok)

-- room in tables made for so many rows of parameters, and of moves
pub cleared_tables : (bags moves : ℕ) {parameters rows : ℕ} → stride * parameters ≤ bags → stride * rows ≤ moves
    → RoomForBags parameters (cleared bags) (cleared bags) (cleared bags)
    × ((3840 ≤ length (cleared 3840)) × RoomForMoves rows (cleared moves) (cleared moves) (cleared 3840))
cleared_tables bags moves {rows = rows} fits room =
    let long = cleared_long moves (stride * rows) room in (
      cleared_room bags fits,
      (
        cleared_long 3840 3840 (omega arith),
        record { starts_room = long; finishes_room = long; conditions_room = sym (cleared_length 3840) },
      ),
    )
