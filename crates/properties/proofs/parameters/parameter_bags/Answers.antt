-- The bags of all parameters, schema by schema.
use Rattle.std.proofs.Common.{ℕ, ◌≡◌, ◌+◌, ◌*◌, ◌≤◌, ◌<◌, List, length, get_or, arith, sym, ap, ◌∙◌, subst}
use Rattle.model.specs.Card as model
use Rattle.model.specs.Transitions.{properties_from}
use Rattle.card.specs.declared.ArityList.{ArityList}
use Rattle.card.specs.declared.SchemaList.{SchemaList}
use Rattle.card.specs.declared.Schema.{Schema}
use Rattle.card.specs.Represents.{arities_of, schema_of, schemas_of}
use Rattle.card.proofs.Entries.{no_schema, length_schemas}
use Rattle.properties.specs.Represented.{AritiesRight, SchemasRight}
use Rattle.properties.specs.Parameters.{parameters_in}
use Rattle.properties.proofs.Predicates.{few_properties}
use Rattle.properties.proofs.SchemaLists.{schema_read, small_few, right_small}
use Rattle.properties.proofs.ParameterRows.{sizes_of, length_sizes, sizes_long, size_at, as_schema}
use Rattle.properties.proofs.ParameterRows.{Counted, count_start, count_next, count_within, count_end}
use Rattle.properties.proofs.ParameterRows.{BagsGiven, BagsPassed, bags_start, bags_room, bags_next, bags_end}
use Rattle.properties.proofs.parameters.parameter_bags.Goals as goal

-- the schemas before which a turn stands
abbrev those : ArityList → SchemaList → List model.Schema
those predicates schemas = schemas_of (arities_of predicates) schemas

-- what the loop is given for a table
given : (predicates : ArityList) (schemas : SchemaList) (list : model.Schema → List model.Atom) (before : List ℕ) → AritiesRight predicates
    → 60 * parameters_in (those predicates schemas) ≤ length before
    → BagsGiven (those predicates schemas) (properties_from 0 (arities_of predicates)) list before
given predicates schemas list before right room = record { few = few_properties predicates right; room = room }

-- the schema that a turn takes, of the code and of the model
module _ (predicates : ArityList) (schemas : SchemaList) (i : ℕ) (more : i < schemas.count) where
  abbrev taken : Schema
  taken = get_or schemas.schemas i no_schema

  abbrev blank : model.Schema
  blank = schema_of (arities_of predicates) no_schema

  here : i < length (those predicates schemas)
  here = omega (arith, length_schemas (arities_of predicates) schemas)

  same : get_or (those predicates schemas) i blank ≡ schema_of (arities_of predicates) taken
  same = schema_read (arities_of predicates) schemas more

  -- its parameters
  size_is : taken.parameters ≡ get_or (sizes_of (those predicates schemas)) i 0
  unfolding schema_of
  size_is = ap (λ (q : model.Schema). q.parameters) (sym same) ∙ size_at (those predicates schemas) blank here

  few : (count : ℕ) → SchemasRight (arities_of predicates) schemas → Counted (sizes_of (those predicates schemas)) i count
      → count + taken.parameters ≤ 192
  unfolding parameters_in sizes_of
  few count right counted =
      omega (
        arith,
        count_within _ counted (sizes_long (those predicates schemas) here) size_is,
        small_few (arities_of predicates) schemas (right_small right),
      )

  -- room for its rows in a table
  room : (count : ℕ) → Counted (sizes_of (those predicates schemas)) i count → (list : model.Schema → List model.Atom) (before table : List ℕ)
      → BagsGiven (those predicates schemas) (properties_from 0 (arities_of predicates)) list before
      → BagsPassed (those predicates schemas) (properties_from 0 (arities_of predicates)) list i before table
      → 60 * count + 60 * taken.parameters ≤ length table
  unfolding schema_of
  room count counted list before table g p =
      subst (λ (q : model.Schema). 60 * count + 60 * q.parameters ≤ length table) same (bags_room g p counted blank here)

pub loop-i-init : goal.loop-i-init
loop-i-init c =
    let a = c.args in
    let rooms = c.requires.room_for_bags in
    let right = c.requires.arities_right in
    record {
      counted = count_start _;
      preconditions_passed = bags_start (given a.predicates a.schemas _ a.preconditions.now right rooms.preconditions_room);
      deletes_passed = bags_start (given a.predicates a.schemas _ a.deletes.now right rooms.deletes_room);
      adds_passed = bags_start (given a.predicates a.schemas _ a.adds.now right rooms.adds_room);
    }

pub overflow_mul-count : goal.overflow_mul-count
overflow_mul-count c =
    let few = few c.args.predicates c.args.schemas c.loop-i.i c.loop-i-test.true _ c.requires.schemas_right c.loop-i.invariant.counted in
    omega arith

pub enter_schema-requires-clause-room_from : goal.enter_schema-requires-clause-room_from
enter_schema-requires-clause-room_from c =
    let a = c.args in
    let rooms = c.requires.room_for_bags in
    let right = c.requires.arities_right in
    let inv = c.loop-i.invariant in
    let roomy = room a.predicates a.schemas c.loop-i.i c.loop-i-test.true c.loop-i.count inv.counted in
    record {
      preconditions_room =
          roomy _ _ c.loop-i.preconditions (given a.predicates a.schemas _ a.preconditions.now right rooms.preconditions_room)
          inv.preconditions_passed;
      deletes_room =
          roomy _ _ c.loop-i.deletes (given a.predicates a.schemas _ a.deletes.now right rooms.deletes_room) inv.deletes_passed;
      adds_room = roomy _ _ c.loop-i.adds (given a.predicates a.schemas _ a.adds.now right rooms.adds_room) inv.adds_passed;
    }

pub overflow_add-count : goal.overflow_add-count
overflow_add-count c =
    let few = few c.args.predicates c.args.schemas c.loop-i.i c.loop-i-test.true _ c.requires.schemas_right c.loop-i.invariant.counted in
    omega arith

pub loop-i-preserved : goal.loop-i-preserved
loop-i-preserved c =
    let a = c.args in
    let rooms = c.requires.room_for_bags in
    let right = c.requires.arities_right in
    let inv = c.loop-i.invariant in
    let i = c.loop-i.i in
    let more = c.loop-i-test.true in
    let at = here a.predicates a.schemas i more in
    let written = as_schema (sym (same a.predicates a.schemas i more)) c.enter_schema.ensures in
    let none = blank a.predicates a.schemas i more in
    record {
      counted = count_next _ inv.counted (sizes_long _ at) (size_is a.predicates a.schemas i more);
      preconditions_passed =
          bags_next (given a.predicates a.schemas _ a.preconditions.now right rooms.preconditions_room) inv.preconditions_passed
          inv.counted none at written.preconditions_are;
      deletes_passed =
          bags_next (given a.predicates a.schemas _ a.deletes.now right rooms.deletes_room) inv.deletes_passed inv.counted none
          at written.deletes_are;
      adds_passed =
          bags_next (given a.predicates a.schemas _ a.adds.now right rooms.adds_room) inv.adds_passed inv.counted none at
          written.adds_are;
    }

pub returns : goal.returns
unfolding parameters_in sizes_of
returns c =
    let a = c.args in
    let rooms = c.requires.room_for_bags in
    let right = c.requires.arities_right in
    let inv = c.loop-i.invariant in
    let all = length_schemas (arities_of a.predicates) a.schemas in
    record {
      counted = count_end _ inv.counted (omega (arith, length_sizes (those a.predicates a.schemas)));
      preconditions_are =
          bags_end (given a.predicates a.schemas _ a.preconditions.now right rooms.preconditions_room) inv.preconditions_passed
          (omega arith);
      deletes_are = bags_end (given a.predicates a.schemas _ a.deletes.now right rooms.deletes_room) inv.deletes_passed (omega arith);
      adds_are = bags_end (given a.predicates a.schemas _ a.adds.now right rooms.adds_room) inv.adds_passed (omega arith);
    }
