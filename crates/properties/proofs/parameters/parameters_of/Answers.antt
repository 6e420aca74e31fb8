-- The numbers of parameters are added up, schema by schema.
use Rattle.std.proofs.Common.{ℕ, ◌≡◌, ◌<◌, List, [], length, map, get_or, take, arith, refl, sym, ap, ◌∙◌}
use mathlib.Core.List.{map-map}
use lib.Seq.{get_or-take}
use Rattle.laws.specs.Lists.{sum}
use Rattle.card.specs.declared.SchemaList.{SchemaList}
use Rattle.card.specs.Represents.{blank_schema, entries, schemas_of, schema_of}
use Rattle.card.proofs.Entries.{length_table, item_at, default_alike, no_schema}
use Rattle.properties.specs.Parameters.{parameters_in}
use Rattle.properties.proofs.SchemaLists.{small_few}
use Rattle.properties.proofs.ParameterRows.{count_start, count_next, count_within, count_end}
use Rattle.properties.proofs.parameters.parameters_of.Goals as goal

-- how many parameters each schema of the code has
abbrev sizes : SchemaList → List ℕ
sizes l = map (λ s. s.parameters) (entries l.count blank_schema l.schemas)

-- they are those of the model's schemas, whatever the arities
sizes_are : (arities : List ℕ) (l : SchemaList) → sum (sizes l) ≡ parameters_in (schemas_of arities l)
unfolding parameters_in schemas_of schema_of
sizes_are arities l = ap sum (sym (map-map (λ s. s.parameters) (schema_of arities) (entries l.count blank_schema l.schemas)))

many : (l : SchemaList) → length (sizes l) ≡ l.count
many l = length_table (λ s. s.parameters) l.count blank_schema l.schemas

-- the schema that a turn takes
size_is : (l : SchemaList) (i : ℕ) → i < l.count → (get_or (take l.count l.schemas) i no_schema).parameters ≡ get_or (sizes l) i 0
unfolding blank_schema
size_is l i h =
    ap (λ s. s.parameters) (get_or-take l.count l.schemas i no_schema h)
    ∙ default_alike (λ s. s.parameters) no_schema blank_schema refl l.schemas i
    ∙ sym (item_at (λ s. s.parameters) l.count blank_schema l.schemas i h)

pub loop-schema-init : goal.loop-schema-init
loop-schema-init c = count_start _

pub overflow_add-parameters : goal.overflow_add-parameters
overflow_add-parameters c =
    let l = c.args.schemas in
    let i = c.loop-schema.schema-index in
    omega (
      arith,
      count_within _ c.loop-schema.invariant (omega (arith, many l)) (size_is l i (omega arith)),
      sizes_are [] l,
      small_few [] l c.requires,
    )

pub loop-schema-preserved : goal.loop-schema-preserved
loop-schema-preserved c =
    let l = c.args.schemas in
    count_next _ c.loop-schema.invariant (omega (arith, many l)) (size_is l c.loop-schema.schema-index (omega arith))

pub returns : goal.returns
returns c arities =
    count_end _ c.loop-schema.invariant (omega (arith, many c.args.schemas)) ∙ sizes_are arities c.args.schemas
