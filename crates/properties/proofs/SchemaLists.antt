-- A list of schemas as the code has it: the schema at a place, and how many parameters all have together.
use Prim.Native.Nat.{ℕ, ◌≤◌, ◌<◌}
use native.Mathlib.Omega.{arith}
use mathlib.Core.Path.{◌≡◌, sym, ap, ◌∙◌, subst}
use mathlib.Core.List.{List}
use lib.ListN.{get_or}
use Rattle.laws.proofs.Lists.{place_of}
use Rattle.model.specs.Card as model
use Rattle.card.specs.declared.SchemaList.{SchemaList}
use Rattle.card.specs.Represents.{blank_schema, schema_of, schemas_of}
use Rattle.card.proofs.Entries.{no_schema, no_schema_blank, default_alike, item_at, length_schemas}
use Rattle.properties.specs.Represented.{SchemasSmall, SchemasRight}
use Rattle.properties.specs.Parameters.{most_parameters, parameters_in}
use Rattle.properties.proofs.ParameterRows.{parameters_few}

module _ (arities : List ℕ) (l : SchemaList) where
  -- the code's schema is the model's, whatever is read past the end
  pub schema_read : {i : ℕ} → i < l.count
      → get_or (schemas_of arities l) i (schema_of arities no_schema) ≡ schema_of arities (get_or l.schemas i no_schema)
  unfolding schemas_of
  schema_read {i} h =
      ap (λ (s : model.Schema). get_or (schemas_of arities l) i s) (no_schema_blank arities)
      ∙ item_at (schema_of arities) l.count blank_schema l.schemas i h
      ∙ sym (default_alike (schema_of arities) no_schema blank_schema (no_schema_blank arities) l.schemas i)

  -- at most 192 parameters
  pub small_few : SchemasSmall l → parameters_in (schemas_of arities l) ≤ most_parameters
  unfolding schema_of
  small_few small =
      parameters_few (schemas_of arities l) (omega (arith, small.few, length_schemas arities l))
      (λ s m.
      let place = place_of (schemas_of arities l) s (schema_of arities no_schema) m in
      let inside : place.0 < l.count = omega (arith, place.1, length_schemas arities l) in
      subst (λ (q : model.Schema). q.parameters ≤ 6) (sym (schema_read inside) ∙ place.2) (small.few_parameters place.0 no_schema inside))

-- schemas over known predicates have few parameters
pub right_small : {arities : List ℕ} {l : SchemaList} → SchemasRight arities l → SchemasSmall l
right_small right = record { few = right.few; few_parameters = λ i d h. (right.each_right i d h).few_parameters }
