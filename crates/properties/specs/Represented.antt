-- The parts of a task as the code has it: its properties numbered, its objects' bags, and what is asked of its lists.
use Rattle.std.specs.Prelude.{ℕ, ◌≤◌, ◌<◌, ◌≡◌, true, length, get_or, take, replicate}
use mathlib.Core.List.{List, map, flat_map}
use Rattle.laws.specs.Lists.{all, sum, up_to, padded}
use Rattle.laws.specs.Bags.{Bag}
use Rattle.model.specs.Card as model
use Rattle.model.specs.Card.{between}
use Rattle.model.specs.Writer.{known}
use Rattle.model.specs.Transitions.{properties_from, properties}
use Rattle.card.specs.declared.ArityList.{ArityList}
use Rattle.card.specs.declared.AtomList.{AtomList}
use Rattle.card.specs.declared.Schema.{Schema}
use Rattle.card.specs.declared.SchemaList.{SchemaList}
use Rattle.card.specs.declared.FactList.{FactList}
use Rattle.card.specs.Represents.{arities_of, atoms_of, facts_of}
use Rattle.properties.specs.declared.Numbering.{Numbering}
use Rattle.properties.specs.Parameters.{bags_over}

-- the bags of all objects over the task's facts, object by object
unfoldable pub object_bags : model.Task → List Bag
object_bags t = bags_over (properties t) t.facts t.objects

-- the number of each predicate's first property
unfoldable pub first_properties : List ℕ → List ℕ
first_properties arities = map (λ p. sum (take p arities)) (up_to (length arities))

-- the arity of each property's predicate, property by property
unfoldable pub property_arities : List ℕ → List ℕ
property_arities arities = flat_map (λ n. replicate n n) arities

-- how the properties of predicates with these arities are numbered: how many there are, and where each predicate's begin
pub record Numbers (arities : List ℕ) (r : Numbering) : Type 0 where
  pub counted : r.count ≡ length (properties_from 0 arities)
  pub firsts : r.firsts ≡ padded 20 0 (first_properties arities)

-- What the parts of such a task are, as far as a function that is handed one of them asks it.
-- the arities of a task's predicates
pub record AritiesRight (l : ArityList) : Type 0 where
  pub few : l.count ≤ 20
  pub each_in_range : all (between 1 3) (arities_of l) ≡ true

-- a list of atoms of such predicates over so many parameters
pub record AtomsRight (arities : List ℕ) (parameters : ℕ) (l : AtomList) : Type 0 where
  pub few : l.count ≤ 8
  pub atoms_known : all (known arities parameters) (atoms_of arities l) ≡ true

-- a schema over such predicates
pub record SchemaRight (arities : List ℕ) (s : Schema) : Type 0 where
  pub few_parameters : s.parameters ≤ 6
  pub preconditions_right : AtomsRight arities s.parameters s.preconditions
  pub deletes_right : AtomsRight arities s.parameters s.deletes
  pub adds_right : AtomsRight arities s.parameters s.adds

-- a list of schemas that have few parameters
pub record SchemasSmall (l : SchemaList) : Type 0 where
  pub few : l.count ≤ 32
  pub few_parameters : (i : ℕ) (d : Schema) → i < l.count → (get_or l.schemas i d).parameters ≤ 6

-- a list of schemas over such predicates
pub record SchemasRight (arities : List ℕ) (l : SchemaList) : Type 0 where
  pub few : l.count ≤ 32
  pub each_right : (i : ℕ) (d : Schema) → i < l.count → SchemaRight arities (get_or l.schemas i d)

-- a list of facts of such predicates over so many objects
pub record FactsKnown (arities : List ℕ) (objects : ℕ) (l : FactList) : Type 0 where
  pub few_objects : objects ≤ 64
  pub few : l.count ≤ 512
  pub facts_known : all (known arities objects) (facts_of arities l) ≡ true
