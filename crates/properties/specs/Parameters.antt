-- Document 01's bags P, D and A: for each parameter of each schema, in card order, one row in each of three tables.
use Rattle.std.specs.Prelude.{ℕ, ◌*◌, ◌≤◌, ◌≡◌, length}
use mathlib.Core.List.{List, map, flat_map}
use Rattle.laws.specs.Lists.{sum, up_to}
use Rattle.laws.specs.Bags.{Bag}
use Rattle.model.specs.Card.{Atom, Schema}
use Rattle.model.specs.Transitions.{Property, Transition, bag_of, rules_of}
use Rattle.properties.specs.Tables.{stride, rows_before, bag_at}

-- the most parameters of a task: 32 schemas of 6
abbrev pub most_parameters : ℕ
most_parameters = 192

-- how many parameters some schemas have together
unfoldable pub parameters_in : List Schema → ℕ
parameters_in schemas = sum (map (λ s. s.parameters) schemas)

-- the bags of so many parameters, or objects, over a list of atoms
unfoldable pub bags_over : List Property → List Atom → ℕ → List Bag
bags_over cs atoms parameters = map (bag_of cs atoms) (up_to parameters)

-- the bags of all parameters, each over one list of its schema: P over the preconditions, D over the deletes, A over the adds
unfoldable pub parameter_bags : List Property → (Schema → List Atom) → List Schema → List Bag
parameter_bags cs list schemas = flat_map (λ s. bags_over cs (list s) s.parameters) schemas

-- the three tables have room for the bags of so many parameters
pub record RoomForBags (count : ℕ) (preconditions deletes adds : List ℕ) : Type 0 where
  pub preconditions_room : stride * count ≤ length preconditions
  pub deletes_room : stride * count ≤ length deletes
  pub adds_room : stride * count ≤ length adds

-- the bags of all parameters of some schemas, over a task's properties, written from the start of the three tables, and their number
pub record ParameterTables (cs : List Property) (schemas : List Schema) (count : ℕ) (preconditions deletes adds p d a : List ℕ) : Type 0 where
  pub counted : count ≡ parameters_in schemas
  pub preconditions_are : p ≡ rows_before (parameter_bags cs (λ s. s.preconditions) schemas) preconditions
  pub deletes_are : d ≡ rows_before (parameter_bags cs (λ s. s.deletes) schemas) deletes
  pub adds_are : a ≡ rows_before (parameter_bags cs (λ s. s.adds) schemas) adds

-- the transition rules of the parameters in the first rows of three tables, in their order
unfoldable pub rules_in : ℕ → ℕ → List ℕ → List ℕ → List ℕ → List Transition
rules_in size count p d a = flat_map (λ i. rules_of (bag_at size p i) (bag_at size d i) (bag_at size a i)) (up_to count)
