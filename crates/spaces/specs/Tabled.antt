-- What the code asks of its tables, and what they say of a task.
use Rattle.std.specs.Prelude.{ℕ, ◌≤◌, ◌<◌, ◌≡◌, List, length, get_or}
use Rattle.model.specs.Card.{Task}
use Rattle.model.specs.Transitions.{properties, bag_of, transitions}
use Rattle.properties.specs.Parameters.{rules_in}
use Rattle.properties.specs.Tables.{stride, bag_at}

-- An array of labels for the first `size` properties, at most as many as a row has places; each label is the number of a place.
pub record Grouped (size : ℕ) (groups : List ℕ) : Type 0 where
  pub narrow : size ≤ stride
  pub filled : size ≤ length groups
  pub known : (c : ℕ) → get_or groups c 0 < stride

-- The tables hold a task: the rules of its parameters, and the initial bags of its objects.
pub record TablesOf (t : Task) (size parameters objects : ℕ) (p d a counts : List ℕ) : Type 0 where
  pub properties_are : size ≡ length (properties t)
  pub objects_are : objects ≡ t.objects
  pub rules_are : rules_in size parameters p d a ≡ transitions t
  pub bags_are : (o : ℕ) → o < objects → bag_at size counts o ≡ bag_of (properties t) t.facts o
