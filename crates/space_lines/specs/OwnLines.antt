-- The section of a space by its own properties, the arities of all properties, by number, and the conditions that are listed for it.
use Rattle.std.specs.Prelude.{ℕ, ◌≤◌, ◌<◌, ◌≡◌, true, List, ◌∷◌, ◌++◌, map, ltb, length, get_or}
use Rattle.laws.specs.Bags.{Bag}
use Rattle.laws.specs.Lists.{all, distinct}
use Rattle.masks.specs.Sets.{members_of}
use Rattle.model.specs.Card.{Task}
use Rattle.model.specs.Analysis.{Analysis}
use Rattle.model.specs.Lines.{Line, space, state, arity_of}
use Rattle.model.specs.Spaces as model
use Rattle.model.specs.Transitions.{properties}
use Rattle.properties.specs.Tables.{rows_before, HasRows}
use Rattle.sections.specs.Comparisons.{comparison_lines}
use Rattle.sections.specs.Limits.{limits_by}
use Rattle.text.specs.Kinds.{kind_says}
use Rattle.text.specs.declared.kinds.Kind.{Kind}

-- all M, all D, all X, all E
unfoldable pub invariant_lines : List ℕ → List ℕ → List Bag → List Line
invariant_lines arities own bags = limits_by arities own bags ++ comparison_lines bags

-- all T, and these
unfoldable pub condition_lines : List ℕ → List ℕ → List Bag → List Line
condition_lines arities own bags = map state bags ++ invariant_lines arities own bags

-- S, and these
unfoldable pub own_lines : ℕ → model.Kind → List ℕ → List ℕ → List ℕ → List Bag → List Line
own_lines number kind own members arities bags = space number kind own members ∷ condition_lines arities own bags

-- the most bytes that the lines of a space take: 383 for S, 23,296 for T, 660 for M, 320 for D, 16,128 for X and E
abbrev pub space_bytes : ℕ
space_bytes = 40787

-- What a section is written from: distinct own properties with arities, and at most 64 conditions over them in the first rows of a table.
pub record Listable (own arities table : List ℕ) (count : ℕ) : Type 0 where
  pub rows : HasRows (length own) count table
  pub few : count ≤ 64
  pub apart : distinct own ≡ true
  pub known : all (λ c. ltb c (length arities)) own ≡ true

-- The arities of a task's properties, by number, at the front of a table.
pub record AritiesOf (t : Task) (arities : List ℕ) : Type 0 where
  pub long : length (properties t) ≤ length arities
  pub are : (c : ℕ) → c < length (properties t) → get_or arities c 0 ≡ arity_of t c

-- Conditions as rows at the front of a table, and their number.
pub record ConditionsHeld (conditions : List Bag) (before table : List ℕ) (count : ℕ) : Type 0 where
  pub counted : count ≡ length conditions
  pub table_is : table ≡ rows_before conditions before

-- An analysis as the code keeps it: its kind, the properties and members of its space, and its conditions in a table.
pub record SpaceHeld (a : Analysis) (kind : Kind) (own : List ℕ) (members : ℕ) (before table : List ℕ) (count : ℕ) : Type 0 where
  pub kind_is : kind_says kind ≡ a.kind
  pub own_is : own ≡ a.space.properties
  pub members_are : members_of members ≡ a.space.members
  pub conditions_held : ConditionsHeld a.conditions before table count
