-- The objects of a parameter as the code finds them: by its row of preconditions, and masks that stand at the labels of their spaces.
use Rattle.std.specs.Prelude.{ℕ, zero, suc, ◌+◌, ◌*◌, ◌≤◌, ◌≡◌, List, map, length, get_or, set, replicate}
use Rattle.laws.specs.Lists.{up_to}
use Rattle.model.specs.Card.{Task}
use Rattle.model.specs.Lines.{Line, types}
use Rattle.model.specs.Transitions.{properties}
use Rattle.masks.specs.Sets.{members_of}
use Rattle.properties.specs.Parameters.{parameters_in, parameter_bags}
use Rattle.properties.specs.Tables.{stride, bag_at, bags_in}
use Rattle.spaces.specs.Steps.{enabled_by}
use Rattle.spaces.specs.Tabled.{Grouped}

-- the members of the first spaces, each at the lowest property of its space, and 0 elsewhere
unfoldable pub label_masks : List ℕ → List ℕ → ℕ → List ℕ
label_masks lowest members zero = replicate stride 0
label_masks lowest members (suc k) = set (label_masks lowest members k) (get_or lowest k 0) (get_or members k 0)

-- the R lines of schema n, whose parameters have their rows of preconditions from row `first` on
unfoldable pub typed_lines : ℕ → List ℕ → List ℕ → ℕ → List ℕ → ℕ → ℕ → ℕ → List Line
typed_lines size groups masks objects preconditions n first parameters =
    map (λ k. types n k (members_of (enabled_by groups objects masks (bag_at size preconditions (first + k))))) (up_to parameters)

-- What a function that is handed groups and masks asks of them.
pub record MembersGiven (size : ℕ) (groups masks : List ℕ) (objects : ℕ) : Type 0 where
  pub few_objects : objects ≤ 64
  pub grouped : Grouped size groups
  pub masks_long : stride ≤ length masks

-- The table begins with the bags P of a task's parameters.
pub record PreconditionRows (t : Task) (preconditions : List ℕ) : Type 0 where
  pub rows_there : stride * parameters_in t.schemas ≤ length preconditions
  pub rows_are :
      bags_in (length (properties t)) (parameters_in t.schemas) preconditions ≡ parameter_bags (properties t) (λ s. s.preconditions) t.schemas
