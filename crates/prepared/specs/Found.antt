-- A space of a prepared task, and its analysis as the code keeps it.
use Rattle.std.specs.Prelude.{ℕ, ◌+◌, ◌*◌, ◌≤◌, ◌<◌, ◌≡◌, length, get_or, take}
use mathlib.Core.List.{List, [], flat_map}
use Rattle.laws.specs.Lists.{padded}
use Rattle.laws.specs.Bags.{Bag}
use Rattle.masks.specs.Sets.{members_of}
use Rattle.model.specs.Answer.{accepted}
use Rattle.model.specs.Card.{Task}
use Rattle.model.specs.Writer.{check_task}
use Rattle.model.specs.Analysis.{Analysis, analyse}
use Rattle.model.specs.Lines.{Line, space_lines}
use Rattle.model.specs.Spaces as model
use Rattle.properties.specs.Tables.{stride, bags_in}
use Rattle.properties.specs.Represented.{property_arities}
use Rattle.spaces.specs.Own.{own_of, Owns}
use Rattle.spaces.specs.SpaceTable.{SpacesOf, space_at}
use Rattle.text.specs.Kinds.{kind_says}
use Rattle.analysis.specs.Own.{own_rules}
use Rattle.analysis.specs.Sorting.{Sorted, sorted}
use Rattle.analysis.specs.Initial.{own_conditions}
use Rattle.analysis.specs.Analysed.{Analyses, Hides}
use Rattle.analysis.specs.Rescued.{rescue_of}
use Rattle.space_lines.specs.OwnLines.{own_lines, SpaceHeld}
use Rattle.totals.specs.Totals as totals
use Rattle.prepared.specs.declared.Prepared.{Prepared}
use Rattle.prepared.specs.declared.Found.{Found}
use Rattle.prepared.specs.Prepared.{RoomForMoves, Given}

-- the own properties that were found, and the conditions in the first rows of a table
abbrev pub own_in : Found → List ℕ
own_in f = take f.own.count f.own.properties

abbrev pub conditions_in : Found → List ℕ → List Bag
conditions_in f table = bags_in (length (own_in f)) f.analysed.count table

-- the members of the space with this number
abbrev pub members_at : Prepared → ℕ → List ℕ
members_at p number = members_of (get_or p.spaces.members number 0)

-- What the analysis of a space asks: some task prepared, one of its spaces, room for as many moves as the task has parameters and
-- properties, and for 64 conditions.
pub record SpaceReady (number : ℕ) (p : Prepared) (deletes adds counts starts finishes conditions : List ℕ) : Type 0 where
  pub task : Task
  pub preconditions : List ℕ
  pub given : Given task p preconditions deletes adds counts
  pub known : number < p.spaces.count
  pub starts_long : stride * (p.parameters + p.properties) ≤ length starts
  pub finishes_long : stride * (p.parameters + p.properties) ≤ length finishes
  pub conditions_long : length conditions ≡ 3840

-- the own properties of the space with this number, the pass over the rules for it, and the initial conditions of its members
unfoldable pub own_of_space : Prepared → ℕ → List ℕ
own_of_space p number = own_of p.spaces.groups p.properties (get_or p.spaces.lowest number 0)

unfoldable pub pass_at : Prepared → ℕ → List ℕ → List ℕ → Sorted
pass_at p number deletes adds = sorted [] (own_rules (own_of_space p number) p.parameters deletes adds)

unfoldable pub initial_at : Prepared → ℕ → List ℕ → List Bag
initial_at p number counts = own_conditions (own_of_space p number) counts (members_at p number)

-- Its own properties and its analysis, and every number of the three tables lent for it.
pub record SpaceFound (number : ℕ) (p : Prepared) (deletes adds counts : List ℕ) (f : Found) (starts finishes conditions : List ℕ)
    (now_starts now_finishes now_conditions : List ℕ) : Type 0 where
  pub own_is : Owns (own_of_space p number) f.own
  pub analyses :
      Analyses (pass_at p number deletes adds) (initial_at p number counts) f.analysed starts finishes conditions now_starts now_finishes
      now_conditions

-- the definition's analysis of the space with this number
abbrev pub analysis_at : Task → ℕ → Analysis
analysis_at t number = analyse t (space_at t number)

-- What was found is the analysis of the space with this number of a checked task, whose spaces and arities were prepared.
pub record FoundOf (t : Task) (number : ℕ) (p : Prepared) (f : Found) (conditions : List ℕ) : Type 0 where
  pub checked : check_task t ≡ accepted tt
  pub known : number < length (model.spaces t)
  pub spaces_are : SpacesOf t p.spaces
  pub arities_are : p.arities ≡ padded 60 0 (property_arities t.arities)
  pub own_is : Owns (analysis_at t number).space.properties f.own
  pub before : List ℕ
  pub held :
      SpaceHeld (analysis_at t number) f.analysed.kind (own_in f) (get_or p.spaces.members number 0) before conditions f.analysed.count
  pub hides : Hides (analysis_at t number).space.properties (analysis_at t number).hidden f.analysed.hidden
  pub short : length conditions ≤ 3840

-- Some task's.
pub record SomeFound (number : ℕ) (p : Prepared) (f : Found) (conditions : List ℕ) : Type 0 where
  pub task : Task
  pub of : FoundOf task number p f conditions

-- The tables are a task's too.
pub record FoundIn (t : Task) (number : ℕ) (p : Prepared) (f : Found) (deletes adds counts conditions : List ℕ) : Type 0 where
  pub preconditions : List ℕ
  pub given : Given t p preconditions deletes adds counts
  pub of : FoundOf t number p f conditions

-- What the section of a space that was analysed asks: some task's tables, and room for the analysis of what is left of the space.
pub record SectionReady (number : ℕ) (p : Prepared) (f : Found) (deletes adds counts starts finishes conditions : List ℕ) : Type 0 where
  pub task : Task
  pub found : FoundIn task number p f deletes adds counts conditions
  pub room : RoomForMoves (p.parameters + p.properties) starts finishes conditions

-- the lines of what was found
unfoldable pub found_lines : ℕ → Prepared → Found → List ℕ → List Line
found_lines number p f conditions =
    own_lines number (kind_says f.analysed.kind) (own_in f) (members_at p number) p.arities (conditions_in f conditions)

-- the lines of its rescue, by the hidden attributes of the space
unfoldable pub rescue_lines : Task → ℕ → List Line
rescue_lines t number = flat_map (space_lines t number) (rescue_of t (analysis_at t number))

-- a table with its totals entered
unfoldable pub found_totals : ℕ → Prepared → Found → List ℕ → List ℕ → List ℕ
found_totals number p f conditions fixed =
    totals.entered (own_in f) (conditions_in f conditions) (length (members_at p number)) fixed
