-- The sections that are written from a task's tables.
use Prim.Native.Nat.{ℕ, ◌≤◌}
use native.Mathlib.Omega.{arith}
use mathlib.Core.Path.{◌≡◌, sym, subst}
use mathlib.Core.List.{List, []}
use lib.ListN.{length, get_or}
use Rattle.model.specs.Card.{Task}
use Rattle.model.specs.Analysis.{analysis}
use Rattle.model.specs.Lines.{Line, section_lines, closing_lines, sections}
use Rattle.model.specs.Text.{text}
use Rattle.text.specs.Written.{Writes}
use Rattle.spaces.specs.declared.Spaces.{Spaces}
use Rattle.spaces.specs.SpaceTable.{SpacesOf}
use Rattle.card.specs.declared.Task.{Task as Kept}
use Rattle.card.specs.Represents.{task_of, Represented}
use Rattle.properties.specs.Parameters.{parameters_in, RoomForBags}
use Rattle.prepared.specs.declared.Prepared.{Prepared}
use Rattle.prepared.specs.Prepared.{PreparedOf, Given}
use Rattle.prepared.specs.declared.Found.{Found}
use Rattle.prepared.specs.Found.{analysis_at, FoundOf}
use Rattle.prepared.proofs.Lending.{given_filled}
use Rattle.prepared.proofs.SectionsOf.{section_of_space, section_closing}

-- the tables lent for a task, and lent on to be filled, are given to what follows
pub tables_given : {task : Kept} {r : Prepared} {preconditions deletes adds counts p d a c : List ℕ} {B E : Type 0}
    → Represented task (task_of task) × (B × (RoomForBags (parameters_in (task_of task).schemas) preconditions deletes adds × ((3840 ≤ length counts) × E)))
    → PreparedOf (task_of task) r preconditions deletes adds counts p d a c
    → (length p ≡ length preconditions) × (length d ≡ length deletes) × (length a ≡ length adds) × (length c ≡ length counts)
    → Given (task_of task) r p d a c
tables_given pre filled kept =
    given_filled pre.0.checked pre.1.1.0 pre.1.1.1.0 filled (kept.0, (kept.1, (kept.2, kept.3)))

-- the section of a space
pub space_listed : {t : Task} {number : ℕ} {p : Prepared} {f : Found} {conditions : List ℕ} → FoundOf t number p f conditions
    → {before after : List ℕ} {n : ℕ} → Writes (text (section_lines t number (analysis_at t number))) before after n
    → Writes (text (get_or (sections t) number [])) before after n
space_listed {t} {number} h {before} {after} {n} w =
    subst (λ (l : List Line). Writes (text l) before after n) (sym (section_of_space t number h.known)) w

-- the closing section
pub closing_listed : (t : Task) {s : Spaces} {number : ℕ} → SpacesOf t s → number ≤ s.count → s.count ≤ number
    → {before after : List ℕ} {n : ℕ} → Writes (text (closing_lines t (analysis t))) before after n
    → Writes (text (get_or (sections t) number [])) before after n
closing_listed t {number = number} are h k {before} {after} {n} w =
    subst (λ (l : List Line). Writes (text l) before after n) (sym (section_closing t number (omega (arith, h, k, are.count)))) w
