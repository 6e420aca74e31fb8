-- The analysis of a space of a prepared task can be made, and is the definition's.
use Prim.Native.Nat.{ℕ, ◌≤◌, ◌<◌}
use native.Mathlib.Omega.{arith}
use mathlib.Core.Path.{◌≡◌, sym, ap, ◌∙◌, subst}
use mathlib.Core.List.{List, []}
use lib.ListN.{length, get_or, take}
use lib.Seq.{take-append_seam}
use Rattle.laws.specs.Lists.{padded}
use Rattle.laws.proofs.Walks.{keep_few}
use Rattle.model.specs.Card.{Task}
use Rattle.model.specs.Spaces as model
use Rattle.model.proofs.Checked.{checked}
use Rattle.model.proofs.ListedSpace.{space_of_analysis}
use Rattle.model.proofs.Parts.{space_part}
use Rattle.model.proofs.RuleCount.{properties_few}
use Rattle.spaces.specs.Own.{own_of, Owns}
use Rattle.spaces.specs.SpaceTable.{groups_of, space_at}
use Rattle.spaces.specs.declared.own.Own.{Own}
use Rattle.spaces.proofs.Places.{own_of_lem, members_of_lem}
use Rattle.closing.proofs.TypedObjects.{spaces_few}
use Rattle.analysis.specs.Own.{own_rules}
use Rattle.analysis.specs.Sorting.{sorted}
use Rattle.analysis.specs.Initial.{own_conditions}
use Rattle.analysis.specs.Analysed as analysis
use Rattle.analysis.specs.Tasks.{TaskTables, SpaceGiven, Lengths}
use Rattle.analysis.proofs.Places.{space_member}
use Rattle.analysis.proofs.Tasks as tasks
use Rattle.prepared.proofs.Finding.{padded_long}
use Rattle.prepared.specs.declared.Prepared.{Prepared}
use Rattle.prepared.specs.declared.Found.{Found}
use Rattle.prepared.specs.Prepared.{Given}
use Rattle.prepared.specs.Found.{own_of_space, pass_at, initial_at, members_at, analysis_at}
use Rattle.prepared.specs.Found.{SpaceReady, SpaceFound, FoundOf, FoundIn, SectionReady}

-- the own properties, as the code keeps them
pub own_kept : {own : List ℕ} {r : Own} → Owns own r → take r.count r.properties ≡ own
unfolding padded
own_kept {own} {r} h =
    ap (λ (n : ℕ). take n r.properties) h.count ∙ ap (take (length own)) h.properties ∙ take-append_seam own _

-- and there is room for them
pub own_inside : {own : List ℕ} {r : Own} → Owns own r → length own ≤ 60 → r.count ≤ length r.properties
own_inside {own} h few = omega (arith, few, h.count, ap length h.properties, padded_long 60 own)

-- the tables of a prepared task
pub tables_of : {t : Task} {p : Prepared} {preconditions deletes adds counts : List ℕ} → Given t p preconditions deletes adds counts
    → TaskTables t p.parameters deletes adds counts
tables_of {preconditions = preconditions} given = record {
  checked = given.checked;
  preconditions = preconditions;
  preconditions₀ = given.preconditions;
  deletes₀ = given.deletes;
  adds₀ = given.adds;
  parameters_are = given.prepared.tables;
  counts₀ = given.counts;
  counts_are = given.prepared.counts_are;
}

module _ {number : ℕ} {p : Prepared} {deletes adds counts starts finishes conditions : List ℕ}
    (h : SpaceReady number p deletes adds counts starts finishes conditions) where
  abbrev t : Task
  t = h.task

  there : number < length (model.spaces t)
  there = omega (arith, h.known, h.given.prepared.spaces_are.count)

  few_properties : p.properties ≤ 60
  few_properties = omega (arith, properties_few t h.given.checked, h.given.prepared.properties_counted)

  -- a task has few properties and few spaces
  pub sizes_low : (p.properties ≤ 60) × ((p.properties ≤ length p.spaces.groups) × (number < 60))
  sizes_low = (
    few_properties,
    (
      omega (arith, few_properties, ap length h.given.prepared.spaces_are.groups, padded_long 60 (groups_of t)),
      omega (arith, h.known, spaces_few t p.spaces h.given.prepared.spaces_are (properties_few t h.given.checked)),
    ),
  )

  -- its own properties, no more than the task has
  pub own_is : own_of_space p number ≡ (space_at t number).properties
  unfolding own_of_space
  own_is =
      ap (λ (n : ℕ). own_of p.spaces.groups n (get_or p.spaces.lowest number 0)) h.given.prepared.properties_counted
      ∙ own_of_lem t number there h.given.prepared.spaces_are

  own_fewer : length (own_of_space p number) ≤ p.properties
  unfolding own_of_space own_of
  own_fewer = keep_few _ p.properties

  pub own_low : length (own_of_space p number) ≤ 60
  own_low = omega (arith, own_fewer, few_properties)

  space_given : SpaceGiven t (space_at t number) (own_of_space p number) (get_or p.spaces.members number 0) p.parameters deletes adds counts
  space_given = record {
    part = space_part t (space_at t number) (space_member t number there);
    own_are = own_is;
    members_are = members_of_lem t number there h.given.prepared.spaces_are (checked t h.given.checked).few_objects;
    tables = tables_of h.given;
  }

  lengths : Lengths (length (own_of_space p number)) p.parameters deletes adds counts starts finishes conditions
  lengths = record {
    deletes_long = h.given.room.deletes_room;
    adds_long = h.given.room.adds_room;
    counts_long = h.given.counts_long;
    starts_long = omega (arith, h.starts_long, own_fewer);
    finishes_long = omega (arith, h.finishes_long, own_fewer);
    conditions_long = omega (arith, h.conditions_long);
  }

  -- so it can be made, from the own properties as they are handed over, and then is what the space's number says
  module _ {own : List ℕ} (e : own ≡ own_of_space p number) where
    pub analysable_space : analysis.Analysable own (get_or p.spaces.members number 0) p.parameters deletes adds counts starts finishes conditions
    analysable_space =
        subst
        (λ (l : List ℕ).
        analysis.Analysable l (get_or p.spaces.members number 0) p.parameters deletes adds counts starts finishes conditions)
        (sym e) (tasks.analysable space_given lengths)

    pub found_at : {f : Found} {now_starts now_finishes now_conditions : List ℕ} → Owns (own_of_space p number) f.own
        → analysis.Analyses (sorted [] (own_rules own p.parameters deletes adds)) (own_conditions own counts (members_at p number)) f.analysed
        starts finishes conditions now_starts now_finishes now_conditions
        → SpaceFound number p deletes adds counts f starts finishes conditions now_starts now_finishes now_conditions
    unfolding pass_at initial_at
    found_at {f} {now_starts} {now_finishes} {now_conditions} owns a = record {
      own_is = owns;
      analyses =
          subst
          (λ (l : List ℕ).
          analysis.Analyses (sorted [] (own_rules l p.parameters deletes adds)) (own_conditions l counts (members_at p number)) f.analysed
          starts finishes conditions now_starts now_finishes now_conditions)
          e a;
    }

  -- and what was found is the analysis of the task's space
  pub found_of : {f : Found} {now_starts now_finishes now_conditions : List ℕ}
      → SpaceFound number p deletes adds counts f starts finishes conditions now_starts now_finishes now_conditions
      → length now_conditions ≡ length conditions → FoundOf t number p f now_conditions
  unfolding pass_at initial_at
  found_of {f} found kept =
      let space = sym (space_of_analysis t (space_at t number)) in
      let own : Owns (analysis_at t number).space.properties f.own =
      subst (λ (u : model.Space). Owns u.properties f.own) space
      (subst (λ (l : List ℕ). Owns l f.own) own_is found.own_is) in
      let a = tasks.analysis_of space_given lengths (space_member t number there) found.analyses in
      record {
        checked = h.given.checked;
        known = there;
        spaces_are = h.given.prepared.spaces_are;
        arities_are = h.given.prepared.arities_are;
        own_is = own;
        before = a.before;
        held =
            record {
              kind_is = a.kind;
              own_is = own_kept own;
              members_are = space_given.members_are ∙ ap (λ (u : model.Space). u.members) space;
              conditions_held = record { counted = a.count; table_is = a.conditions_are };
            };
        hides = a.hides;
        short = omega (arith, kept, h.conditions_long);
      }

-- A space analysed with tables that keep their lengths.
module _ {number : ℕ} {p : Prepared} {deletes adds counts starts finishes conditions : List ℕ}
    (h : SpaceReady number p deletes adds counts starts finishes conditions) {f : Found} {now_starts now_finishes now_conditions : List ℕ}
    (found : SpaceFound number p deletes adds counts f starts finishes conditions now_starts now_finishes now_conditions)
    (kept : length now_conditions ≡ length conditions) where
  -- for whatever task is prepared, what was found is the analysis of its space
  pub found_in : {t : Task} {preconditions : List ℕ} → Given t p preconditions deletes adds counts
      → FoundIn t number p f deletes adds counts now_conditions
  found_in {t} {preconditions} given =
      let here : SpaceReady number p deletes adds counts starts finishes conditions =
      record {
        task = t;
        preconditions = preconditions;
        given = given;
        known = h.known;
        starts_long = h.starts_long;
        finishes_long = h.finishes_long;
        conditions_long = h.conditions_long;
      } in
      record { preconditions = preconditions; given = given; of = found_of here found kept }

  -- and its section can be written
  pub section_ready : length now_starts ≡ length starts → length now_finishes ≡ length finishes
      → SectionReady number p f deletes adds counts now_starts now_finishes now_conditions
  section_ready starts_kept finishes_kept =
      record {
        task = h.task;
        found = found_in h.given;
        room =
            record {
              starts_room = omega (arith, h.starts_long, starts_kept);
              finishes_room = omega (arith, h.finishes_long, finishes_kept);
              conditions_room = kept ∙ h.conditions_long;
            };
      }
