-- The conditions that are listed for a space: each has a count for every property, and the code's table holds them.
use Prim.Native.Nat.{ℕ, zero, suc, ◌*◌, ◌≤◌}
use native.Mathlib.Omega.{arith}
use mathlib.Core.Path.{◌≡◌, sym, ap, subst, ◌∙◌}
use mathlib.Core.Bool.{Bool, true, false, cond}
use mathlib.Core.Logic.{⊎_elim}
use mathlib.Core.List.Memᴰ
use mathlib.Core.List.{List, [], map, Memᴰ}
use lib.ListN.{length, drop, length-append}
use Rattle.laws.specs.Bags.{Bag, restrict}
use Rattle.laws.proofs.Bags.{length_restrict}
use Rattle.model.specs.Card.{Task}
use Rattle.model.specs.Transitions as model
use Rattle.model.specs.Transitions.{Transition, bag_of}
use Rattle.model.specs.Spaces.{Space, Kind, static, attribute, property, mixed, wide, rescued, condition, kind_of}
use Rattle.model.specs.Extension.{Move, Outcome}
use Rattle.model.specs.Analysis.{Analysis, moves_of, initial_conditions, conditions_for, analyse_property_space, analyse_as, analyse}
use Rattle.model.specs.Rescue.{without_hidden, narrowed, lost, rescued_as, rescue}
use Rattle.model.proofs.ListedSpace.{extension_of}
use Rattle.model.proofs.JoinedLists.{joined_from, adjoin_all_from}
use Rattle.model.proofs.ListsPerStart.{lists_sized}
use Rattle.properties.specs.Tables.{stride, rows, rows_before, bags_in, HasRows}
use Rattle.properties.proofs.Rows.{length_rows}
use Rattle.properties.proofs.RowTables.{rows_before_back}
use Rattle.space_lines.specs.OwnLines.{ConditionsHeld}

-- Each condition of an analysis has a count for every property of its space.
pub record Sized (a : Analysis) : Type 0 where
  pub sized : (b : Bag) → Memᴰ b a.conditions → length b ≡ length a.space.properties

-- ---- a space that is analysed

-- rules and initial conditions are over the space's properties
moves_sized : (u : Space) (m : Move) → Memᴰ m (moves_of u)
    → (length m.start ≡ length u.properties) × (length m.finish ≡ length u.properties)
unfolding moves_of
moves_sized u m k =
    let own = u.properties in
    let over : Transition → Move = λ r. record { start = restrict own r.start; finish = restrict own r.finish } in
    let p = Memᴰ.of_map over u.rules k in
    subst (λ (x : Move). (length x.start ≡ length own) × (length x.finish ≡ length own)) p.2
    (length_restrict own p.0.start, length_restrict own p.0.finish)

initial_sized : (t : Task) (u : Space) (b : Bag) → Memᴰ b (initial_conditions t u) → length b ≡ length u.properties
unfolding initial_conditions condition
initial_sized t u b m =
    ⊎_elim (λ k. absurd (Memᴰ.not-nil k))
    (λ k.
    let p = Memᴰ.of_map (condition t u.properties t.facts) u.members k in
    subst (λ (x : Bag). length x ≡ length u.properties) p.2
    (length_restrict u.properties (bag_of (model.properties t) t.facts p.0)))
    (adjoin_all_from [] (map (condition t u.properties t.facts) u.members) b m)

-- so the conditions of its extension are
property_sized : (t : Task) (u : Space) → Sized (analyse_property_space t u)
unfolding analyse_property_space conditions_for
property_sized t u = record { sized = go (extension_of t u).outcome }
  where
    go : (o : Outcome) (b : Bag) → Memᴰ b (conditions_for o (extension_of t u).lists) → length b ≡ length u.properties
    go Outcome.neither b m =
        let p = joined_from (extension_of t u).lists b m in
        lists_sized (length u.properties) (moves_of u) (initial_conditions t u) (moves_sized u) (initial_sized t u) p.0 p.1 b p.2
    go (Outcome.mixed places) b m = absurd (Memᴰ.not-nil m)
    go Outcome.wide b m = absurd (Memᴰ.not-nil m)

pub analysis_sized : (t : Task) (u : Space) → Sized (analyse t u)
unfolding analyse analyse_as
analysis_sized t u = go (kind_of u.rules)
  where
    go : (k : Kind) → Sized (analyse_as k t u)
    go static = record { sized = λ b m. absurd (Memᴰ.not-nil m) }
    go attribute = record { sized = λ b m. absurd (Memᴰ.not-nil m) }
    go property = property_sized t u
    go mixed = property_sized t u
    go wide = property_sized t u
    go rescued = property_sized t u

-- ---- a space that is rescued

-- by how what is left is listed, and what a further round lists
rescued_sized : (k : Kind) {listed : Analysis} → Sized listed → {again : List Analysis} → ((a : Analysis) → Memᴰ a again → Sized a)
    → (lost : Bool) (a : Analysis) → Memᴰ a (cond lost [] (rescued_as k listed again)) → Sized a
unfolding rescued_as
rescued_sized k s h true a m = absurd (Memᴰ.not-nil m)
rescued_sized static s h false a m = absurd (Memᴰ.not-nil m)
rescued_sized attribute s h false a m = absurd (Memᴰ.not-nil m)
rescued_sized property s h false a m = subst Sized (sym (Memᴰ.eq_of_singleton m)) (record { sized = s.sized })
rescued_sized mixed s h false a m = h a m
rescued_sized wide s h false a m = absurd (Memᴰ.not-nil m)
rescued_sized rescued s h false a m = absurd (Memᴰ.not-nil m)

pub rescue_sized : (t : Task) (rounds : ℕ) (s : Space) (hidden : List ℕ) (a : Analysis) → Memᴰ a (rescue t rounds s hidden) → Sized a
unfolding rescue
rescue_sized t zero s hidden a m = absurd (Memᴰ.not-nil m)
rescue_sized t (suc rounds) s hidden a m =
    let left = narrowed t s (without_hidden hidden s.properties) in
    let listed = analyse_property_space t left in
    rescued_sized listed.kind (property_sized t left) (rescue_sized t rounds left listed.hidden) (lost left) a m

-- ---- the conditions in a table

-- A table that begins with the rows of an analysis's conditions, where the properties of its space fit a row.
module _ {a : Analysis} (s : Sized a) (narrow : length a.space.properties ≤ stride) {before table : List ℕ} {count : ℕ}
    (held : ConditionsHeld a.conditions before table count) where
  table_length : stride * count ≤ length table
  unfolding rows_before
  table_length =
      omega (
        arith,
        ap length held.table_is ∙ length-append (rows a.conditions) (drop (stride * length a.conditions) before),
        length_rows a.conditions (λ b m. omega (arith, s.sized b m)),
        held.counted,
      )

  -- it has a row for each condition
  pub rows_there : HasRows (length a.space.properties) count table
  rows_there = record { narrow = narrow; long = table_length }

  -- at most 64 of them
  pub few_conditions : length table ≤ 3840 → count ≤ 64
  few_conditions short = omega (arith, table_length)

  -- and these are the conditions
  pub bags_are : bags_in (length a.space.properties) count table ≡ a.conditions
  bags_are = rw (held.counted, held.table_is) (rows_before_back (length a.space.properties) narrow a.conditions s.sized before)
