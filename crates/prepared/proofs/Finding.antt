-- What was found of a space gives its section and its totals.
use Prim.Native.Nat.{ℕ, ◌-◌, ◌≤◌, ◌<◌}
use native.Mathlib.Omega.{arith}
use mathlib.Core.Path.{◌≡◌, refl, sym, ap, ◌∙◌, subst}
use mathlib.Core.List.{List, [], ◌∷◌, Memᴰ}
use lib.ListN.{length, get_or, take, drop, replicate, length-append, length-replicate}
use Rattle.laws.specs.Bags.{Bag}
use Rattle.laws.specs.Lists.{padded}
use Rattle.laws.proofs.Lists.{mem_get_d}
use Rattle.laws.proofs.Numbers.{in_order_below}
use Rattle.masks.proofs.Members.{members_few}
use Rattle.model.specs.Card.{Task}
use Rattle.model.specs.Calls.{output_bytes}
use Rattle.model.specs.Analysis.{analyse}
use Rattle.model.specs.Lines.{space_lines}
use Rattle.model.specs.Spaces as model
use Rattle.model.specs.Text.{text}
use Rattle.model.specs.Transitions.{properties}
use Rattle.model.proofs.ListedSpace.{conditions_listed, space_of_analysis}
use Rattle.model.proofs.Parts.{Part, space_part}
use Rattle.model.proofs.RuleCount.{properties_few}
use Rattle.properties.specs.Tables.{bags_in}
use Rattle.properties.specs.Represented.{property_arities}
use Rattle.properties.proofs.ArityTable.{arities_read}
use Rattle.spaces.specs.SpaceTable.{space_at}
use Rattle.analysis.proofs.Places.{space_member}
use Rattle.closing.proofs.TypedObjects.{spaces_few}
use Rattle.text.specs.Kinds.{kind_says}
use Rattle.text.specs.Room.{Room}
use Rattle.text.specs.Written.{Writes}
use Rattle.text.specs.declared.kinds.Kind.TheVariants.{Mixed}
use Rattle.space_lines.specs.OwnLines.{own_lines, space_bytes, Listable, AritiesOf}
use Rattle.space_lines.proofs.Conditions.{analysis_sized, bags_are}
use Rattle.space_lines.proofs.TaskSections.{Writable, part_writable, section_is, listable}
use Rattle.space_lines.proofs.SectionRoom.{section_fits, room_behind}
use Rattle.totals.specs.Totals.{entered, TotalsEnterable}
use Rattle.prepared.specs.declared.Prepared.{Prepared}
use Rattle.prepared.specs.declared.Found.{Found}
use Rattle.prepared.specs.Found.{own_in, conditions_in, members_at, analysis_at, FoundOf, found_lines, found_totals}

-- a padded list is long enough
pub padded_long : (size : ℕ) (xs : List ℕ) → size ≤ length (padded size 0 xs)
unfolding padded
padded_long size xs =
    omega (arith, length-append xs (replicate (size - length xs) 0), length-replicate {A = ℕ} (size - length xs) 0)

-- no condition is listed for a mixed space
no_conditions : (t : Task) (u : model.Space) → (analyse t u).kind ≡ model.mixed → (analyse t u).conditions ≡ []
no_conditions t u e = go (analyse t u).conditions (conditions_listed t u)
  where
    two_kinds : model.mixed ≡ model.property → ⊥
    two_kinds z = let w : ◌≡◌ {A = ℕ} 0 1 = cc in omega arith

    go : (bags : List Bag) → ((b : Bag) → Memᴰ b bags → (analyse t u).kind ≡ model.property) → bags ≡ []
    go [] h = refl
    go (b ∷ bags) h = absurd (two_kinds (sym e ∙ h b (Memᴰ.head refl)))

module _ {t : Task} {number : ℕ} {p : Prepared} {f : Found} {conditions : List ℕ} (h : FoundOf t number p f conditions) where
  few_properties : length (properties t) ≤ 60
  few_properties = properties_few t h.checked

  -- a task has few spaces, and a space few properties
  pub number_few : number < 60
  number_few = omega (arith, spaces_few t p.spaces h.spaces_are few_properties, h.spaces_are.count, h.known)

  pub part_found : Part t (analysis_at t number).space
  part_found =
      subst (Part t) (sym (space_of_analysis t (space_at t number)))
      (space_part t (space_at t number) (space_member t number h.known))

  pub writable_found : Writable t (analysis_at t number)
  writable_found = part_writable h.checked part_found (analysis_sized t (space_at t number))

  pub few_own : f.own.count ≤ 60
  few_own = omega (arith, h.own_is.count, writable_found.narrow)

  below : (c : ℕ) → Memᴰ c (own_in f) → c < length (properties t)
  below c m = in_order_below _ _ writable_found.in_order c (subst (Memᴰ c) h.held.own_is m)

  pub arities_of_lem : AritiesOf t p.arities
  arities_of_lem =
      subst (AritiesOf t) (sym h.arities_are)
      record {
        long = omega (arith, few_properties, padded_long 60 (property_arities t.arities));
        are = arities_read t;
      }

  -- its lines can be written
  pub listable_found : Listable (own_in f) p.arities conditions f.analysed.count
  listable_found = listable writable_found h.held arities_of_lem h.short

  pub room_found : ((i : ℕ) → get_or conditions i 0 < 65536) → (out : List ℕ) → space_bytes ≤ length out
      → Room (text (found_lines number p f conditions)) out
  unfolding found_lines
  room_found small out room =
      section_fits number _ (get_or p.spaces.members number 0) listable_found (omega (arith, number_few))
      (λ c m. omega (arith, few_properties, below c m)) small out room

  -- and its totals entered, from the number of members as it is handed over
  module _ {members : ℕ} (m : members ≡ length (members_at p number)) where
    pub enterable_found : (fixed : List ℕ) → length fixed ≡ 60 → TotalsEnterable (own_in f) f.analysed.count members conditions fixed
    enterable_found fixed long =
        subst (λ (n : ℕ). TotalsEnterable (own_in f) f.analysed.count n conditions fixed) (sym m)
        record {
          rows_there = listable_found.rows;
          apart = listable_found.apart;
          places_there = λ j k. omega (
            arith,
            long,
            few_properties,
            below (get_or (own_in f) j 0) (mem_get_d (own_in f) j 0 k),
          );
          few_members = members_few (get_or p.spaces.members number 0);
        }

    pub totals_found : (fixed : List ℕ) {after : List ℕ}
        → after ≡ entered (own_in f) (bags_in (length (own_in f)) f.analysed.count conditions) members fixed
        → after ≡ found_totals number p f conditions fixed
    unfolding found_totals
    totals_found fixed is =
        is ∙ ap (λ (n : ℕ). entered (own_in f) (bags_in (length (own_in f)) f.analysed.count conditions) n fixed) m

  -- the lines are the definition's
  pub lines_found : found_lines number p f conditions ≡ space_lines t number (analysis_at t number)
  unfolding found_lines
  lines_found = section_is writable_found h.held arities_of_lem number

  -- a mixed space has its S line alone, and behind it there is room for the lines of its rescue
  pub room_for_rescue : f.analysed.kind ≡ Mixed → {out mid : List ℕ} {at : ℕ} → output_bytes ≤ length out
      → Writes (text (found_lines number p f conditions)) out mid at
      → (at ≤ length mid) × (space_bytes ≤ length (take (length mid - at) (drop at mid)))
  unfolding found_lines kind_says
  room_for_rescue e {out} {mid} {at} room w =
      let none : conditions_in f conditions ≡ [] =
      ap (λ (n : ℕ). bags_in n f.analysed.count conditions) (ap length h.held.own_is)
      ∙ bags_are writable_found.sized writable_found.narrow h.held.conditions_held
      ∙ no_conditions t (space_at t number) (sym h.held.kind_is ∙ ap kind_says e) in
      room_behind p.arities number _ (get_or p.spaces.members number 0) (omega (arith, number_few)) listable_found.rows.narrow
      (λ c m. omega (arith, few_properties, below c m)) room
      (subst
      (λ (bags : List Bag).
      Writes (text (own_lines number (kind_says f.analysed.kind) (own_in f) (members_at p number) p.arities bags)) out mid at)
      none w)
