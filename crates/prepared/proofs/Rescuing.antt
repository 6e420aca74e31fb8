-- The section of a space: its lines and, where it is mixed, those of its rescue.
use Prim.Native.Nat.{ℕ, ◌+◌, ◌-◌, ◌≤◌, ◌<◌}
use native.Mathlib.Omega.{arith}
use mathlib.Core.Path.{◌≡◌, refl, sym, ap, ◌∙◌, subst}
use mathlib.Core.List.{List, [], ◌∷◌, ◌++◌, flat_map, append-nil, Memᴰ}
use lib.ListN.{length, get_or, take, drop}
use Rattle.laws.proofs.Lists.{flat_map_append}
use Rattle.laws.proofs.Numbers.{in_order_below}
use Rattle.masks.specs.Sets.{members_of}
use Rattle.model.specs.Card.{Task}
use Rattle.model.specs.Analysis.{Analysis}
use Rattle.model.specs.Lines.{Line, space_lines, section_lines}
use Rattle.model.specs.Rescue.{if_mixed, rescues}
use Rattle.model.specs.Spaces as model
use Rattle.model.specs.Text.{line_text, text}
use Rattle.model.proofs.RuleCount.{properties_few}
use Rattle.properties.specs.Tables.{bags_in}
use Rattle.text.specs.Kinds.{kind_says}
use Rattle.text.specs.Room.{Room}
use Rattle.text.specs.Written.{Writes}
use Rattle.text.specs.declared.kinds.Kind.{Kind}
use Rattle.text.specs.declared.kinds.Kind.TheVariants.{Static, Attribute, Property, Mixed, Wide, Rescued}
use Rattle.text.proofs.Writing.{nothing, and_then}
use Rattle.space_lines.specs.OwnLines.{own_lines, space_bytes, Listable, SpaceHeld}
use Rattle.space_lines.proofs.Conditions.{rescue_sized}
use Rattle.space_lines.proofs.TaskSections.{Writable, in_order_few, part_writable, section_is, listable}
use Rattle.space_lines.proofs.SectionRoom.{section_fits}
use Rattle.analysis.specs.Rescued.{RescueGiven, rescue_of, RescuedTo}
use Rattle.analysis.specs.declared.rescue.Rescued as code
use Rattle.prepared.specs.declared.Prepared.{Prepared}
use Rattle.prepared.specs.declared.Found.{Found}
use Rattle.prepared.specs.Prepared.{RoomForMoves}
use Rattle.prepared.specs.Found.{analysis_at, FoundOf, FoundIn, found_lines, rescue_lines}
use Rattle.prepared.proofs.Analysing.{own_kept, tables_of}
use Rattle.prepared.proofs.Finding.{number_few, part_found, arities_of_lem, lines_found}

-- ---- the section

-- only a mixed space is rescued
not_mixed : {A : Type 0} (k : Kind) → (k ≡ Mixed → ⊥) → (xs : List A) → if_mixed (kind_says k) xs ≡ []
unfolding if_mixed kind_says
not_mixed Static h xs = refl
not_mixed Attribute h xs = refl
not_mixed Property h xs = refl
not_mixed Mixed h xs = absurd (h refl)
not_mixed Wide h xs = refl
not_mixed Rescued h xs = refl

module _ {t : Task} {number : ℕ} {p : Prepared} {f : Found} {conditions : List ℕ} (h : FoundOf t number p f conditions) where
  abbrev a : Analysis
  a = analysis_at t number

  -- the text of the section, by the analyses that are listed behind the space's own
  section_text : {more : List Analysis} → more ≡ rescues t (analysis_at t number)
      → text (found_lines number p f conditions) ++ text (flat_map (space_lines t number) more) ≡ text (section_lines t number (analysis_at t number))
  unfolding section_lines text flat_map
  section_text {more} e =
      ap (λ (lines : List Line). text lines ++ text (flat_map (space_lines t number) more)) (lines_found h)
      ∙ sym (flat_map_append line_text (space_lines t number a) (flat_map (space_lines t number) more))
      ∙ ap (λ (l : List Analysis). text (flat_map (space_lines t number) (a ∷ l))) e

  -- where it is mixed, the lines of the rescue follow
  pub section_mixed : f.analysed.kind ≡ Mixed → {before mid part : List ℕ} {at n : ℕ} → Writes (text (found_lines number p f conditions)) before mid at
      → Writes (text (rescue_lines t number)) (take (length mid - at) (drop at mid)) part n
      → Writes (text (section_lines t number (analysis_at t number))) before (take at mid ++ (part ++ drop (length mid - at) (drop at mid))) (at + n)
  unfolding rescue_lines rescues if_mixed kind_says
  section_mixed e {before} {mid} {part} {at} {n} w v =
      let kind : model.mixed ≡ a.kind = sym (ap kind_says e) ∙ h.held.kind_is in
      subst (λ (bytes : List ℕ). Writes bytes before (take at mid ++ (part ++ drop (length mid - at) (drop at mid))) (at + n))
      (section_text (ap (λ (k : model.Kind). if_mixed k (rescue_of t a)) kind)) (and_then w v)

  -- where it is not, no line does
  pub section_other : (f.analysed.kind ≡ Mixed → ⊥) → {before after : List ℕ} {n : ℕ}
      → Writes (text (found_lines number p f conditions)) before after n
      → Writes (text (section_lines t number (analysis_at t number))) before after n
  unfolding rescues text flat_map
  section_other other {before} {after} {n} w =
      let none : if_mixed a.kind (rescue_of t a) ≡ [] =
      subst (λ (k : model.Kind). if_mixed k (rescue_of t a) ≡ []) h.held.kind_is (not_mixed _ other (rescue_of t a)) in
      subst (λ (bytes : List ℕ). Writes bytes before after n)
      (sym (append-nil (text (found_lines number p f conditions))) ∙ section_text (sym none)) w

-- ---- the rescue

-- it can be looked for
pub rescuable : {t : Task} {number : ℕ} {p : Prepared} {f : Found} {deletes adds counts starts finishes conditions : List ℕ}
    → FoundIn t number p f deletes adds counts conditions → RoomForMoves (p.parameters + p.properties) starts finishes conditions
    → RescueGiven t (analysis_at t number) f.own (get_or p.spaces.members number 0) f.analysed.hidden p.parameters
    deletes adds counts starts finishes conditions
rescuable {t} {number} {p} h room =
    let fewer : length (analysis_at t number).space.properties ≤ p.properties =
    omega (arith, in_order_few _ _ (part_found h.of).in_order, h.given.prepared.properties_counted) in
    record {
      part = part_found h.of;
      owns = h.of.own_is;
      members_are = h.of.held.members_are;
      hides = h.of.hides;
      tables = tables_of h.given;
      lengths =
          record {
            deletes_long = h.given.room.deletes_room;
            adds_long = h.given.room.adds_room;
            counts_long = h.given.counts_long;
            starts_long = omega (arith, room.starts_room, fewer);
            finishes_long = omega (arith, room.finishes_room, fewer);
            conditions_long = omega (arith, room.conditions_room);
          };
      conditions_long = room.conditions_room;
    }

-- what was found of it
module _ {t : Task} {number : ℕ} {p : Prepared} {f : Found} {conditions : List ℕ} (h : FoundOf t number p f conditions) where
  -- nothing that is listed
  pub rescue_unlisted : rescue_of t (analysis_at t number) ≡ [] → (out : List ℕ) → Writes (text (rescue_lines t number)) out out 0
  unfolding rescue_lines text flat_map
  rescue_unlisted e out =
      subst (λ (l : List Analysis). Writes (text (flat_map (space_lines t number) l)) out out 0) (sym e) (nothing out)

  -- or a space that is
  module _ {r : code.Rescued} {table : List ℕ} (to : RescuedTo t (analysis_at t number) r table) where
    abbrev left : Analysis
    left = to.analysis

    abbrev own_left : List ℕ
    own_left = take r.own.count r.own.properties

    writable : Writable t left
    writable =
        part_writable h.checked to.part (rescue_sized t _ _ _ left (subst (Memᴰ left) (sym to.rescued_is) (Memᴰ.head refl)))

    held : SpaceHeld left Rescued own_left r.members to.before table r.count
    unfolding kind_says
    held =
        record {
          kind_is = sym to.kind_is;
          own_is = own_kept to.owns;
          members_are = to.members_are;
          conditions_held = record { counted = to.counted; table_is = to.conditions_are };
        }

    abbrev lines : List Line
    lines = own_lines number (kind_says Rescued) own_left (members_of r.members) p.arities (bags_in (length own_left) r.count table)

    -- its lines can be written
    pub few_left : r.own.count ≤ 60
    few_left = omega (arith, to.owns.count, writable.narrow)

    pub listable_rescue : Listable (take r.own.count r.own.properties) p.arities table r.count
    listable_rescue = listable writable held (arities_of_lem h) (omega (arith, to.conditions_long))

    pub room_rescue : ((i : ℕ) → get_or table i 0 < 65536) → (out : List ℕ) → space_bytes ≤ length out → Room (text lines) out
    room_rescue small out room =
        section_fits number _ r.members listable_rescue (omega (arith, number_few h))
        (λ c m.
        omega (
          arith,
          properties_few t h.checked,
          in_order_below _ _ writable.in_order c (subst (Memᴰ c) held.own_is m),
        ))
        small out room

    -- and are those of the rescue
    pub rescue_listed : {before after : List ℕ} {n : ℕ} → Writes (text lines) before after n → Writes (text (rescue_lines t number)) before after n
    unfolding rescue_lines flat_map
    rescue_listed {before} {after} {n} w =
        subst (λ (l : List Line). Writes (text l) before after n)
        (section_is writable held (arities_of_lem h) number
        ∙ sym (append-nil (space_lines t number left))
        ∙ ap (flat_map (space_lines t number)) (sym to.rescued_is))
        w
