-- The lines of a space are no longer than 40,787 bytes, and there is room for them behind the S line of a mixed space.
use Prim.Native.Nat.{ℕ, ◌+◌, ◌-◌, ◌*◌, ◌≤◌, ◌<◌}
use native.Mathlib.Omega.{arith}
use mathlib.Core.Path.{◌≡◌, refl, sym, ap, subst, ◌∙◌}
use mathlib.Core.Bool.{Bool, true, false, cond}
use mathlib.Core.List.Memᴰ
use mathlib.Core.List.{List, [], ◌∷◌, map, flat_map, Memᴰ}
use lib.Dec.{eqb}
use lib.ListN.{length, get_or, take, drop, length-take, length-drop}
use lib.Seq.{get_or-drop, take_all}
use Rattle.laws.specs.Bags.{Bag}
use Rattle.laws.specs.Lists.{keep, from, up_to}
use Rattle.laws.proofs.Lists.{place_of, mem_take}
use Rattle.masks.specs.Sets.{members_of}
use Rattle.masks.proofs.Members.{members_below, members_few}
use Rattle.model.specs.Calls.{output_bytes}
use Rattle.model.specs.Lines.{space, largest, count_of, lines_open}
use Rattle.model.specs.Spaces.{Kind}
use Rattle.model.specs.Text.{line_text, text}
use Rattle.properties.specs.Tables.{stride, bag_at, bags_in}
use Rattle.properties.proofs.RowTables.{length_bags_in}
use Rattle.sections.specs.Comparisons.{comparison_lines}
use Rattle.sections.specs.Limits.{limits_by}
use Rattle.sections.proofs.SectionLengths.{states_length, limits_length, comparisons_length}
use Rattle.text.specs.Room.{Room}
use Rattle.text.specs.Written.{Writes}
use Rattle.masks.proofs.Ascending.{Below}
use Rattle.text.proofs.Lengths.{parts_length, space_length}
use Rattle.text.proofs.Writing.{as_long}
use Rattle.space_lines.specs.OwnLines.{invariant_lines, condition_lines, own_lines, space_bytes, Listable}
use Rattle.space_lines.proofs.Parts.{limits_first, states_first, space_first}

-- ---- numbers below a bound

module _ (bound : ℕ) (some : 0 < bound) where
  count_below : (properties : List ℕ) (c : ℕ) (b : Bag) → Below bound b → count_of properties c b < bound
  unfolding count_of
  count_below [] c b h = some
  count_below (d ∷ ds) c [] h = some
  count_below (d ∷ ds) c (n ∷ b) h = go (eqb c d) (h n (Memᴰ.head refl)) (count_below ds c b (λ m k. h m (Memᴰ.tail k)))
    where
      go : (x : Bool) {m : ℕ} → n < bound → m < bound → cond x n m < bound
      go true p q = p
      go false p q = q

  largest_below : (ns : List ℕ) → Below bound ns → largest ns < bound
  unfolding largest
  largest_below [] h = some
  largest_below (n ∷ ns) h = omega (arith, h n (Memᴰ.head refl), largest_below ns (λ m k. h m (Memᴰ.tail k)))

  -- so is the largest count of any property over bags of such counts
  most_below : (properties : List ℕ) (bags : List Bag) → ((b : Bag) → Memᴰ b bags → Below bound b)
      → (c : ℕ) → largest (map (count_of properties c) bags) < bound
  most_below properties bags h c =
      largest_below (map (count_of properties c) bags)
      (λ n m.
      let p = Memᴰ.of_map (count_of properties c) bags m in
      subst (λ (x : ℕ). x < bound) p.2 (count_below properties c p.0 (h p.0 p.1)))

-- the bags of a table: no longer than their size, with the table's counts
bag_of_table : (bound size count : ℕ) (table : List ℕ) → ((i : ℕ) → get_or table i 0 < bound)
    → (b : Bag) → Memᴰ b (bags_in size count table) → (length b ≤ size) × Below bound b
unfolding bags_in bag_at
bag_of_table bound size count table h b m =
    let p = Memᴰ.of_map (bag_at size table) (up_to count) m in
    subst (λ (x : Bag). (length x ≤ size) × Below bound x) p.2 (
      omega (arith, length-take size (drop (stride * p.0) table)),
      λ n k.
          let q = place_of (drop (stride * p.0) table) n 0 (mem_take size (drop (stride * p.0) table) n k) in
          subst (λ (x : ℕ). x < bound) (sym (get_or-drop (stride * p.0) table q.0 0) ∙ q.2) (h (stride * p.0 + q.0)),
    )

-- ---- the lines of a section

-- the lines of at most 64 conditions over at most 60 properties
conditions_length : (arities own : List ℕ) (bags : List Bag) → length bags ≤ 64 → length own ≤ 60 → Below 100 own
    → ((b : Bag) → Memᴰ b bags → (length b ≤ 60) × Below 100000 b)
    → length (text (condition_lines arities own bags)) ≤ 40404
conditions_length arities own bags few narrow below small =
    omega (
      arith,
      parts_length (states_first arities own bags),
      parts_length (limits_first arities own bags),
      states_length bags small,
      limits_length arities own bags below (most_below 100000 (omega arith) own bags (λ b m. (small b m).1)),
      comparisons_length bags few,
    )

-- the S line
space_line_length : {own : List ℕ} (number : ℕ) (kind : Kind) (members : ℕ) → number < 100 → length own ≤ 60 → Below 100 own
    → length (line_text (space number kind own (members_of members))) ≤ 383
space_line_length {own} number kind members h narrow below =
    omega (
      arith,
      space_length number kind own (members_of members) h below (λ o m. omega (arith, members_below members o m)),
      members_few members,
    )

-- so there is room for all lines of a space
pub section_fits : {own arities table : List ℕ} {count : ℕ} (number : ℕ) (kind : Kind) (members : ℕ) → Listable own arities table count
    → number < 100 → Below 100 own → ((i : ℕ) → get_or table i 0 < 65536) → (out : List ℕ) → space_bytes ≤ length out
    → Room (text (own_lines number kind own (members_of members) arities (bags_in (length own) count table))) out
section_fits {own} {arities} {table} {count} number kind members l h below small out room =
    let bags = bags_in (length own) count table in
    record {
      fits =
          omega (
            arith,
            parts_length (space_first arities own bags number kind (members_of members)),
            space_line_length number kind members h l.rows.narrow below,
            conditions_length arities own bags (omega (arith, length_bags_in (length own) count table, l.few)) l.rows.narrow below
                (λ b m.
                let s = bag_of_table 65536 (length own) count table small b m in
                (omega (arith, s.0, l.rows.narrow), λ n k. omega (arith, s.1 n k))),
          );
    }

-- a space without conditions has its S line alone
no_lines : (arities own : List ℕ) → text (condition_lines arities own []) ≡ []
unfolding condition_lines invariant_lines limits_by comparison_lines lines_open text flat_map keep up_to from
no_lines arities own = refl

-- behind which there is room for the lines of another, in a buffer of 65,536 bytes
pub room_behind : {own : List ℕ} (arities : List ℕ) (number : ℕ) (kind : Kind) (members : ℕ) → number < 100 → length own ≤ 60 → Below 100 own
    → {out mid : List ℕ} {at : ℕ} → output_bytes ≤ length out → Writes (text (own_lines number kind own (members_of members) arities [])) out mid at
    → (at ≤ length mid) × (space_bytes ≤ length (take (length mid - at) (drop at mid)))
room_behind {own} arities number kind members h narrow below {out} {mid} {at} room w =
    let short : at ≤ 383 =
    omega (
      arith,
      w.count,
      parts_length (space_first arities own [] number kind (members_of members)),
      ap length (no_lines arities own),
      space_line_length number kind members h narrow below,
    ) in
    let kept : length mid ≡ length out = as_long w (omega (arith, short, room)) in (
      omega (arith, short, room, kept),
      rw (take_all (length mid - at) (drop at mid) (simp length-drop (omega arith))) (simp length-drop (omega (arith, short, room, kept))),
    )
