-- How long the T, M, D, X and E lines of a space are together, for whoever has to show that there is room.
use Prim.Native.Nat.{ℕ, ◌+◌, ◌*◌, ◌≤◌, ◌<◌}
use native.Mathlib.Nat.{mul-le-mul_right}
use native.Mathlib.Omega.{arith}
use mathlib.Core.Path.{◌≡◌, refl, sym, ap, subst, ◌∙◌}
use mathlib.Core.Bool.{Bool}
use mathlib.Core.List.{List, [], ◌∷◌, ◌++◌, map, flat_map, Memᴰ}
use lib.Dec.{leb}
use lib.ListN.{length, get_or, length-append}
use Rattle.laws.specs.Bags.{Bag}
use Rattle.laws.specs.Lists.{keep}
use Rattle.laws.proofs.Counting.{count_most}
use Rattle.laws.proofs.Lists.{keep_at, length_keep, flat_map_append}
use Rattle.model.specs.Lines.{Line, state, limit, membership, exclusions, nestings, minimal, largest, count_of}
use Rattle.model.specs.Text.{line_text, text}
use Rattle.model.proofs.Sections.{exclusion_line, nesting_line}
use Rattle.model.proofs.Nestings.{pairs_few}
use Rattle.sections.specs.Comparisons.{comparison_lines}
use Rattle.sections.specs.Limits.{limits_by}
use Rattle.sections.proofs.ComparisonLines.{minimal_below, minimal_few}
use Rattle.masks.proofs.Ascending.{Below}
use Rattle.text.proofs.Lengths.{state_length, limit_length, membership_length, exclusion_length, nesting_length, text_length}

-- no more is kept than there is
keep_shorter : {A : Type 0} (test : A → Bool) (xs : List A) → length (keep test xs) ≤ length xs
keep_shorter test xs = omega (arith, length_keep test xs, count_most test xs)

-- T lines: at most 364 bytes each
pub states_length : (bags : List Bag) → ((b : Bag) → Memᴰ b bags → (length b ≤ 60) × Below 100000 b)
    → length (text (map state bags)) ≤ 364 * length bags
states_length bags h = text_length 364 state bags (λ b m. omega (arith, state_length b (h b m).1, (h b m).0))

-- M lines: at most 11 bytes for each property
pub limits_length : (arities properties : List ℕ) (bags : List Bag) → Below 100 properties
    → ((c : ℕ) → largest (map (count_of properties c) bags) < 100000) → length (text (limits_by arities properties bags)) ≤ 11 * length properties
unfolding limits_by text flat_map
limits_length arities properties [] h most = omega arith
limits_length arities properties (b ∷ bags) h most =
    omega (
      arith,
      text_length 11 (λ c. limit c (largest (map (count_of properties c) (b ∷ bags)))) (keep (λ c. leb 2 (get_or arities c 0)) properties)
          (λ c m. limit_length c _ (h c (keep_at _ properties c m).0) (most c)),
      keep_shorter (λ c. leb 2 (get_or arities c 0)) properties,
    )

-- lines of at most so many bytes
lines_length : (most : ℕ) (lines : List Line) → ((l : Line) → Memᴰ l lines → length (line_text l) ≤ most)
    → length (text lines) ≤ most * length lines
lines_length most lines h = subst (λ (ls : List Line). length (text ls) ≤ most * length lines) (map-id lines) (text_length most (λ l. l) lines h)
  where
    map-id : (ls : List Line) → map (λ l. l) ls ≡ ls
    map-id [] = refl
    map-id (l ∷ ls) = ap (λ (rest : List Line). l ∷ rest) (map-id ls)

-- D lines: at most 5 bytes each
memberships_length : (indices : List ℕ) → Below 100 indices → length (text (map membership indices)) ≤ 5 * length indices
memberships_length indices h = text_length 5 membership indices (λ i m. membership_length i (h i m))

-- X and E lines: at most 8 bytes each
exclusions_length : (bags : List Bag) (indices : List ℕ) → Below 100 indices
    → length (text (exclusions bags indices)) ≤ 8 * length (exclusions bags indices)
exclusions_length bags indices h =
    lines_length 8 (exclusions bags indices)
    (λ line m.
    let r = exclusion_line bags indices line m in
    subst (λ (l : Line). length (line_text l) ≤ 8) (sym r.3) (exclusion_length r.0 r.1 (h r.0 r.4) (h r.1 r.5)))

nestings_length : (bags : List Bag) → length bags ≤ 64 → length (text (nestings bags)) ≤ 8 * length (nestings bags)
nestings_length bags few =
    lines_length 8 (nestings bags)
    (λ line m.
    let r = nesting_line bags line m in
    subst (λ (l : Line). length (line_text l) ≤ 8) (sym r.5) (nesting_length r.0 r.1 (omega (arith, r.2)) (omega (arith, r.3))))

-- and together no more than there are pairs of conditions: at most 16,128 bytes
pairs_length : (bags : List Bag) → length bags ≤ 64 → length (text (exclusions bags (minimal bags) ++ nestings bags)) ≤ 16128
unfolding text
pairs_length bags few =
    omega (
      arith,
      ap length (flat_map_append line_text (exclusions bags (minimal bags)) (nestings bags))
          ∙ length-append (text (exclusions bags (minimal bags))) (text (nestings bags)),
      exclusions_length bags (minimal bags) (λ i m. omega (arith, minimal_below bags i m)),
      nestings_length bags few,
      pairs_few bags,
      few_pairs (length bags) few,
    )
  where
    few_pairs : (n : ℕ) → n ≤ 64 → n * n ≤ 63 * n + n
    few_pairs n h = omega (arith, mul-le-mul_right n h)

-- D, X and E lines of at most 64 conditions
pub comparisons_length : (bags : List Bag) → length bags ≤ 64 → length (text (comparison_lines bags)) ≤ 16448
unfolding text comparison_lines
comparisons_length bags few =
    omega (
      arith,
      ap length (flat_map_append line_text (map membership (minimal bags)) (exclusions bags (minimal bags) ++ nestings bags))
          ∙ length-append (text (map membership (minimal bags))) (text (exclusions bags (minimal bags) ++ nestings bags)),
      memberships_length (minimal bags) (λ i m. omega (arith, minimal_below bags i m)),
      minimal_few bags,
      pairs_length bags few,
    )
