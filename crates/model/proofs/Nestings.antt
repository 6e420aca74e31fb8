-- E lines (document 02, No. 2): they stand for exactly the strict pairs of conditions, in order, and there are few of them beside X lines.
use Prim.Native.Nat.{ℕ, ◌+◌, ◌*◌, ◌≤◌, ◌<◌}
use native.Mathlib.Omega.{arith}
use mathlib.Core.Path.{◌≡◌, refl, sym, ◌∙◌, subst}
use mathlib.Core.Bool.{Bool, true, false, cond, not, ◌&&◌}
use mathlib.Core.List.Memᴰ
use mathlib.Core.List.{List, [], ◌∷◌, map, flat_map, Memᴰ}
use lib.Dec.{ltb, eqb}
use lib.ListN.{length, get_or, length-map, length-append}
use borrow.Author.Tests.{eq-eqb}
use Rattle.laws.specs.Lists.{any, keep, count, up_to, before}
use Rattle.laws.specs.Bags.{Bag, contains, strictly_contains, strictly_within}
use Rattle.laws.proofs.Tests.{never, by_test, and_left, and_right, and_intro, or_left, or_right, not-true}
use Rattle.laws.proofs.Counting.{count_keep}
use Rattle.laws.proofs.Lists.{any_none, count_none, flat_map_intro, keep_intro, length_keep, length_up_to, mem_get_d, up_to_at, up_to_intro}
use Rattle.laws.proofs.Increasing.{Increasing, increasing_flat_map, increasing_keep, increasing_map, increasing_up_to}
use Rattle.laws.proofs.Comparisons.{strictly_irrefl, strictly_asym, strictly_at, strictly_intro, within_turned}
use Rattle.laws.proofs.Pairs.{later_pairs, pairs_with, Once, pairs_once}
use Rattle.model.specs.Lines.{Line, space, state, limit, membership, exclusion, nesting, total, ceiling, types}
use Rattle.model.specs.Lines.{minimal, excluded, exclusions, surrounding, nestings}
use Rattle.model.proofs.Sections.{nesting_line}

-- ---- exactly the strict pairs

-- Condition i is strictly within condition j: j contains i, and the two differ.
pub record Nested (bags : List Bag) (i j : ℕ) : Type 0 where
  pub inner_listed : i < length bags
  pub outer_listed : j < length bags
  pub contained : contains (get_or bags j []) (get_or bags i []) ≡ true
  pub differ : get_or bags i [] ≡ get_or bags j [] → ⊥

-- each E line gives such a pair
pub nesting_nested : (bags : List Bag) (i j : ℕ) → Memᴰ (nesting i j) (nestings bags) → Nested bags i j
nesting_nested bags i j m =
    let r = nesting_line bags (nesting i j) m in
    let first : r.0 ≡ i = cc in
    let second : r.1 ≡ j = cc in
    let inside = strictly_at (get_or bags r.1 []) (get_or bags r.0 []) (sym (within_turned (get_or bags r.0 []) (get_or bags r.1 [])) ∙ r.4) in
    subst (λ (x : ℕ). Nested bags x j) first
    (subst (λ (x : ℕ). Nested bags r.0 x) second
    record { inner_listed = r.2; outer_listed = r.3; contained = inside.0; differ = λ e. inside.1 (sym e) })

-- and each such pair has one
pub nested_nesting : (bags : List Bag) (i j : ℕ) → Nested bags i j → Memᴰ (nesting i j) (nestings bags)
unfolding nestings surrounding
nested_nesting bags i j n =
    flat_map_intro (λ k. map (nesting k) (surrounding bags k)) (up_to (length bags)) i (nesting i j)
    (up_to_intro (length bags) i n.inner_listed)
    (Memᴰ.map (nesting i)
    (keep_intro (λ k. strictly_within (get_or bags i []) (get_or bags k [])) (up_to (length bags)) j (up_to_intro (length bags) j n.outer_listed)
    (within_turned (get_or bags i []) (get_or bags j []) ∙ strictly_intro (get_or bags j []) (get_or bags i []) n.contained (λ e. n.differ (sym e)))))

-- ---- in order

-- the numbers of an E line
unfoldable pub numbers_of : Line → List ℕ
numbers_of (space n kind properties members) = []
numbers_of (state counts) = []
numbers_of (limit c most) = []
numbers_of (membership i) = []
numbers_of (exclusion i j) = []
numbers_of (nesting i j) = i ∷ j ∷ []
numbers_of (total p n) = []
numbers_of (ceiling p n) = []
numbers_of (types n k objects) = []

-- an E line stands before another: by i, then j
unfoldable pub earlier : Line → Line → Bool
earlier x y = before (numbers_of x) (numbers_of y)

-- so the lines ascend, and none stands twice
pub nestings_ascend : (bags : List Bag) → Increasing earlier (nestings bags)
unfolding nestings surrounding earlier numbers_of before
nestings_ascend bags =
    increasing_flat_map ltb earlier (λ i. map (nesting i) (surrounding bags i))
    (λ i k h x y m n.
    let p = Memᴰ.of_map (nesting i) (surrounding bags i) m in
    let q = Memᴰ.of_map (nesting k) (surrounding bags k) n in
    subst (λ (l : Line). earlier l y ≡ true) p.2 (subst (λ (l : Line). earlier (nesting i p.0) l ≡ true) q.2 (by_first i k p.0 q.0 h)))
    (up_to (length bags))
    (λ i m.
    increasing_map ltb earlier (nesting i) (λ j k h. by_second i j k h) (surrounding bags i)
    (increasing_keep ltb (λ j. strictly_within (get_or bags i []) (get_or bags j [])) (up_to (length bags)) (increasing_up_to (length bags))))
    (increasing_up_to (length bags))
  where
    by_first : (i k j l : ℕ) → ltb i k ≡ true → earlier (nesting i j) (nesting k l) ≡ true
    by_first i k j l h = or_left (ltb i k) (eqb i k && before (j ∷ []) (l ∷ [])) h

    by_second : (i j k : ℕ) → ltb j k ≡ true → earlier (nesting i j) (nesting i k) ≡ true
    by_second i j k h =
        or_right (ltb i i) (eqb i i && before (j ∷ []) (k ∷ []))
        (and_intro (eqb i i) (before (j ∷ []) (k ∷ [])) (eq-eqb i i refl) (or_left (ltb j k) (eqb j k && before [] []) h))

-- ---- few: X joins two minimal conditions, and the outer condition of an E is not minimal, so two conditions have at most one line

module _ (bags : List Bag) where
  -- a condition strictly contains no other
  least : ℕ → Bool
  least i = not (any (strictly_contains (get_or bags i [])) bags)

  -- two conditions have an X line, in the order of their indices; the first has an E line with the second
  abbrev excluded_pair : ℕ → ℕ → Bool
  excluded_pair i j = least i && (least j && excluded bags i j)

  abbrev nested_pair : ℕ → ℕ → Bool
  nested_pair i j = strictly_within (get_or bags i []) (get_or bags j [])

  -- the outer condition strictly contains the inner one
  outer_not_least : (i j : ℕ) → i < length bags → nested_pair i j ≡ true → least j ≡ true → ⊥
  unfolding least
  outer_not_least i j h e l =
      never
      (sym (sym (within_turned (get_or bags i []) (get_or bags j [])) ∙ e)
      ∙ any_none (strictly_contains (get_or bags j [])) bags (not-true (any (strictly_contains (get_or bags j [])) bags) l) (get_or bags i []) (mem_get_d bags i [] h))

  pairs_apart : Once excluded_pair nested_pair (up_to (length bags))
  pairs_apart =
      record {
        alone = λ i j m k e.
            let both = and_right (least i) (least j && excluded bags i j) e in (
              by_test (nested_pair i j) (λ n. absurd (outer_not_least i j (up_to_at (length bags) i m) n (and_left (least j) (excluded bags i j) both))) (λ n. n),
              by_test (nested_pair j i)
                  (λ n. absurd (outer_not_least j i (up_to_at (length bags) j k) n (and_left (least i) (least j && excluded bags i j) e))) (λ n. n),
            );
        one_way = λ i j m k e.
            within_turned (get_or bags j []) (get_or bags i [])
            ∙ strictly_asym (get_or bags j []) (get_or bags i []) (sym (within_turned (get_or bags i []) (get_or bags j [])) ∙ e);
        not_itself = λ i m. within_turned (get_or bags i []) (get_or bags i []) ∙ strictly_irrefl (get_or bags i []);
      }

  -- the X lines of the minimal ones among some conditions
  exclusions_paired : (indices : List ℕ) → length (exclusions bags (keep least indices)) ≡ later_pairs excluded_pair indices
  unfolding keep exclusions later_pairs
  exclusions_paired [] = refl
  exclusions_paired (i ∷ later) = go (least i) (exclusions_paired later)
    where
      go : (b : Bool) → length (exclusions bags (keep least later)) ≡ later_pairs excluded_pair later
          → length (exclusions bags (cond b (i ∷ keep least later) (keep least later)))
          ≡ count (λ j. b && (least j && excluded bags i j)) later + later_pairs excluded_pair later
      go true rest =
          omega (
            arith,
            length-append (map (exclusion i) (keep (excluded bags i) (keep least later))) (exclusions bags (keep least later)),
            length-map (keep (excluded bags i) (keep least later)) (exclusion i),
            length_keep (excluded bags i) (keep least later),
            count_keep (excluded bags i) least later,
          )
      go false rest = omega (arith, count_none (λ j. false) later (λ j m. refl))

  -- the E lines of some conditions
  nestings_paired : (indices : List ℕ)
      → length (flat_map (λ i. map (nesting i) (surrounding bags i)) indices) ≡ pairs_with nested_pair indices (up_to (length bags))
  unfolding flat_map pairs_with surrounding
  nestings_paired [] = refl
  nestings_paired (i ∷ indices) =
      omega (
        arith,
        length-append (map (nesting i) (surrounding bags i)) (flat_map (λ k. map (nesting k) (surrounding bags k)) indices),
        length-map (surrounding bags i) (nesting i),
        length_keep (nested_pair i) (up_to (length bags)),
        nestings_paired indices,
      )

  -- X and E lines together
  pub pairs_few : 2 * (length (exclusions bags (minimal bags)) + length (nestings bags)) + length bags ≤ length bags * length bags
  unfolding minimal nestings least
  pairs_few =
      subst
      (λ (n : ℕ). 2 * (length (exclusions bags (minimal bags)) + length (nestings bags)) + n ≤ n * n)
      (length_up_to (length bags))
      (omega (
        arith,
        exclusions_paired (up_to (length bags)),
        nestings_paired (up_to (length bags)),
        pairs_once excluded_pair nested_pair (up_to (length bags)) pairs_apart,
      ))
