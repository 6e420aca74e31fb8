-- What the mixed test, D and X mean is unchanged (document 02, No. 2): each is what its text said before it went by the comparison.
use Prim.Native.Nat.{ℕ}
use mathlib.Core.Path.{◌≡◌, ap, ap₂}
use mathlib.Core.Bool.{Bool, not, cond, ◌&&◌}
use mathlib.Core.List.{List, []}
use lib.Dec.{leb}
use lib.ListN.{length, get_or}
use Rattle.laws.specs.Lists.{any, keep, same, up_to}
use Rattle.laws.specs.Bags.{Bag, contains, strictly_contains, listed}
use Rattle.laws.proofs.Mapped.{any_ext, keep_ext}
use Rattle.laws.proofs.Comparisons.{strictly_differs, covers_contains}
use Rattle.model.specs.Extension.{Search, mixed, wide, most_conditions, hidden_by, ending, appending, test}
use Rattle.model.specs.Lines.{minimal, excluded}

-- ---- the former texts

-- the first bag contains the second, and the two differ
unfoldable pub contains_other : Bag → Bag → Bool
contains_other xs ys = contains xs ys && not (same xs ys)

unfoldable pub former_test : Search → Bag → Search
former_test s b =
    cond
    (listed s.own b)
    s
    (cond
    (any (contains_other b) s.own)
    (ending s (mixed (hidden_by s.own b)))
    (cond (not (listed s.known b) && leb most_conditions s.tally) (ending s wide) (appending s b)))

unfoldable pub former_minimal : List Bag → List ℕ
former_minimal bags = keep (λ i. not (any (contains_other (get_or bags i [])) bags)) (up_to (length bags))

unfoldable pub former_excluded : List Bag → ℕ → ℕ → Bool
former_excluded bags i j = not (any (λ b. contains b (get_or bags i []) && contains b (get_or bags j [])) bags)

-- ---- are what is said now

one_inside : (b : Bag) (bags : List Bag) → any (strictly_contains b) bags ≡ any (contains_other b) bags
unfolding contains_other
one_inside b bags = any_ext (strictly_contains b) (contains_other b) bags (λ c m. strictly_differs b c)

pub mixed_test_as_before : (s : Search) (b : Bag) → test s b ≡ former_test s b
unfolding test former_test
mixed_test_as_before s b = rw (one_inside b s.own)

pub minimal_as_before : (bags : List Bag) → minimal bags ≡ former_minimal bags
unfolding minimal former_minimal
minimal_as_before bags = keep_ext _ _ (up_to (length bags)) (λ i m. ap not (one_inside (get_or bags i []) bags))

pub excluded_as_before : (bags : List Bag) (i j : ℕ) → excluded bags i j ≡ former_excluded bags i j
unfolding excluded former_excluded
excluded_as_before bags i j =
    ap not (any_ext _ _ bags (λ b m. ap₂ (λ (p q : Bool). p && q) (covers_contains b (get_or bags i [])) (covers_contains b (get_or bags j []))))
