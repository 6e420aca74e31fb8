-- Two bags compared: what each answer says, and turned round; what is asked of a comparison; the least bags of a list.
use Prim.Native.Nat.{ℕ, zero, suc, ◌<◌}
use native.Mathlib.Nat.{not-suc-le-zero, le_refl}
use native.Mathlib.Omega.{arith}
use mathlib.Core.Path.{◌≡◌, refl, sym, ap, ap₂, ◌∙◌, subst}
use mathlib.Core.Bool.{Bool, true, false, not, ◌&&◌, ◌||◌}
use mathlib.Core.List.{List, Memᴰ}
use Rattle.laws.specs.Lists.{any, sum, same}
use Rattle.laws.specs.Bags.{Bag, contains, Comparison, equal, within, around, apart, comparison, compare, is_equal, is_within, is_around}
use Rattle.laws.specs.Bags.{strictly_contains, strictly_within, covers}
use Rattle.laws.proofs.Tests.{never, and_left, and_right, and_intro, not-true, to_not_true, by_test, same_test}
use Rattle.laws.proofs.Lists.{any_at, same_eq, same_refl}
use Rattle.laws.proofs.Bags.{contains_refl, contains_trans, contains_antisym, contains_sum_less}

-- ---- what an answer says

abbrev pub Says : Comparison → Bag → Bag → Type 0
Says equal a b = a ≡ b
Says within a b = (contains b a ≡ true) × (a ≡ b → ⊥)
Says around a b = (contains a b ≡ true) × (a ≡ b → ⊥)
Says apart a b = (contains a b ≡ false) × (contains b a ≡ false)

-- bags of which one does not contain the other differ
differ : (a b : Bag) → contains a b ≡ false → a ≡ b → ⊥
differ a b p e = never (sym (subst (λ (c : Bag). contains a c ≡ true) e (contains_refl a)) ∙ p)

-- and bags that differ do not contain each other
not_both : (a b : Bag) → contains a b ≡ true → (a ≡ b → ⊥) → contains b a ≡ false
not_both a b h d = by_test (contains b a) (λ k. absurd (d (contains_antisym a b h k))) (λ k. k)

-- the answer of a comparison is so
pub compare_says : (a b : Bag) → Says (compare a b) a b
unfolding compare comparison
compare_says a b = go (contains a b) (contains b a) refl refl
  where
    go : (p q : Bool) → contains a b ≡ p → contains b a ≡ q → Says (comparison p q) a b
    go true true p q = contains_antisym a b p q
    go true false p q = (p, λ e. differ b a q (sym e))
    go false true p q = (q, differ a b p)
    go false false p q = (p, q)

-- and what is so is the answer
pub compare_is : (a b : Bag) (c : Comparison) → Says c a b → compare a b ≡ c
unfolding compare comparison
compare_is a b equal e =
    ap₂ comparison (subst (λ (x : Bag). contains a x ≡ true) e (contains_refl a)) (subst (λ (x : Bag). contains x a ≡ true) e (contains_refl a))
compare_is a b within (h, d) = ap₂ comparison (not_both b a h (λ e. d (sym e))) h
compare_is a b around (h, d) = ap₂ comparison h (not_both a b h d)
compare_is a b apart (h, k) = ap₂ comparison h k

-- the answer the other way round
unfoldable pub turned : Comparison → Comparison
turned equal = equal
turned within = around
turned around = within
turned apart = apart

pub compare_turned : (a b : Bag) → compare b a ≡ turned (compare a b)
unfolding compare comparison turned
compare_turned a b = go (contains a b) (contains b a)
  where
    go : (p q : Bool) → comparison q p ≡ turned (comparison p q)
    go true true = refl
    go true false = refl
    go false true = refl
    go false false = refl

-- ---- what is asked of a comparison, by what the bags contain

pub strictly_by_contains : (a b : Bag) → strictly_contains a b ≡ (contains a b && not (contains b a))
unfolding strictly_contains compare comparison is_around
strictly_by_contains a b = go (contains a b) (contains b a)
  where
    go : (p q : Bool) → is_around (comparison p q) ≡ (p && not q)
    go true true = refl
    go true false = refl
    go false true = refl
    go false false = refl

pub within_turned : (a b : Bag) → strictly_within a b ≡ strictly_contains b a
unfolding strictly_contains strictly_within compare comparison is_around is_within
within_turned a b = go (contains a b) (contains b a)
  where
    go : (p q : Bool) → is_within (comparison p q) ≡ is_around (comparison q p)
    go true true = refl
    go true false = refl
    go false true = refl
    go false false = refl

pub within_by_contains : (a b : Bag) → strictly_within a b ≡ (contains b a && not (contains a b))
within_by_contains a b = within_turned a b ∙ strictly_by_contains b a

pub covers_contains : (a b : Bag) → covers a b ≡ contains a b
unfolding covers compare comparison is_equal is_around
covers_contains a b = go (contains a b) (contains b a)
  where
    go : (p q : Bool) → (is_equal (comparison p q) || is_around (comparison p q)) ≡ p
    go true true = refl
    go true false = refl
    go false true = refl
    go false false = refl

-- strict containment: contained, and another bag
pub strictly_at : (a b : Bag) → strictly_contains a b ≡ true → (contains a b ≡ true) × (a ≡ b → ⊥)
strictly_at a b e =
    let both = sym (strictly_by_contains a b) ∙ e in (
      and_left (contains a b) (not (contains b a)) both,
      λ p. differ b a (not-true (contains b a) (and_right (contains a b) (not (contains b a)) both)) (sym p),
    )

pub strictly_intro : (a b : Bag) → contains a b ≡ true → (a ≡ b → ⊥) → strictly_contains a b ≡ true
strictly_intro a b p d =
    strictly_by_contains a b ∙ and_intro (contains a b) (not (contains b a)) p (to_not_true (contains b a) (not_both a b p d))

-- as document 01 words it: contained, and the two differ
pub strictly_differs : (a b : Bag) → strictly_contains a b ≡ (contains a b && not (same a b))
strictly_differs a b =
    same_test (strictly_contains a b) (contains a b && not (same a b))
    (λ e.
    let s = strictly_at a b e in
    and_intro (contains a b) (not (same a b)) s.0
    (to_not_true (same a b) (by_test (same a b) (λ f. absurd (s.1 (same_eq a b f))) (λ f. f))))
    (λ e.
    strictly_intro a b (and_left (contains a b) (not (same a b)) e)
    (λ p.
    never
    (sym (subst (λ (c : Bag). same a c ≡ true) p (same_refl a)) ∙ not-true (same a b) (and_right (contains a b) (not (same a b)) e))))

-- two bags are the same if the comparison says so
pub same_by_compare : (a b : Bag) → same a b ≡ is_equal (compare a b)
unfolding is_equal
same_by_compare a b =
    same_test (same a b) (is_equal (compare a b))
    (λ e. ap is_equal (compare_is a b equal (same_eq a b e)))
    (λ e. subst (λ (c : Bag). same a c ≡ true) (told (compare a b) e (compare_says a b)) (same_refl a))
  where
    told : (c : Comparison) → is_equal c ≡ true → Says c a b → a ≡ b
    told equal e says = says
    told within e says = never (sym e)
    told around e says = never (sym e)
    told apart e says = never (sym e)

-- no bag strictly contains itself, and no two each other
pub strictly_irrefl : (a : Bag) → strictly_contains a a ≡ false
strictly_irrefl a = by_test (strictly_contains a a) (λ e. absurd ((strictly_at a a e).1 refl)) (λ e. e)

pub strictly_asym : (a b : Bag) → strictly_contains a b ≡ true → strictly_contains b a ≡ false
strictly_asym a b e =
    by_test (strictly_contains b a)
    (λ f. let s = strictly_at a b e in absurd (s.1 (contains_antisym a b s.0 (strictly_at b a f).0)))
    (λ f. f)

-- below each bag of a list there is one of the list that strictly contains none of the list
pub least_below : (bags : List Bag) (b : Bag) → Memᴰ b bags
    → (m : Bag) × Memᴰ m bags × (contains b m ≡ true) × (any (strictly_contains m) bags ≡ false)
least_below bags b k = descend (suc (sum b)) b k (le_refl (suc (sum b)))
  where
    descend : (fuel : ℕ) (b : Bag) → Memᴰ b bags → sum b < fuel
        → (m : Bag) × Memᴰ m bags × (contains b m ≡ true) × (any (strictly_contains m) bags ≡ false)
    descend zero b k h = absurd (not-suc-le-zero h)
    descend (suc fuel) b k h =
        by_test (any (strictly_contains b) bags)
        (λ e.
        let r = any_at (strictly_contains b) bags e in
        let c = r.0 in
        let s = strictly_at b c r.2 in
        let fewer = contains_sum_less b c s.0 s.1 in
        let m = descend fuel c r.1 (omega arith) in
        (m.0, m.1, contains_trans b c m.0 s.0 m.2, m.3))
        (λ e. (b, k, contains_refl b, e))
