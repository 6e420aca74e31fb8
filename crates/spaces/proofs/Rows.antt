-- Rows of the tables: what the counts at a place of a table say of a bag, and the first property that a parameter changes.
use Prim.Native.Nat.{ℕ, ◌+◌, ◌*◌, ◌≤◌, ◌<◌}
use Rattle.std.specs.Prelude.{None, Some}
use mathlib.Core.Path.{◌≡◌, refl, sym, ap, ◌∙◌, subst}
use mathlib.Core.Bool.{Bool, true, false, cond, not}
use mathlib.Core.List.Memᴰ
use mathlib.Core.List.{List, [], ◌∷◌, Memᴰ}
use lib.Dec.{eqb, ltb}
use lib.ListN.{length, get_or}
use borrow.Author.Tests.{lt-ltb, le-ltb}
use Rattle.laws.specs.Lists.{keep, up_to}
use Rattle.laws.specs.Bags.{support}
use Rattle.laws.proofs.Lists.{up_to_at, up_to_intro, keep_at, keep_intro, any_intro, any_false}
use Rattle.laws.proofs.Mapped.{keep_ext}
use Rattle.laws.proofs.Walks.{left, kept_passes, kept_fails, kept_none}
use Rattle.masks.specs.Sets.{common_of}
use Rattle.properties.specs.Tables.{bag_at, HasRow}
use Rattle.properties.proofs.Rows.{length_bag_at, get_d_bag_at}
use Rattle.spaces.specs.Steps.{has_start, changed_by, united_by, first_of}

-- a property has a count in the row of a table that begins at a place; and its counts in the rows of two tables differ
unfoldable pub used : List ℕ → ℕ → ℕ → Bool
used table at c = ltb 0 (get_or table (at + c) 0)

unfoldable pub differs : List ℕ → List ℕ → ℕ → ℕ → Bool
differs deletes adds at c = not (eqb (get_or deletes (at + c) 0) (get_or adds (at + c) 0))

-- the members of the space of a property, met with others
abbrev pub meet_at : List ℕ → List ℕ → ℕ → ℕ → ℕ
meet_at groups masks those c = common_of those (get_or masks (get_or groups c 0) 0)

-- the properties of a row's bag
pub support_kept : {size row : ℕ} {table : List ℕ} → HasRow size row table
    → support (bag_at size table row) ≡ keep (used table (60 * row)) (up_to size)
unfolding support used
support_kept {size} {row} {table} there =
    ap (λ (n : ℕ). keep (λ c. ltb 0 (get_or (bag_at size table row) c 0)) (up_to n)) (length_bag_at there)
    ∙ keep_ext _ _ (up_to size) (λ c m. ap (ltb 0) (get_d_bag_at there c (up_to_at size c m)))

module _ {size row : ℕ} {deletes adds : List ℕ} (d : HasRow size row deletes) (a : HasRow size row adds) where
  -- the properties that a row's parameter changes
  pub changed_kept : changed_by (bag_at size deletes row) (bag_at size adds row) ≡ keep (differs deletes adds (60 * row)) (up_to size)
  unfolding changed_by differs
  changed_kept =
      ap (λ (n : ℕ). keep (λ c. not (eqb (get_or (bag_at size deletes row) c 0) (get_or (bag_at size adds row) c 0))) (up_to n)) (length_bag_at d)
      ∙ keep_ext _ _ (up_to size)
      (λ c m. let h = up_to_at size c m in λ i. not (eqb (get_d_bag_at d c h i) (get_d_bag_at a c h i)))

  -- they are among the first `size`
  pub changed_below : (c : ℕ) → Memᴰ c (changed_by (bag_at size deletes row) (bag_at size adds row)) → c < size
  changed_below c m =
      up_to_at size c (keep_at (differs deletes adds (60 * row)) (up_to size) c (subst (Memᴰ c) changed_kept m)).0

  pub united_below : (c : ℕ) → Memᴰ c (united_by (bag_at size deletes row) (bag_at size adds row)) → c < size
  unfolding united_by
  united_below c = go (has_start (bag_at size deletes row) (bag_at size adds row))
    where
      go : (b : Bool) → Memᴰ c (cond b (changed_by (bag_at size deletes row) (bag_at size adds row)) []) → c < size
      go true m = changed_below c m
      go false m = absurd (Memᴰ.not-nil m)

  -- a property that is deleted more often than it is added, or none
  pub start_found : (c : ℕ) → c < size → get_or adds (60 * row + c) 0 < get_or deletes (60 * row + c) 0
      → has_start (bag_at size deletes row) (bag_at size adds row) ≡ true
  unfolding has_start
  start_found c h more =
      any_intro (λ c. ltb (get_or (bag_at size adds row) c 0) (get_or (bag_at size deletes row) c 0)) (up_to (length (bag_at size deletes row))) c
      (up_to_intro (length (bag_at size deletes row)) c (subst (λ (n : ℕ). c < n) (sym (length_bag_at d)) h))
      ((λ i. ltb (get_d_bag_at a c h i) (get_d_bag_at d c h i)) ∙ lt-ltb (get_or adds (60 * row + c) 0) (get_or deletes (60 * row + c) 0) more)

  pub start_none : ((c : ℕ) → c < size → get_or deletes (60 * row + c) 0 ≤ get_or adds (60 * row + c) 0)
      → has_start (bag_at size deletes row) (bag_at size adds row) ≡ false
  unfolding has_start
  start_none none =
      any_false (λ c. ltb (get_or (bag_at size adds row) c 0) (get_or (bag_at size deletes row) c 0)) (up_to (length (bag_at size deletes row)))
      (λ c m.
      let h : c < size = subst (λ (n : ℕ). c < n) (length_bag_at d) (up_to_at (length (bag_at size deletes row)) c m) in
      (λ i. ltb (get_d_bag_at a c h i) (get_d_bag_at d c h i)) ∙ le-ltb (get_or adds (60 * row + c) 0) (get_or deletes (60 * row + c) 0) (none c h))

-- the first number of a list, with the others
first_is : (ns : List ℕ) {n : ℕ} → first_of ns ≡ Some n → (later : List ℕ) × (ns ≡ n ∷ later)
unfolding first_of
first_is [] e = absurd (cc)
first_is (k ∷ ns) e = let f : k ≡ _ = cc in (ns, ap (λ (m : ℕ). m ∷ ns) f)

-- a list with an element has a first number, and it is in the list
first_in : (n : ℕ) (ns : List ℕ) → Memᴰ n ns → (k : ℕ) × (first_of ns ≡ Some k) × Memᴰ k ns
unfolding first_of
first_in n [] m = absurd (Memᴰ.not-nil m)
first_in n (k ∷ ns) m = (k, refl, Memᴰ.head refl)

-- a list without a first number
pub none_first : (ns : List ℕ) → first_of ns ≡ None → ns ≡ []
unfolding first_of
none_first [] e = refl
none_first (k ∷ ns) e = absurd (cc)

module _ (test : ℕ → Bool) (size : ℕ) where
  -- the first number left that passes
  pub first_here : (i : ℕ) → i < size → test i ≡ true → first_of (keep test (left i size)) ≡ Some i
  unfolding first_of
  first_here i h e = ap first_of (kept_passes test i size h e)

  pub first_later : (i : ℕ) → i < size → test i ≡ false → first_of (keep test (left i size)) ≡ first_of (keep test (left (i + 1) size))
  first_later i h e = ap first_of (kept_fails test i size h e)

  pub first_none : (i : ℕ) → size ≤ i → first_of (keep test (left i size)) ≡ None
  unfolding first_of
  first_none i h = ap first_of (kept_none test i size h)

  -- it is below the size
  pub first_below : {n : ℕ} → first_of (keep test (up_to size)) ≡ Some n → n < size
  first_below {n} e =
      let p = first_is (keep test (up_to size)) e in
      up_to_at size n (keep_at test (up_to size) n (subst (Memᴰ n) (sym p.1) (Memᴰ.head refl))).0

  -- where a number passes, there is a first that passes, and it is below the size
  pub first_found : (i : ℕ) → i < size → test i ≡ true → (n : ℕ) × (first_of (keep test (up_to size)) ≡ Some n) × (n < size)
  first_found i h e =
      let p = first_in i (keep test (up_to size)) (keep_intro test (up_to size) i (up_to_intro size i h) e) in
      (p.0, p.1, first_below p.1)
