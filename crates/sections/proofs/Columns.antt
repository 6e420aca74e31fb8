-- Columns of a table: the counts of one property, and the largest of them.
use Prim.Native.Nat.{ℕ, zero, suc, ◌+◌, ◌*◌, ◌≤◌, ◌<◌, max}
use native.Mathlib.Omega.{arith}
use mathlib.Core.Path.{◌≡◌, refl, ◌∙◌, subst}
use mathlib.Core.Bool.{true, not}
use mathlib.Core.List.{List, [], ◌∷◌, map, map-map, Memᴰ}
use borrow.Author.Tests.{eq-eqb, ne_eqb}
use lib.ListN.{length, get_or}
use Rattle.laws.specs.Bags.{Bag}
use Rattle.laws.specs.Lists.{up_to, distinct, member}
use Rattle.laws.proofs.Lists.{up_to_at, mem_get_d, member_not}
use Rattle.laws.proofs.Mapped.{map_ext}
use Rattle.laws.proofs.Tests.{and_left, and_right, not-true}
use Rattle.laws.proofs.Walks.{left, left_all, left_one, left_none}
use Rattle.model.specs.Lines.{largest, count_of}
use Rattle.properties.specs.Tables.{stride, bag_at, bags_in, HasRows}
use Rattle.properties.proofs.Rows.{get_d_bag_at}
use Rattle.properties.proofs.RowTables.{has_row}
use Rattle.sections.specs.Limits.{column_of}

-- The largest of a column: what is found so far and the rows from i on say the same as all.
module _ (table : List ℕ) (count column : ℕ) where
  abbrev counts : List ℕ → List ℕ
  counts rows = map (λ i. get_or table (stride * i + column) 0) rows

  abbrev pub LargestFrom : ℕ → ℕ → Type 0
  LargestFrom most i = max most (largest (counts (left i count))) ≡ largest (column_of table count column)

  pub largest_start : LargestFrom 0 0
  unfolding column_of
  largest_start = rw (left_all count) (omega arith)

  pub largest_next : (most i : ℕ) {r : ℕ} → i < count → r ≡ max most (get_or table (stride * i + column) 0) → LargestFrom most i
      → LargestFrom r (i + 1)
  unfolding largest
  largest_next most i h e l = let m = rw (left_one i count h) at l in omega arith

  pub largest_end : (most i : ℕ) → count ≤ i → LargestFrom most i → most ≡ largest (column_of table count column)
  unfolding largest
  largest_end most i h l = let m = rw (left_none i count h) at l in omega arith

-- of distinct properties, the count of the one at place k is the count at that place
count_at : (own : List ℕ) (k : ℕ) (b : Bag) → distinct own ≡ true → k < length own → count_of own (get_or own k 0) b ≡ get_or b k 0
unfolding count_of distinct
count_at [] k b d h = absurd (omega arith)
count_at (c ∷ own) zero [] d h = refl
count_at (c ∷ own) zero (n ∷ b) d h = rw (eq-eqb c c refl)
count_at (c ∷ own) (suc k) [] d h = refl
count_at (c ∷ own) (suc k) (n ∷ b) d h =
    let later : k < length own = omega arith in
    rw (ne_eqb (get_or own k 0) c (apart later)) (count_at own k b (and_right (not (member c own)) (distinct own) d) later)
  where
    apart : k < length own → get_or own k 0 ≡ c → ⊥
    apart l e =
        member_not c own (not-true (member c own) (and_left (not (member c own)) (distinct own) d))
        (subst (λ (x : ℕ). Memᴰ x own) e (mem_get_d own k 0 l))

-- the counts of a property over the bags of a table are its column
pub column_is : (own : List ℕ) (count : ℕ) (table : List ℕ) (k : ℕ) → HasRows (length own) count table → distinct own ≡ true → k < length own
    → map (count_of own (get_or own k 0)) (bags_in (length own) count table) ≡ column_of table count k
unfolding bags_in column_of
column_is own count table k rows apart h =
    map-map (count_of own (get_or own k 0)) (bag_at (length own) table) (up_to count)
    ∙ map_ext _ _ (up_to count)
    (λ i m. count_at own k (bag_at (length own) table i) apart h ∙ get_d_bag_at (has_row (length own) count table rows i (up_to_at count i m)) k h)
