-- Sets of numbers kept as ascending lists: whether and where a number stands, and the set without it and with it.
use Rattle.std.specs.Prelude.{ℕ, suc, ◌-◌, ◌≤◌, ◌≡◌, Bool, true, cond, not, ◌&&◌, leb, ltb, eqb, length, take, drop, replicate, Result, Ok, Err}
use mathlib.Core.List.{List, [], ◌∷◌, ◌++◌, foldl}
use Rattle.laws.specs.Lists.{keep, member, padded}

-- the list ascends strictly, from `bound` on
unfoldable pub rising : ℕ → List ℕ → Bool
rising bound [] = true
rising bound (n ∷ ns) = leb bound n && rising (suc n) ns

-- how many numbers at the front stand below n: its place in an ascending list
unfoldable pub place : ℕ → List ℕ → ℕ
place n [] = 0
place n (m ∷ ms) = let later = place n ms in cond (ltb m n) (suc later) 0

-- where n stands, or else where it would stand
unfoldable pub found : ℕ → List ℕ → Result ℕ ℕ
found n ns = cond (member n ns) (Ok (place n ns)) (Err (place n ns))

-- the list without n
unfoldable pub without : ℕ → List ℕ → List ℕ
without n ns = keep (λ m. not (eqb n m)) ns

-- n put into its place; nothing changes if it is there
unfoldable pub inserted : ℕ → List ℕ → List ℕ
inserted n [] = n ∷ []
inserted n (m ∷ ms) = let later = inserted n ms in cond (eqb n m) (m ∷ ms) (cond (ltb n m) (n ∷ m ∷ ms) (m ∷ later))

-- the first `count` numbers with the one at a place gone, those after it moved down, and 0 behind them; the rest is left
unfoldable pub gap_closed : ℕ → ℕ → List ℕ → List ℕ
gap_closed at count ns = take at ns ++ drop (suc at) (take count ns) ++ 0 ∷ drop count ns

-- the first `count` numbers with n at a place, those from there on moved up; the rest is left
unfoldable pub room_made : ℕ → ℕ → ℕ → List ℕ → List ℕ
room_made at count n ns = take at ns ++ n ∷ (drop at (take count ns) ++ drop (suc count) ns)

-- numbers taken out one after the other, and put in one after the other
unfoldable pub without_all : List ℕ → List ℕ → List ℕ
without_all out ns = foldl (λ ms n. without n ms) ns out

unfoldable pub inserted_all : List ℕ → List ℕ → List ℕ
inserted_all new ns = foldl (λ ms n. inserted n ms) ns new

-- A set kept in a longer list: its numbers ascend at the front, and 0 stands behind them.
pub record SetKept (count : ℕ) (ns : List ℕ) : Type 0 where
  pub few : count ≤ length ns
  pub ascends : rising 0 (take count ns) ≡ true
  pub blank : drop count ns ≡ replicate (length ns - count) 0

-- What a change leaves: a set, filled up to the length there was, and its count.
pub record Becomes (set before after : List ℕ) (r : ℕ) : Type 0 where
  pub listed : after ≡ padded (length before) 0 set
  pub counted : r ≡ length set
