-- Loops over the items of a list that say, at each place, what is left to check there: where they stop, go on and end.
use Rattle.std.proofs.Common.{◌≡◌, ℕ, ◌+◌, ◌-◌, ◌≤◌, ◌<◌, Bool, List, [], ◌∷◌, ◌||◌, ◌&&◌, length, get_or, take, drop, map}
use Rattle.std.proofs.Common.{refl, sym, ap, ◌∙◌, add-one, drop-cons, Ok, Err}
use Rattle.std.proofs.Math.Option.{Option, none, some}
use Rattle.std.specs.List.{list_any, list_all}
use Rattle.std.proofs.Math.ListN.{length-map, get_or-map, drop_of_length-le}
use native.Mathlib.Nat.{sub-zero}
use Rattle.laws.specs.Lists.{any, all}
use Rattle.model.specs.Answer.{Answer, ◌>>◌}
use Rattle.model.specs.Writer.{each}
use Rattle.card.specs.declared.Refusal.{Refusal}
use Rattle.card.specs.declared.AtomList.{AtomList}
use Rattle.card.specs.Represents.{atom_of, atoms_of}
use Rattle.card.proofs.Entries.{atoms_within}
use Rattle.writer_checks.specs.Checking.{checked_says}

-- a search of the code's, and the definition's
pub any_same : {A B : Type 0} (test : B → Bool) (f : A → B) (xs : List A) → list_any (λ x. test (f x)) xs ≡ any test (map f xs)
unfolding any
any_same test f [] = refl
any_same test f (x ∷ xs) = ap (λ b. test (f x) || b) (any_same test f xs)

-- and a test of every item
pub all_same : {A : Type 0} (test : A → Bool) (xs : List A) → list_all test xs ≡ all test xs
unfolding all
all_same test [] = refl
all_same test (x ∷ xs) = ap (λ b. test x && b) (all_same test xs)

-- the atoms of a list, which the code reads as the first of its array
pub atoms_read : (arities : List ℕ) (l : AtomList) → l.count ≤ length l.atoms → map (atom_of arities) (take (l.count - 0) l.atoms) ≡ atoms_of arities l
atoms_read arities l h = rw sub-zero (sym (atoms_within arities l h))

-- checks of items one after the other, each told the item before it: what is left to check at place i is the answer
module _ {A B : Type 0} (check : Option B → B → Answer (Unit {0})) (f : A → B) (xs : List A) (i : ℕ) where
  here : (d : A) → i < length xs → drop i (map f xs) ≡ f (get_or xs i d) ∷ drop (i + 1) (map f xs)
  here d at = drop-cons (map f xs) i (f d) (rw length-map at) ∙ rw (get_or-map f xs i d, add-one)

  module _ (p : Option B) (left : each check p (drop i (map f xs)) ≡ each check none (map f xs)) where
    module _ (d : A) (at : i < length xs) where
      -- a refusal is the answer
      pub item_refused : (r : Refusal) → checked_says (Err r) ≡ check p (f (get_or xs i d)) → checked_says (Err r) ≡ each check none (map f xs)
      unfolding each checked_says ◌>>◌
      item_refused r says = rw (here d at, ← says) at left

      -- after a check that passed the next item is due, and it is told this one
      pub item_passed : (done : Unit {0}) → checked_says (Ok done) ≡ check p (f (get_or xs i d))
          → each check (some (f (get_or xs i d))) (drop (i + 1) (map f xs)) ≡ each check none (map f xs)
      unfolding each checked_says ◌>>◌
      item_passed done says = rw (here d at, ← says) at left

    -- at the end all have passed
    pub items_passed : (done : Unit {0}) → length xs ≤ i → checked_says (Ok done) ≡ each check none (map f xs)
    unfolding each checked_says
    items_passed done h = rw (drop_of_length-le (map f xs) {i = i} (rw length-map h)) at left
