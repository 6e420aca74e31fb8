-- Numbers on a line, one after the other.
use Prim.Native.Nat.{ℕ, ◌+◌, ◌^◌, ◌≤◌, ◌<◌}
use native.Mathlib.Numerals.{add-one}
use native.Mathlib.Omega.{arith}
use mathlib.Core.Path.{◌≡◌, refl, sym, ap, ap₂, ◌∙◌, subst}
use mathlib.Core.List.{List, [], ◌∷◌, map, flat_map}
use lib.ListN.{length, drop, get_or, drop_of_length-le, length-map, get_or-map}
use Rattle.std.proofs.lemmas.List.{get_or_default}
use lib.Seq.{drop-cons}
use Rattle.masks.specs.Sets.{members_of, first_member, without_first}
use Rattle.masks.proofs.Walking.{walk, no_members}
use Rattle.model.specs.Text.{decimal}
use Rattle.text.specs.Letters.{blank}
use Rattle.text.specs.Numbers.{numbers}
use Rattle.text.specs.Room.{Room}
use Rattle.text.specs.Written.{Writes}
use Rattle.text.proofs.Writing.{Begins}

-- the first number of a list, and the others
pub first_number : (n : ℕ) (ns : List ℕ) → Begins (numbers (n ∷ ns)) (blank ∷ decimal n) (numbers ns)
unfolding numbers flat_map
first_number n ns = record { path = refl }

-- the numbers from a place on are the one that stands there and those from the next on
pub number_at : (ns : List ℕ) (i : ℕ) → i < length ns → Begins (numbers (drop i ns)) (blank ∷ decimal (get_or ns i 0)) (numbers (drop (i + 1) ns))
unfolding numbers flat_map
number_at ns i h = record { path = rw (add-one i, drop-cons ns i 0 h) }

-- from the end on there is none
pub no_number : (ns : List ℕ) (i : ℕ) → length ns ≤ i → numbers (drop i ns) ≡ []
unfolding numbers flat_map
no_number ns i h = rw (drop_of_length-le ns h)

-- of a list whose elements say the numbers
module _ {A : Type 0} (value : A → ℕ) (xs : List A) (i : ℕ) where
  pub value_at :
      (x : A) {n : ℕ} → i < length xs → x ≡ get_or xs i x → n ≡ value x
      → Begins (numbers (drop i (map value xs))) (blank ∷ decimal n) (numbers (drop (i + 1) (map value xs)))
  value_at x {n} h here says =
      subst (λ (m : ℕ). Begins (numbers (drop i (map value xs))) (blank ∷ decimal m) (numbers (drop (i + 1) (map value xs)))) (sym is)
      (number_at (map value xs) i inside)
    where
      inside : i < length (map value xs)
      inside = omega (arith, length-map xs value)

      is : n ≡ get_or (map value xs) i 0
      is = says ∙ ap value here ∙ sym (get_or-map value xs i x) ∙ get_or_default (map value xs) i (value x) 0 inside

  -- from the end on there is none
  pub no_value : length xs ≤ i → numbers (drop i (map value xs)) ≡ []
  unfolding numbers flat_map
  no_value h = rw (drop_of_length-le (map value xs) {i = i} (omega (arith, length-map xs value)))

-- a list whose elements are the numbers
module _ (ns : List ℕ) where
  as_they_are : numbers ns ≡ numbers (map (λ n. n) ns)
  as_they_are = ap numbers (same ns)
    where
      same : (ms : List ℕ) → ms ≡ map (λ n. n) ms
      same [] = refl
      same (m ∷ ms) = ap (λ (l : List ℕ). m ∷ l) (same ms)

  pub room_as_they_are : {buffer : List ℕ} → Room (numbers ns) buffer → Room (numbers (map (λ n. n) ns)) buffer
  room_as_they_are {buffer} room = subst (λ (l : List ℕ). Room l buffer) as_they_are room

  pub written_as_they_are : {before after : List ℕ} {n : ℕ} → Writes (numbers (map (λ n. n) ns)) before after n → Writes (numbers ns) before after n
  written_as_they_are {before} {after} {n} w = subst (λ (l : List ℕ). Writes l before after n) (sym as_they_are) w

-- the lowest member of a mask, and those of the mask without it
pub member_first : {m o rest : ℕ} → (m ≡ 0 → ⊥) → m < 2 ^ 64 → o ≡ first_member m → rest ≡ without_first m
    → Begins (numbers (members_of m)) (blank ∷ decimal o) (numbers (members_of rest))
member_first {m} {o} {rest} some small e f =
    record {
      path =
          ap numbers ((walk (omega arith) small).listed ∙ ap₂ (λ (x y : ℕ). x ∷ members_of y) (sym e) (sym f))
          ∙ (first_number o (members_of rest)).path;
    }

-- the mask 0 has none
pub no_member : {m : ℕ} → m ≡ 0 → numbers (members_of m) ≡ []
unfolding numbers flat_map
no_member none = ap (λ (m : ℕ). numbers (members_of m)) none ∙ ap numbers no_members
