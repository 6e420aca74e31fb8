-- The derived operations of atoms: they compare the four bytes.
use Rattle.std.proofs.Common.{◌≡◌, ℕ, refl, ◌∙◌, ap, arith, Bool, true, false, cond, ◌||◌, ◌&&◌, Option, Some, Ordering, Less, Equal, Greater}
use mathlib.Core.Bool.{and-true}
use lib.Dec.{ltb, eqb}
use Rattle.std.proofs.lemmas.Bool.Decides.{nat_tests}
use Rattle.std.specs.Ordering.{nat_cmp, is_lt, is_some_and, partial_ordering_then, partial_lt}
use Rattle.laws.specs.Lists.{same, before}
use Rattle.card.specs.declared.Atom.{Atom}
use Rattle.card.specs.contracts.AtomPartialOrd as order
use Rattle.reader_atoms.specs.Atoms.{bytes_of}

-- one byte, and the bytes after it where it is the same
at_byte : (x y : ℕ) (o : Option Ordering)
    → is_some_and is_lt (partial_ordering_then (Some (nat_cmp x y)) o) ≡ (ltb x y || (eqb x y && is_some_and is_lt o))
at_byte x y o = go (ltb x y) (eqb x y)
  where
    go : (less equal : Bool)
        → is_some_and is_lt (partial_ordering_then (Some (cond less Less (cond equal Equal Greater))) o) ≡ (less || (equal && is_some_and is_lt o))
    go true equal = refl
    go false true = refl
    go false false = refl

at_last_byte : (x y : ℕ) → is_some_and is_lt (Some (nat_cmp x y)) ≡ (ltb x y || (eqb x y && false))
at_last_byte x y = go (ltb x y) (eqb x y)
  where
    go : (less equal : Bool) → is_some_and is_lt (Some (cond less Less (cond equal Equal Greater))) ≡ (less || (equal && false))
    go true equal = refl
    go false true = refl
    go false false = refl

-- `<` is the order of their bytes
pub less_bytes : (a b : Atom) → partial_lt order.TheImpl.partial_cmp-value.it a b ≡ before (bytes_of a) (bytes_of b)
unfolding before
less_bytes a b =
    let after : ℕ → ℕ → Bool → Bool = λ x y t. ltb x y || (eqb x y && t) in
    at_byte a.predicate b.predicate _
    ∙ ap (after a.predicate b.predicate)
    (at_byte a.first b.first _
    ∙ ap (after a.first b.first) (at_byte a.second b.second _ ∙ ap (after a.second b.second) (at_last_byte a.third b.third)))

eqb_turned : (x y : ℕ) → eqb y x ≡ eqb x y
eqb_turned x y = grind (arith, nat_tests)

-- `==`, the other way round, says whether their bytes are the same
pub equal_bytes : (a b : Atom)
    → (eqb b.predicate a.predicate && (eqb b.first a.first && (eqb b.second a.second && eqb b.third a.third))) ≡ same (bytes_of a) (bytes_of b)
unfolding same
equal_bytes a b =
    rw (eqb_turned a.predicate b.predicate, eqb_turned a.first b.first, eqb_turned a.second b.second, eqb_turned a.third b.third, and-true) refl
