-- Two atoms compared by all their bytes: as the definitions compare them, since places past the arity hold 0.
use Prim.Native.Nat.{ℕ, zero, suc, ◌+◌, ◌*◌, ◌≤◌, ◌<◌}
use native.Mathlib.Nat.{mul-suc, mul-le-mul_left}
use native.Mathlib.Omega.{arith}
use mathlib.Core.Bool.{Bool, true, false, ◌&&◌, ◌||◌, or-false, and-true}
use mathlib.Core.List.{List, [], ◌∷◌, ◌++◌, map}
use mathlib.Core.Logic.{◌⊎◌, inl, inr}
use mathlib.Core.Path.{◌≡◌, refl, ap, ap₂, ◌∙◌, sym, subst, subst⁻¹}
use borrow.Author.Tests.{eq-eqb, eqb-true, ne_eqb, lt-ltb, le-ltb}
use Rattle.std.proofs.lemmas.Bool.Decides.{nat_tests}
use lib.Dec.{ltb, eqb}
use lib.ListN.{length, take, drop, get_or, length-take}
use Rattle.laws.specs.Lists.{any, same, before}
use Rattle.laws.proofs.Orders.{before_append, compared as ordered}
use Rattle.model.specs.Card as model
use Rattle.card.specs.declared.Atom.{Atom}
use Rattle.card.specs.declared.AtomList.{AtomList}
use Rattle.card.specs.Represents.{entries, blank_atom, atom_of, atom_for}
use Rattle.card.proofs.Entries.{next_entry, no_entry}
use Rattle.reader_atoms.specs.Atoms.{bytes_of, number_of, argument_places, has_bytes}

eqb_self : (x : ℕ) → eqb x x ≡ true
eqb_self x = eq-eqb x x refl

-- lists that differ at their first number are in the order of those
pub before_differs : (x y : ℕ) (xs ys : List ℕ) → (x ≡ y → ⊥) → before (x ∷ xs) (y ∷ ys) ≡ ltb x y
unfolding before
before_differs x y xs ys d = rw (ne_eqb x y d, or-false)

-- lists with the same first number are in the order of what follows
pub before_equal : (x y : ℕ) (xs ys : List ℕ) → x ≡ y → before (x ∷ xs) (y ∷ ys) ≡ before xs ys
unfolding before
before_equal x y xs ys e = rw (eq-eqb x y e, le-ltb x y (omega arith))

pub before_last : (x y : ℕ) → before (x ∷ []) (y ∷ []) ≡ ltb x y
unfolding before
before_last x y = go (eqb x y)
  where
    go : (b : Bool) → (ltb x y || (b && false)) ≡ ltb x y
    go true = or-false (ltb x y)
    go false = or-false (ltb x y)

shifted : (k m n : ℕ) → ltb (k + m) (k + n) ≡ ltb m n
shifted k m n = grind (arith, nat_tests)

-- numbers whose high parts are elements, and whose low parts are in the order of what follows, are in the order of the lists
module _ (unit x y m n : ℕ) (xs ys : List ℕ) (low : m < unit) (lower : n < unit) (follows : ltb m n ≡ before xs ys) where
  before_higher : ltb (unit * x + m) (unit * y + n) ≡ before (x ∷ xs) (y ∷ ys)
  before_higher = go (ordered x y)
    where
      go : (x < y) ⊎ ((x ≡ y) ⊎ (y < x)) → ltb (unit * x + m) (unit * y + n) ≡ before (x ∷ xs) (y ∷ ys)
      go (inl less) =
          lt-ltb _ _ (omega (arith, mul-le-mul_left {m = suc x} {n = y} unit less, mul-suc unit x))
          ∙ sym (before_differs x y xs ys (λ e. absurd (omega (arith, e))) ∙ lt-ltb x y less)
      go (inr (inl same)) = rw same (shifted (unit * y) m n ∙ follows ∙ sym (before_equal y y xs ys refl))
      go (inr (inr over)) =
          le-ltb _ _ (omega (arith, mul-le-mul_left {m = suc y} {n = x} unit over, mul-suc unit y))
          ∙ sym (before_differs x y xs ys (λ e. absurd (omega (arith, e))) ∙ le-ltb x y (omega arith))

pub same_differs : (x y : ℕ) (xs ys : List ℕ) → (x ≡ y → ⊥) → same (x ∷ xs) (y ∷ ys) ≡ false
unfolding same
same_differs x y xs ys d = rw (ne_eqb x y d)

pub same_equal : (x y : ℕ) (xs ys : List ℕ) → x ≡ y → same (x ∷ xs) (y ∷ ys) ≡ same xs ys
unfolding same
same_equal x y xs ys e = rw (eq-eqb x y e)

pub same_last : (x y : ℕ) → same (x ∷ []) (y ∷ []) ≡ eqb x y
unfolding same
same_last x y = and-true (eqb x y)

shifted_same : (k m n : ℕ) → eqb (k + m) (k + n) ≡ eqb m n
shifted_same k m n = grind (arith, nat_tests)

-- numbers of such parts are the same where the lists are
module _ (unit x y m n : ℕ) (xs ys : List ℕ) (low : m < unit) (lower : n < unit) (follows : eqb m n ≡ same xs ys) where
  same_higher : eqb (unit * x + m) (unit * y + n) ≡ same (x ∷ xs) (y ∷ ys)
  same_higher = go (ordered x y)
    where
      go : (x < y) ⊎ ((x ≡ y) ⊎ (y < x)) → eqb (unit * x + m) (unit * y + n) ≡ same (x ∷ xs) (y ∷ ys)
      go (inl less) =
          ne_eqb _ _ (λ e. absurd (omega (arith, e, mul-le-mul_left {m = suc x} {n = y} unit less, mul-suc unit x)))
          ∙ sym (same_differs x y xs ys (λ e. absurd (omega (arith, e))))
      go (inr (inl equal)) = rw equal (shifted_same (unit * y) m n ∙ follows ∙ sym (same_equal y y xs ys refl))
      go (inr (inr over)) =
          ne_eqb _ _ (λ e. absurd (omega (arith, e, mul-le-mul_left {m = suc y} {n = x} unit over, mul-suc unit y)))
          ∙ sym (same_differs x y xs ys (λ e. absurd (omega (arith, e))))

-- the arguments of an atom are bytes
abbrev pub Bytes : Atom → Type 0
Bytes a = (a.first < 256) × (a.second < 256) × (a.third < 256)

module _ (a b : Atom) (small : Bytes a) (bytes : Bytes b) where
  parted : (c : Atom) → number_of c ≡ 16777216 * c.predicate + (65536 * c.first + (256 * c.second + c.third))
  unfolding number_of
  parted c = omega arith

  -- the numbers of two atoms are in the order of their bytes
  pub numbers_in_order : ltb (number_of a) (number_of b) ≡ before (bytes_of a) (bytes_of b)
  numbers_in_order =
      let third = before_higher 256 a.second b.second a.third b.third _ _ small.2 bytes.2 (sym (before_last a.third b.third)) in
      let second =
      before_higher 65536 a.first b.first (256 * a.second + a.third) (256 * b.second + b.third) _ _ (omega (arith, small)) (omega (arith, bytes)) third
      in
      rw (parted a, parted b)
      (before_higher 16777216 a.predicate b.predicate (65536 * a.first + (256 * a.second + a.third))
      (65536 * b.first + (256 * b.second + b.third)) _ _ (omega (arith, small)) (omega (arith, bytes)) second)

  -- and the same where their bytes are
  pub numbers_same : eqb (number_of a) (number_of b) ≡ same (bytes_of a) (bytes_of b)
  numbers_same =
      let third = same_higher 256 a.second b.second a.third b.third _ _ small.2 bytes.2 (sym (same_last a.third b.third)) in
      let second =
      same_higher 65536 a.first b.first (256 * a.second + a.third) (256 * b.second + b.third) _ _ (omega (arith, small)) (omega (arith, bytes)) third
      in
      rw (parted a, parted b)
      (same_higher 16777216 a.predicate b.predicate (65536 * a.first + (256 * a.second + a.third))
      (65536 * b.first + (256 * b.second + b.third)) _ _ (omega (arith, small)) (omega (arith, bytes)) second)

-- what both lists end in makes no difference, where the parts before it are as long as each other
pub same_ends : (xs ys zs : List ℕ) → length xs ≡ length ys → same (xs ++ zs) (ys ++ zs) ≡ same xs ys
unfolding same
same_ends [] [] zs l = self zs
  where
    self : (zs : List ℕ) → same zs zs ≡ true
    self [] = refl
    self (z ∷ zs) = rw (eqb_self z) (self zs)
same_ends [] (y ∷ ys) zs l = absurd (omega arith)
same_ends (x ∷ xs) [] zs l = absurd (omega arith)
same_ends (x ∷ xs) (y ∷ ys) zs l = ap (λ t. eqb x y && t) (same_ends xs ys zs (omega arith))

-- the atom is kept as atoms are read: places past its arity hold 0
abbrev pub Kept : List ℕ → Atom → Type 0
Kept arities a = a ≡ atom_for (atom_of arities a)

-- the argument places of an atom as read: its arguments, then 0
places_filled : (n : ℕ) (a : Atom) → a ≡ atom_for (record { predicate = a.predicate; arguments = take n (argument_places a) })
    → argument_places a ≡ take n (argument_places a) ++ drop n (0 ∷ 0 ∷ 0 ∷ [])
unfolding atom_for
places_filled zero a k = ap argument_places k
places_filled (suc zero) a k = ap argument_places k
places_filled (suc (suc zero)) a k = ap argument_places k
places_filled (suc (suc (suc zero))) a k = refl
places_filled (suc (suc (suc (suc n)))) a k = refl

-- an atom as read, whose arity is n
abbrev Filled : ℕ → Atom → Type 0
Filled n a = a ≡ atom_for (record { predicate = a.predicate; arguments = take n (argument_places a) })

-- a comparison of lists that does not look at a common end compares two atoms of one predicate by all their places
module _
    (f : List ℕ → List ℕ → Bool)
    (ends : (xs ys zs : List ℕ) → length xs ≡ length ys → f (xs ++ zs) (ys ++ zs) ≡ f xs ys)
    (a b : Atom) where
  same_arity : (n : ℕ) → Filled n a → Filled n b → f (take n (argument_places a)) (take n (argument_places b)) ≡ f (argument_places a) (argument_places b)
  same_arity n ka kb =
      let l : length (take n (argument_places a)) ≡ length (take n (argument_places b)) =
      length-take n (argument_places a) ∙ sym (length-take n (argument_places b)) in
      sym (ends (take n (argument_places a)) (take n (argument_places b)) (drop n (0 ∷ 0 ∷ 0 ∷ [])) l)
      ∙ ap₂ f (sym (places_filled n a ka)) (sym (places_filled n b kb))

  -- .. given that the predicates are the same
  compared : (arities : List ℕ) → Kept arities a → Kept arities b → (t : Bool) → eqb a.predicate b.predicate ≡ t
      → (t && f (atom_of arities a).arguments (atom_of arities b).arguments) ≡ (t && f (argument_places a) (argument_places b))
  unfolding atom_of
  compared arities ka kb false e = refl
  compared arities ka kb true e =
      let n : ℕ = get_or arities a.predicate 0 in
      let q : n ≡ get_or arities b.predicate 0 = ap (λ p. get_or arities p 0) (eqb-true _ _ e) in
      subst (λ m. f (take n (argument_places a)) (take m (argument_places b)) ≡ f (argument_places a) (argument_places b)) q
      (same_arity n ka (subst⁻¹ (λ m. Filled m b) q kb))

module _ (arities : List ℕ) (a b : Atom) (ka : Kept arities a) (kb : Kept arities b) where
  -- the same atom: the same bytes
  pub same_bytes : model.same_atom (atom_of arities a) (atom_of arities b) ≡ same (bytes_of a) (bytes_of b)
  unfolding model.same_atom same atom_of
  same_bytes = compared same same_ends a b arities ka kb (eqb a.predicate b.predicate) refl

  -- the order of atoms: the order of their bytes
  pub below_bytes : model.below (atom_of arities a) (atom_of arities b) ≡ before (bytes_of a) (bytes_of b)
  unfolding model.below before atom_of
  below_bytes =
      ap (λ t. ltb a.predicate b.predicate || t) (compared before before_append a b arities ka kb (eqb a.predicate b.predicate) refl)

-- an atom is on a list as read: one with its bytes is
pub has_bytes_lem : (arities : List ℕ) (a : Atom) (atoms : List Atom) → Kept arities a → atoms ≡ map atom_for (map (atom_of arities) atoms)
    → model.has (map (atom_of arities) atoms) (atom_of arities a) ≡ any (λ b. same (bytes_of a) (bytes_of b)) atoms
unfolding model.has any
has_bytes_lem arities a [] ka ks = refl
has_bytes_lem arities a (b ∷ bs) ka ks =
    let kb : Kept arities b = cc in
    let kr : bs ≡ map atom_for (map (atom_of arities) bs) = cc in
    ap₂ ◌||◌ (same_bytes arities a b ka kb) (has_bytes_lem arities a bs ka kr)

-- an atom with the same bytes is on the list from place i on
unfoldable pub has_from : AtomList → Atom → ℕ → Bool
has_from l a i = any (λ b. same (bytes_of a) (bytes_of b)) (drop i (entries l.count blank_atom l.atoms))

pub has_first : (l : AtomList) (a : Atom) → has_bytes l a ≡ has_from l a 0
unfolding has_bytes has_from
has_first l a = refl

pub has_last : (l : AtomList) (a : Atom) (i : ℕ) → l.count ≤ i → has_from l a i ≡ false
unfolding has_from any
has_last l a i h = rw (no_entry l.count blank_atom l.atoms i h)

module _ (l : AtomList) (a : Atom) (i : ℕ) (more : i < l.count) where
  has_step : has_from l a i ≡ (same (bytes_of a) (bytes_of (get_or l.atoms i blank_atom)) || has_from l a (i + 1))
  unfolding has_from any
  has_step = rw (next_entry l.count blank_atom l.atoms i more)

  pub has_found : same (bytes_of a) (bytes_of (get_or l.atoms i blank_atom)) ≡ true → has_from l a i ≡ true
  has_found e = has_step ∙ ap (λ t. t || has_from l a (i + 1)) e

  pub has_next : same (bytes_of a) (bytes_of (get_or l.atoms i blank_atom)) ≡ false → has_from l a i ≡ has_from l a (i + 1)
  has_next e = has_step ∙ ap (λ t. t || has_from l a (i + 1)) e
