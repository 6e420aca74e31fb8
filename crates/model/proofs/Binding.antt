-- Binding: an action's objects, all different, in place of parameters. Different atoms become different facts, and an object has in a fact
-- the properties that its parameter has in the atom.
use Prim.Native.Nat.{ℕ, zero, suc, ◌<◌}
use native.Mathlib.Nat.{le_of_suc-le-suc, not-suc-le-zero}
use mathlib.Core.Path.{◌≡◌, refl, sym, ap, ◌∙◌, subst}
use mathlib.Core.Bool.{Bool, true, false, not, ◌&&◌}
use mathlib.Core.List.{List, [], ◌∷◌, map, Memᴰ, head-eq_of_cons-eq, tail-eq_of_cons-eq, nil≢cons}
use lib.Dec.{ltb, eqb}
use lib.ListN.{length, get_or}
use borrow.Author.Tests.{ltb-true, eqb-true, eq-eqb}
use Rattle.laws.specs.Lists.{all, count, member, distinct, stands_at}
use Rattle.laws.proofs.Tests.{and_left, and_right, and_false_right, not-true, same_test, by_test}
use Rattle.laws.proofs.Lists.{mem_get_d, member_not, count_ext, count_none}
use Rattle.laws.proofs.Counting.{NoRepeat, no_repeat_map, count_map}
use Rattle.model.specs.Card.{Atom}
use Rattle.model.specs.Strips.{ground}
use Rattle.model.specs.Transitions.{Property, occurs}

-- every parameter has an object
abbrev pub bounded : List ℕ → List ℕ → Bool
bounded objects ks = all (λ k. ltb k (length objects)) ks

-- the numbers of a distinct list differ from place to place
get_d_injective : (ns : List ℕ) (i j : ℕ) → distinct ns ≡ true → i < length ns → j < length ns → get_or ns i 0 ≡ get_or ns j 0 → i ≡ j
unfolding distinct
get_d_injective [] i j d h k e = absurd (not-suc-le-zero h)
get_d_injective (n ∷ ns) zero zero d h k e = refl
get_d_injective (n ∷ ns) zero (suc j) d h k e =
    absurd (member_not n ns (not-true (member n ns) (and_left (not (member n ns)) (distinct ns) d))
    (subst (λ (m : ℕ). Memᴰ m ns) (sym e) (mem_get_d ns j 0 (le_of_suc-le-suc k))))
get_d_injective (n ∷ ns) (suc i) zero d h k e =
    absurd (member_not n ns (not-true (member n ns) (and_left (not (member n ns)) (distinct ns) d))
    (subst (λ (m : ℕ). Memᴰ m ns) e (mem_get_d ns i 0 (le_of_suc-le-suc h))))
get_d_injective (n ∷ ns) (suc i) (suc j) d h k e =
    ap suc (get_d_injective ns i j (and_right (not (member n ns)) (distinct ns) d) (le_of_suc-le-suc h) (le_of_suc-le-suc k) e)

module _ (objects : List ℕ) where
  -- the object of a parameter
  abbrev object : ℕ → ℕ
  object k = get_or objects k 0

  -- the first parameter has an object, and so has each of the rest
  first_bound : (k : ℕ) (ks : List ℕ) → bounded objects (k ∷ ks) ≡ true → k < length objects
  unfolding all
  first_bound k ks h = ltb-true k (length objects) (and_left (ltb k (length objects)) (bounded objects ks) h)

  rest_bound : (k : ℕ) (ks : List ℕ) → bounded objects (k ∷ ks) ≡ true → bounded objects ks ≡ true
  unfolding all
  rest_bound k ks h = and_right (ltb k (length objects)) (bounded objects ks) h

  -- lists of parameters that become the same objects are the same
  arguments_injective : distinct objects ≡ true → (ks js : List ℕ) → bounded objects ks ≡ true → bounded objects js ≡ true
      → map object ks ≡ map object js → ks ≡ js
  arguments_injective d [] [] p q e = refl
  arguments_injective d [] (j ∷ js) p q e = absurd (nil≢cons e)
  arguments_injective d (k ∷ ks) [] p q e = absurd (nil≢cons (sym e))
  arguments_injective d (k ∷ ks) (j ∷ js) p q e =
      ap (λ (n : ℕ). n ∷ ks)
      (get_d_injective objects k j d (first_bound k ks p) (first_bound j js q) (head-eq_of_cons-eq e))
      ∙ ap (λ (l : List ℕ). j ∷ l) (arguments_injective d ks js (rest_bound k ks p) (rest_bound j js q) (tail-eq_of_cons-eq e))

  -- different atoms become different facts
  pub ground_injective : distinct objects ≡ true → (a b : Atom) → bounded objects a.arguments ≡ true → bounded objects b.arguments ≡ true
      → ground objects a ≡ ground objects b → a ≡ b
  unfolding ground
  ground_injective d a b p q e =
      let same = arguments_injective d a.arguments b.arguments p q (ap (λ (f : Atom). f.arguments) e) in
      λ i. record { predicate = (e i).predicate; arguments = same i }

  -- and atoms that stand once become facts that stand once
  pub ground_no_repeat : distinct objects ≡ true → (atoms : List Atom)
      → ((a : Atom) → Memᴰ a atoms → bounded objects a.arguments ≡ true) → NoRepeat atoms → NoRepeat (map (ground objects) atoms)
  ground_no_repeat d atoms h =
      no_repeat_map (ground objects) atoms (λ a b m k. ground_injective d a b (h a m) (h b k))

  -- the object of parameter k stands where k stands
  stands_bound : distinct objects ≡ true → (k i : ℕ) (ks : List ℕ) → k < length objects → bounded objects ks ≡ true
      → stands_at (object k) i (map object ks) ≡ stands_at k i ks
  unfolding stands_at
  stands_bound d k i [] h p = refl
  stands_bound d k zero (j ∷ ks) h p =
      same_test (eqb (object k) (object j)) (eqb k j)
      (λ e. eq-eqb k j (get_d_injective objects k j d h (first_bound j ks p) (eqb-true (object k) (object j) e)))
      (λ e. eq-eqb (object k) (object j) (ap object (eqb-true k j e)))
  stands_bound d k (suc i) (j ∷ ks) h p = stands_bound d k i ks h (rest_bound j ks p)

  -- any other object stands nowhere
  stands_nowhere : (o i : ℕ) (ks : List ℕ) → member o objects ≡ false → bounded objects ks ≡ true
      → stands_at o i (map object ks) ≡ false
  unfolding stands_at
  stands_nowhere o i [] h p = refl
  stands_nowhere o zero (j ∷ ks) h p =
      by_test (eqb o (object j))
      (λ e. absurd (member_not o objects h
      (subst (λ (n : ℕ). Memᴰ n objects) (sym (eqb-true o (object j) e)) (mem_get_d objects j 0 (first_bound j ks p)))))
      (λ e. e)
  stands_nowhere o (suc i) (j ∷ ks) h p = stands_nowhere o i ks h (rest_bound j ks p)

  -- the facts of some atoms count for the object of parameter k as the atoms do for k
  pub count_bound : distinct objects ≡ true → (k : ℕ) (c : Property) (atoms : List Atom) → k < length objects
      → ((a : Atom) → Memᴰ a atoms → bounded objects a.arguments ≡ true)
      → count (λ f. occurs (object k) f c) (map (ground objects) atoms) ≡ count (λ a. occurs k a c) atoms
  unfolding occurs ground
  count_bound d k c atoms h p =
      count_map (λ f. occurs (object k) f c) (ground objects) atoms
      ∙ count_ext (λ a. occurs (object k) (ground objects a) c) (λ a. occurs k a c) atoms
      (λ a m. ap (λ (b : Bool). eqb c.predicate a.predicate && b) (stands_bound d k c.position a.arguments h (p a m)))

  -- and for any other object nothing
  pub count_elsewhere : (o : ℕ) (c : Property) (atoms : List Atom) → member o objects ≡ false
      → ((a : Atom) → Memᴰ a atoms → bounded objects a.arguments ≡ true)
      → count (λ f. occurs o f c) (map (ground objects) atoms) ≡ 0
  unfolding occurs ground
  count_elsewhere o c atoms h p =
      count_map (λ f. occurs o f c) (ground objects) atoms
      ∙ count_none (λ a. occurs o (ground objects a) c) atoms
      (λ a m. and_false_right (eqb c.predicate a.predicate) (stands_at o c.position (map object a.arguments))
      (stands_nowhere o c.position a.arguments h (p a m)))
