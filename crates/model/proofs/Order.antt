-- The order of atoms and facts. Document 01: "strictly ascending by predicate, then roles in order", and "ascending by bytes".
use Prim.Native.Nat.{ℕ, ◌-◌, ◌<◌}
use mathlib.Core.Path.{◌≡◌, refl, sym, ap, ◌∙◌, subst}
use mathlib.Core.Bool.{Bool, true, false, ◌&&◌}
use mathlib.Core.Logic.{◌⊎◌, inl, inr, ⊎_elim}
use mathlib.Core.Option.{Option, none, some}
use mathlib.Core.List.Memᴰ
use mathlib.Core.List.{List, [], ◌∷◌, ◌++◌, Memᴰ, head-eq_of_cons-eq, tail-eq_of_cons-eq}
use lib.Dec.{eqb, ltb}
use lib.ListN.{length, get_or, replicate}
use borrow.Author.Tests.{eqb-true, eq-eqb}
use Rattle.laws.specs.Lists.{all, same, before}
use Rattle.laws.proofs.Tests.{never, and_left, and_right, and_intro, by_test}
use Rattle.laws.proofs.Lists.{any_at, any_intro, same_eq, same_refl}
use Rattle.laws.proofs.Orders.{before_cases, before_first, before_rest, before_irreflexive, before_transitive, before_total, before_head}
use Rattle.laws.proofs.Orders.{before_append}
use Rattle.laws.proofs.Counting.{NoRepeat}
use Rattle.laws.proofs.Increasing.{Strict, Increasing, increasing_unique}
use Rattle.model.specs.Card.{Atom, below, same_atom, has, above}
use Rattle.model.specs.Writer.{known, atom_bytes}
use Rattle.model.specs.Strips.{State, filler, fact_bytes, ascending}

-- the order of atoms is the order of their bytes on a card
pub below_bytes : (a b : Atom) → below a b ≡ before (atom_bytes a) (atom_bytes b)
unfolding below before atom_bytes
below_bytes a b = refl

-- the predicates decide, or they are equal and the arguments decide
pub below_says :
    (a b : Atom) → below a b ≡ true
    → (a.predicate < b.predicate) ⊎ ((a.predicate ≡ b.predicate) × (before a.arguments b.arguments ≡ true))
unfolding atom_bytes
below_says a b e = before_cases a.predicate b.predicate a.arguments b.arguments (sym (below_bytes a b) ∙ e)

pub says_below :
    (a b : Atom)
    → (a.predicate < b.predicate) ⊎ ((a.predicate ≡ b.predicate) × (before a.arguments b.arguments ≡ true))
    → below a b ≡ true
unfolding atom_bytes
says_below a b (inl h) = below_bytes a b ∙ before_first a.predicate b.predicate a.arguments b.arguments h
says_below a b (inr h) = below_bytes a b ∙ before_rest a.predicate b.predicate a.arguments b.arguments h.0 h.1

-- atoms with the same bytes are the same
pub atom_eq : (a b : Atom) → atom_bytes a ≡ atom_bytes b → a ≡ b
unfolding atom_bytes
atom_eq a b e = λ i. record { predicate = head-eq_of_cons-eq e i; arguments = tail-eq_of_cons-eq e i }

-- the test for equal atoms is equality
pub same_atom_eq : (a b : Atom) → same_atom a b ≡ true → a ≡ b
unfolding same_atom
same_atom_eq a b e =
    let predicates : Bool = eqb a.predicate b.predicate in
    let arguments : Bool = same a.arguments b.arguments in
    let p = eqb-true a.predicate b.predicate (and_left predicates arguments e) in
    let q = same_eq a.arguments b.arguments (and_right predicates arguments e) in
    λ i. record { predicate = p i; arguments = q i }

pub same_atom_refl : (a : Atom) → same_atom a a ≡ true
unfolding same_atom
same_atom_refl a =
    and_intro (eqb a.predicate a.predicate) (same a.arguments a.arguments)
    (eq-eqb a.predicate a.predicate refl)
    (same_refl a.arguments)

pub eq_same_atom : (a b : Atom) → a ≡ b → same_atom a b ≡ true
eq_same_atom a b e = subst (λ (c : Atom). same_atom a c ≡ true) e (same_atom_refl a)

-- no atom is below itself
pub below_irreflexive : (a : Atom) → below a a ≡ false
below_irreflexive a = below_bytes a a ∙ before_irreflexive (atom_bytes a)

pub below_transitive : (a b c : Atom) → below a b ≡ true → below b c ≡ true → below a c ≡ true
below_transitive a b c p q =
    below_bytes a c
    ∙ before_transitive (atom_bytes a) (atom_bytes b) (atom_bytes c) (sym (below_bytes a b) ∙ p) (sym (below_bytes b c) ∙ q)

-- of two atoms one is below the other, or they are the same
pub below_total : (a b : Atom) → (below a b ≡ true) ⊎ ((same_atom a b ≡ true) ⊎ (below b a ≡ true))
below_total a b =
    ⊎_elim (λ p. inl (below_bytes a b ∙ p))
    (λ r. inr (⊎_elim (λ p. inl (eq_same_atom a b (atom_eq a b p))) (λ p. inr (below_bytes b a ∙ p)) r))
    (before_total (atom_bytes a) (atom_bytes b))

pub below_otherwise : (a b : Atom) → same_atom a b ≡ false → below a b ≡ false → below b a ≡ true
below_otherwise a b p q =
    ⊎_elim (λ h. never (sym h ∙ q)) (λ r. ⊎_elim (λ h. never (sym h ∙ p)) (λ h. h) r) (below_total a b)

-- an atom below another differs from it
pub below_differs : (a b : Atom) → below a b ≡ true → same_atom a b ≡ false
below_differs a b e =
    by_test (same_atom a b)
    (λ p. never (sym e ∙ subst (λ (c : Atom). below a c ≡ false) (same_atom_eq a b p) (below_irreflexive a)))
    (λ q. q)

-- the test for an atom on a list is membership
pub has_at : (s : List Atom) (a : Atom) → has s a ≡ true → Memᴰ a s
unfolding has
has_at s a e =
    let r = any_at (same_atom a) s e in
    subst (λ (b : Atom). Memᴰ b s) (sym (same_atom_eq a r.0 r.2)) r.1

pub has_intro : (s : List Atom) (a : Atom) → Memᴰ a s → has s a ≡ true
unfolding has
has_intro s a m = any_intro (same_atom a) s a m (same_atom_refl a)

pub has_none : (s : List Atom) (a : Atom) → (Memᴰ a s → ⊥) → has s a ≡ false
has_none s a f = by_test (has s a) (λ p. absurd (f (has_at s a p))) (λ q. q)

-- what a known atom is: its predicate, its number of arguments, and the bound on each
module _ (arities : List ℕ) (bound : ℕ) (a : Atom) where
  pub known_predicate : known arities bound a ≡ true → ltb a.predicate (length arities) ≡ true
  unfolding known
  known_predicate e =
      let predicate : Bool = ltb a.predicate (length arities) in
      let arity : Bool = eqb (length a.arguments) (get_or arities a.predicate 0) in
      and_left predicate arity (and_left (predicate && arity) (all (λ x. ltb x bound) a.arguments) e)

  pub known_arity : known arities bound a ≡ true → length a.arguments ≡ get_or arities a.predicate 0
  unfolding known
  known_arity e =
      let predicate : Bool = ltb a.predicate (length arities) in
      let arity : Bool = eqb (length a.arguments) (get_or arities a.predicate 0) in
      eqb-true _ _ (and_right predicate arity (and_left (predicate && arity) (all (λ x. ltb x bound) a.arguments) e))

  pub known_arguments : known arities bound a ≡ true → all (λ x. ltb x bound) a.arguments ≡ true
  unfolding known
  known_arguments e =
      and_right (ltb a.predicate (length arities) && eqb (length a.arguments) (get_or arities a.predicate 0)) _ e

  pub known_intro :
      ltb a.predicate (length arities) ≡ true → length a.arguments ≡ get_or arities a.predicate 0
      → all (λ x. ltb x bound) a.arguments ≡ true → known arities bound a ≡ true
  unfolding known
  known_intro p q r =
      let predicate : Bool = ltb a.predicate (length arities) in
      let arity : Bool = eqb (length a.arguments) (get_or arities a.predicate 0) in
      and_intro (predicate && arity) _ (and_intro predicate arity p (eq-eqb _ _ q)) r

-- the order of facts is the order of their four bytes
pub bytes_order :
    (arities : List ℕ) (bound : ℕ) (a b : Atom) → known arities bound a ≡ true → known arities bound b ≡ true
    → before (fact_bytes a) (fact_bytes b) ≡ below a b
unfolding fact_bytes atom_bytes
bytes_order arities bound a b p q =
    before_head a.predicate b.predicate (filled a.arguments) (filled b.arguments) a.arguments b.arguments
    (λ e. alike (known_arity arities bound a p ∙ ap (λ (k : ℕ). get_or arities k 0) e ∙ sym (known_arity arities bound b q)))
    ∙ sym (below_bytes a b)
  where
    filled : List ℕ → List ℕ
    filled xs = xs ++ replicate (3 - length xs) filler

    alike : length a.arguments ≡ length b.arguments
        → before (filled a.arguments) (filled b.arguments) ≡ before a.arguments b.arguments
    alike n = rw n (before_append a.arguments b.arguments (replicate (3 - length b.arguments) filler) n)

-- an ascending list, taken apart and put together
pub ascending_head : (previous : Option Atom) (f : Atom) (fs : State) → ascending previous (f ∷ fs) ≡ true → above previous f ≡ true
unfolding ascending
ascending_head previous f fs e = and_left (above previous f) (ascending (some f) fs) e

pub ascending_tail : (previous : Option Atom) (f : Atom) (fs : State) → ascending previous (f ∷ fs) ≡ true → ascending (some f) fs ≡ true
unfolding ascending
ascending_tail previous f fs e = and_right (above previous f) (ascending (some f) fs) e

pub ascending_cons :
    (previous : Option Atom) (f : Atom) (fs : State) → above previous f ≡ true → ascending (some f) fs ≡ true
    → ascending previous (f ∷ fs) ≡ true
unfolding ascending
ascending_cons previous f fs p q = and_intro (above previous f) (ascending (some f) fs) p q

-- what is above a later atom is above an earlier one
pub above_through : (previous : Option Atom) (f g : Atom) → above previous f ≡ true → below f g ≡ true → above previous g ≡ true
unfolding above
above_through none f g p q = refl
above_through (some e) f g p q = below_transitive e f g p q

-- an ascending list without its first fact is ascending
pub ascending_skip :
    (previous : Option Atom) (f : Atom) (fs : State) → above previous f ≡ true → ascending (some f) fs ≡ true
    → ascending previous fs ≡ true
unfolding ascending above
ascending_skip previous f [] p q = refl
ascending_skip previous f (g ∷ gs) p q =
    ascending_cons previous g gs (above_through previous f g p (ascending_head (some f) g gs q)) (ascending_tail (some f) g gs q)

-- whatever stands before an ascending list, the list is ascending
pub ascending_start : (previous : Option Atom) (s : State) → ascending previous s ≡ true → ascending none s ≡ true
unfolding ascending above
ascending_start previous [] e = refl
ascending_start previous (f ∷ fs) e = ascending_cons none f fs refl (ascending_tail previous f fs e)

-- every later fact is above
pub ascending_above :
    (f : Atom) (fs : State) → ascending (some f) fs ≡ true → (g : Atom) → Memᴰ g fs → below f g ≡ true
unfolding above
ascending_above f [] e g m = absurd (Memᴰ.not-nil m)
ascending_above f (h ∷ hs) e g m =
    ⊎_elim (λ p. subst (λ (k : Atom). below f k ≡ true) (sym p) (ascending_head (some f) h hs e))
    (λ k. ascending_above f hs (ascending_skip (some f) h hs (ascending_head (some f) h hs e) (ascending_tail (some f) h hs e)) g k)
    (Memᴰ.cases_cons m)

-- a fact below an ascending list is not on it
pub ascending_absent : (f : Atom) (fs : State) → ascending (some f) fs ≡ true → Memᴰ f fs → ⊥
ascending_absent f fs e m = never (sym (ascending_above f fs e f m) ∙ below_irreflexive f)

pub ascending_distinct : (f : Atom) (fs : State) → ascending (some f) fs ≡ true → has fs f ≡ false
ascending_distinct f fs e = has_none fs f (ascending_absent f fs e)

-- in an ascending list no fact stands twice
pub ascending_no_repeat : (previous : Option Atom) (s : State) → ascending previous s ≡ true → NoRepeat s
ascending_no_repeat previous [] e = tt
ascending_no_repeat previous (f ∷ fs) e =
    let later = ascending_tail previous f fs e in (ascending_absent f fs later, ascending_no_repeat (some f) fs later)

-- each fact of an ascending list stands before all later ones, so two ascending lists with the same facts are one list
pub below_strict : Strict below
below_strict = record { irreflexive = below_irreflexive; transitive = below_transitive }

pub ascending_increases : (previous : Option Atom) (s : State) → ascending previous s ≡ true → Increasing below s
ascending_increases previous [] e = tt
ascending_increases previous (f ∷ fs) e =
    let later = ascending_tail previous f fs e in (ascending_above f fs later, ascending_increases (some f) fs later)

pub ascending_unique : (s r : State) → ascending none s ≡ true → ascending none r ≡ true
    → ((f : Atom) → Memᴰ f s → Memᴰ f r) → ((f : Atom) → Memᴰ f r → Memᴰ f s) → s ≡ r
ascending_unique s r p q into back =
    increasing_unique below below_strict s r (ascending_increases none s p) (ascending_increases none r q) into back
