-- An atom's arguments read one by one, and the atom that they make.
use Prim.Native.Nat.{ℕ, suc, ◌-◌, ◌≤◌}
use native.Mathlib.Omega.{arith}
use Rattle.std.proofs.Common.{Ok, Err}
use mathlib.Core.List.{List}
use mathlib.Core.Path.{◌≡◌, refl, ap, ◌∙◌, sym}
use lib.Dec.{ltb}
use lib.ListN.{length, drop, take, get_or}
use Rattle.model.specs.Answer.{refused, accepted}
use Rattle.model.specs.Card as model
use Rattle.model.specs.Card.{Reader, byte_that, atom}
use Rattle.card.specs.declared.Atom.{Atom}
use Rattle.card.specs.Represents.{atom_of, atom_for}
use Rattle.reader_bytes.specs.declared.Cursor.{Cursor}
use Rattle.reader_bytes.specs.Reads.{Read, Reads}
use Rattle.reader_atoms.specs.Atoms.{argument_bytes, arguments_of, with_arguments, argument_places}
use Rattle.reader_bytes.proofs.Answers.{goes, halts}
use Rattle.reader_atoms.proofs.Many.{many_stops, many_stops_later, many_more, many_none}
use Rattle.reader_bytes.proofs.Reading.{accepts, refuses}

-- a number that is not 0 is a successor
pub as_suc : (n : ℕ) → 1 ≤ n → n ≡ suc (n - 1)
as_suc n h = omega arith

module _ (bound number : ℕ) where
  -- one argument byte
  abbrev pub argument : Reader ℕ
  argument = byte_that (λ x. ltb x bound) number

module _ (bound number arity : ℕ) (s : List ℕ) where
  -- an argument is refused: the first, the second or the third
  pub first_refused : {k : ℕ} → 1 ≤ arity → argument bound number s ≡ refused k → argument_bytes arity bound number s ≡ refused k
  unfolding argument_bytes
  first_refused l e = rw (as_suc arity l) (many_stops _ _ _ _ e)

  pub second_refused : {s₁ : List ℕ} {a k : ℕ} → 2 ≤ arity → argument bound number s ≡ accepted (a, s₁) → argument bound number s₁ ≡ refused k
      → argument_bytes arity bound number s ≡ refused k
  unfolding argument_bytes
  second_refused l e f =
      let two : arity ≡ suc (suc (arity - 2)) = omega arith in
      rw two (many_stops_later _ _ _ _ e (many_stops _ _ _ _ f))

  pub third_refused : {s₁ s₂ : List ℕ} {a b k : ℕ} → 3 ≤ arity
      → argument bound number s ≡ accepted (a, s₁) → argument bound number s₁ ≡ accepted (b, s₂)
      → argument bound number s₂ ≡ refused k → argument_bytes arity bound number s ≡ refused k
  unfolding argument_bytes
  third_refused l e f g =
      let three : arity ≡ suc (suc (suc (arity - 3))) = omega arith in
      rw three (many_stops_later _ _ _ _ e (many_stops_later _ _ _ _ f (many_stops _ _ _ _ g)))

  module _ {card : List ℕ} {c : Cursor} {p : ℕ} (within : c.at ≤ length card) where
    -- all arguments are read: one, two or three
    pub one_argument : {x : ℕ} → arity ≡ 1 → argument bound number s ≡ accepted (x, drop c.at card)
        → Reads (arguments_of arity) (with_arguments p) card (argument_bytes arity bound number s)
        (Ok (record { predicate = p; first = x; second = 0; third = 0 }, c))
    unfolding argument_bytes arguments_of with_arguments atom_for
    one_argument one e = rw one (accepts (many_more _ _ _ _ e (many_none _ _ _)) within refl)

    pub two_arguments : {s₁ : List ℕ} {x y : ℕ} → arity ≡ 2
        → argument bound number s ≡ accepted (x, s₁) → argument bound number s₁ ≡ accepted (y, drop c.at card)
        → Reads (arguments_of arity) (with_arguments p) card (argument_bytes arity bound number s)
        (Ok (record { predicate = p; first = x; second = y; third = 0 }, c))
    unfolding argument_bytes arguments_of with_arguments atom_for
    two_arguments two e f = rw two (accepts (many_more _ _ _ _ e (many_more _ _ _ _ f (many_none _ _ _))) within refl)

    pub three_arguments : {s₁ s₂ : List ℕ} {x y z : ℕ} → arity ≡ 3
        → argument bound number s ≡ accepted (x, s₁) → argument bound number s₁ ≡ accepted (y, s₂)
        → argument bound number s₂ ≡ accepted (z, drop c.at card)
        → Reads (arguments_of arity) (with_arguments p) card (argument_bytes arity bound number s)
        (Ok (record { predicate = p; first = x; second = y; third = z }, c))
    unfolding argument_bytes arguments_of with_arguments atom_for
    three_arguments three e f g =
        rw three (accepts (many_more _ _ _ _ e (many_more _ _ _ _ f (many_more _ _ _ _ g (many_none _ _ _)))) within refl)

module _ (arities : List ℕ) (bound number : ℕ) (s : List ℕ) where
  -- the predicate byte is refused
  pub predicate_refused : {k : ℕ} → byte_that (λ p. ltb p (length arities)) number s ≡ refused k → atom arities bound number s ≡ refused k
  unfolding atom
  predicate_refused e = halts _ e

  -- the predicate is known, and its arguments are read
  pub predicate_read : {p : ℕ} {s₁ card : List ℕ} {read : Read Atom} → byte_that (λ p. ltb p (length arities)) number s ≡ accepted (p, s₁)
      → Reads (arguments_of (get_or arities p 0)) (with_arguments p) card (argument_bytes (get_or arities p 0) bound number s₁) read
      → Reads (atom_of arities) atom_for card (atom arities bound number s) read
  unfolding atom atom_of arguments_of with_arguments atom_for argument_bytes
  predicate_read {p} {card = card} {read = Ok (a, c)} e r =
      let q : p ≡ a.predicate = sym (ap (λ a. a.predicate) r.keeps) in
      accepts (goes _ e ∙ goes _ r.says ∙ ap (λ p. accepted (as_atom p a, drop c.at card)) q) r.within (r.keeps ∙ ap (λ p. atom_for (as_atom p a)) q)
    where
      as_atom : ℕ → Atom → model.Atom
      as_atom p a = record { predicate = p; arguments = take (get_or arities p 0) (argument_places a) }
  predicate_read {read = Err k} e r = refuses (goes _ e ∙ halts _ r.says)
