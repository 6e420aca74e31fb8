-- The loops that read a list in ascending order: atoms of a schema, facts.
use Prim.Native.Nat.{ℕ, ◌+◌, ◌≤◌, ◌<◌}
use mathlib.Core.List.{List, map}
use mathlib.Core.Option.{Option, none}
use mathlib.Core.Path.{◌≡◌, refl, ap, sym, subst}
use lib.ListN.{length, take, drop, set, replicate}
use Rattle.model.specs.Answer.{refused, accepted}
use Rattle.model.specs.Card as model
use Rattle.card.specs.declared.Atom.{Atom}
use Rattle.card.specs.declared.Refusal.{Refusal}
use Rattle.card.specs.Represents.{refusal_number, atom_of, atom_for, blank_atom}
use Rattle.reader_bytes.specs.declared.Cursor.{Cursor}
use Rattle.std.proofs.Common.{Ok, Err, Option as Maybe, None, Some}
use Rattle.reader_atoms.specs.Atoms.{AtomReads, previous_of, previous_for, PreviousKept}
use Rattle.reader_atoms.proofs.Filling.{Filling, last_of, filling_starts, filling_goes_on, filling_stops, filling_last}

module _ (arities : List ℕ) (size : ℕ) (read : Option model.Atom → model.Reader model.Atom) (n : ℕ) (start card : List ℕ) where
  -- i of n atoms are read, up to a place on the card, and `previous` is the last of them
  pub record Ordered (array : List Atom) (i at : ℕ) (previous : Maybe Atom) : Type 0 where
    pub within : at ≤ length card
    pub filling : Filling (atom_of arities) atom_for blank_atom size read n start array i (drop at card)
    pub last : previous_of arities previous ≡ last_of none (map (atom_of arities) (take i array))
    pub kept : PreviousKept arities previous

-- nothing is read yet
pub ordered_starts : {arities : List ℕ} {size : ℕ} {read : Option model.Atom → model.Reader model.Atom} {n : ℕ} {start card : List ℕ}
    {array : List Atom} {at : ℕ} → n ≤ size → at ≤ length card → start ≡ drop at card → array ≡ replicate size blank_atom
    → Ordered arities size read n start card array 0 at None
unfolding previous_of previous_for last_of
ordered_starts {arities} {size} {read} {n} {start} {array = array} few within here blank =
    record {
      within = within;
      filling =
          subst (λ s. Filling (atom_of arities) atom_for blank_atom size read n start array 0 s) here
          (subst (λ a. Filling (atom_of arities) atom_for blank_atom size read n start a 0 start) (sym blank)
          (filling_starts (atom_of arities) atom_for blank_atom size read n start few));
      last = refl;
      kept = refl;
    }

module _ {arities : List ℕ} {size : ℕ} {read : Option model.Atom → model.Reader model.Atom} {n : ℕ} {start card : List ℕ}
    {array : List Atom} {i at : ℕ} {previous : Maybe Atom} (o : Ordered arities size read n start card array i at previous) (more : i < n) where
  -- the next atom is stored
  pub ordered_goes_on : {a : Atom} {c : Cursor} → AtomReads arities card (read (previous_of arities previous) (drop at card)) (Ok (a, c))
      → Ordered arities size read n start card (set array i a) (i + 1) c.at (Some a)
  unfolding previous_of previous_for
  ordered_goes_on {a} {c} r =
      let next = subst (λ p. read p (drop at card) ≡ accepted (atom_of arities a, drop c.at card)) o.last r.says in
      record {
        within = r.within;
        filling = filling_goes_on o.filling more next r.keeps;
        last = sym (filling_last o.filling a more);
        kept = ap Some r.keeps;
      }

  -- the next atom is refused
  pub ordered_stops : {k : Refusal} → AtomReads arities card (read (previous_of arities previous) (drop at card)) (Err k)
      → model.many read none n start ≡ refused (refusal_number k)
  ordered_stops {k} r = filling_stops o.filling more (subst (λ p. read p (drop at card) ≡ refused (refusal_number k)) o.last r.says)
