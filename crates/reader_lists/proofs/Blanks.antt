-- What the reader's lists are before anything is read, and when all is read.
use Prim.Native.Nat.{ℕ, ◌≤◌}
use Rattle.std.proofs.Common.{Ok}
use mathlib.Core.List.{List, [], map, map-id}
use mathlib.Core.Option.{Option, none}
use mathlib.Core.Path.{◌≡◌, ap, ap₂, ◌∙◌}
use lib.ListN.{length, drop, replicate}
use Rattle.laws.specs.Lists.{padded}
use Rattle.model.specs.Answer.{accepted}
use Rattle.model.specs.Card as model
use Rattle.card.specs.declared.Atom.{Atom}
use Rattle.card.specs.declared.AtomList.{AtomList}
use Rattle.card.specs.declared.ArityList.{ArityList}
use Rattle.card.specs.declared.FactList.{FactList}
use Rattle.card.specs.Represents.{entries, atom_of, atom_for, blank_atom, atoms_of, atoms_for, arities_of, arities_for, facts_of, facts_for}
use Rattle.reader_bytes.specs.Reads.{Reads}
use Rattle.reader_bytes.proofs.Reading.{accepts}
use Rattle.reader_atoms.proofs.Filling.{Filling, filling_ends, filled, filled_count}

pub blank_atoms : {l : AtomList} → l ≡ atoms_for [] → l.atoms ≡ replicate 8 blank_atom
unfolding atoms_for padded
blank_atoms e = ap (λ l. l.atoms) e

pub blank_facts : {l : FactList} → l ≡ facts_for [] → l.facts ≡ replicate 512 blank_atom
unfolding facts_for padded
blank_facts e = ap (λ l. l.facts) e

pub blank_arities : {l : ArityList} → l ≡ arities_for [] → l.arities ≡ replicate 20 0
unfolding arities_for padded
blank_arities e = ap (λ l. l.arities) e

module _ {card start : List ℕ} {n i at : ℕ} (within : at ≤ length card) (done : n ≤ i) where
  module _ (arities : List ℕ) {array : List Atom} (read : Option model.Atom → model.Reader model.Atom) where
    -- all atoms of a list are read
    pub atoms_filled : Filling (atom_of arities) atom_for blank_atom 8 read n start array i (drop at card)
        → Reads (atoms_of arities) atoms_for card (model.many read none n start)
        (Ok (record { count = n; atoms = array }, record { at = at }))
    unfolding atoms_of atoms_for
    atoms_filled f =
        accepts (filling_ends f done) within
        (ap₂ {C = AtomList} (λ n a. record { count = n; atoms = a }) (filled_count f done) (filled f done))

    -- all facts are read
    pub facts_filled : Filling (atom_of arities) atom_for blank_atom 512 read n start array i (drop at card)
        → Reads (facts_of arities) facts_for card (model.many read none n start)
        (Ok (record { count = n; facts = array }, record { at = at }))
    unfolding facts_of facts_for
    facts_filled f =
        accepts (filling_ends f done) within
        (ap₂ {C = FactList} (λ n a. record { count = n; facts = a }) (filled_count f done) (filled f done))

  -- all arities are read
  pub arities_filled : {array : List ℕ} (read : Option ℕ → model.Reader ℕ) → Filling (λ b. b) (λ b. b) 0 20 read n start array i (drop at card)
      → Reads arities_of arities_for card (model.many read none n start)
      (Ok (record { count = n; arities = array }, record { at = at }))
  unfolding arities_of arities_for
  arities_filled {array} read f =
      let read_all : List ℕ = entries n 0 array in
      let plain : map (λ b. b) read_all ≡ read_all = map-id read_all in
      let whole : array ≡ padded 20 0 read_all = filled f done ∙ ap (padded 20 0) (map-id (map (λ b. b) read_all) ∙ plain) in
      accepts (filling_ends f done ∙ ap (λ xs. accepted (xs, drop at card)) plain) within
      (ap₂ {C = ArityList} (λ n a. record { count = n; arities = a }) (filled_count f done ∙ ap length plain) whole)
