-- A table of counts as the numbers that they stand for, and a slice of the code's atoms, of which each is known.
use Prim.Native.Nat.{ℕ, suc, ◌+◌, ◌*◌, ◌<◌}
use mathlib.Core.Path.{◌≡◌, sym, ap, ◌∙◌, subst}
use mathlib.Core.Bool.{true}
use mathlib.Core.List.{List, [], ◌∷◌, ◌++◌, map}
use lib.ListN.{length, get_or, take, drop, set, replicate, length-map, length-replicate}
use lib.Seq.{take-suc, drop_at}
use Rattle.std.proofs.lemmas.List.{map-set}
use Rattle.laws.specs.Bags.{Bag}
use Rattle.laws.specs.Lists.{all}
use Rattle.laws.proofs.Lists.{all_at, mem_get_d}
use Rattle.laws.proofs.Mapped.{get_d_map}
use Rattle.model.specs.Card as model
use Rattle.model.specs.Writer.{known}
use Rattle.card.specs.declared.Atom.{Atom}
use Rattle.card.specs.Represents.{atom_of}
use Rattle.properties.specs.Tables.{rows_before}
use Rattle.properties.specs.Tallies.{raised}
use Rattle.properties.proofs.Entering.{rows_behind}

-- the numbers of a table in which one more is put at a place
pub raised_at : {C : Type 0} (number : C → ℕ) (table : List C) (place : ℕ) (x later : C) → place < length table → x ≡ get_or table place x
    → number later ≡ number x + 1 → map number (set table place later) ≡ raised (map number table) place
unfolding raised
raised_at number table place x later h e l =
    map-set number table place later
    ∙ ap (set (map number table) place)
    (l ∙ ap (λ (n : ℕ). n + 1) (ap number e ∙ sym (get_d_map number table place x 0 h)))

module _ (arities : List ℕ) (atoms : List Atom) (i : ℕ) (d : Atom) (h : i < length atoms) where
  taken : get_or (map (atom_of arities) atoms) i (atom_of arities d) ≡ atom_of arities (get_or atoms i d)
  taken = get_d_map (atom_of arities) atoms i d (atom_of arities d) h

  within : i < length (map (atom_of arities) atoms)
  within = subst (λ (n : ℕ). i < n) (sym (length-map atoms (atom_of arities))) h

  -- the front part of the model's atoms grows by the code's next atom
  pub atoms_next : take (suc i) (map (atom_of arities) atoms) ≡ take i (map (atom_of arities) atoms) ++ (atom_of arities (get_or atoms i d) ∷ [])
  atoms_next =
      take-suc (map (atom_of arities) atoms) i (atom_of arities d) within
      ∙ ap (λ (a : model.Atom). take i (map (atom_of arities) atoms) ++ (a ∷ [])) taken

  -- an atom of a slice is known, if all are
  pub atom_known : (bound : ℕ) → all (known arities bound) (map (atom_of arities) atoms) ≡ true
      → known arities bound (atom_of arities (get_or atoms i d)) ≡ true
  atom_known bound all_are_known =
      subst (λ (a : model.Atom). known arities bound a ≡ true) taken
      (all_at (known arities bound) (map (atom_of arities) atoms) all_are_known _
      (mem_get_d (map (atom_of arities) atoms) i (atom_of arities d) within))

-- rows written over rows of 0
pub rows_over_zeros : (bags : List Bag) (n : ℕ) (before : List ℕ) → length bags ≡ n
    → rows_before bags (replicate (60 * n) 0 ++ drop (60 * n) before) ≡ rows_before bags before
rows_over_zeros bags n before e =
    rows_behind bags n (replicate (60 * n) 0 ++ drop (60 * n) before) before e
    (drop_at (replicate (60 * n) 0) (drop (60 * n) before) (60 * n) (length-replicate {A = ℕ} (60 * n) 0))
