-- The entries of a list kept in an array beside its count: how many there are, and which stands at a place.
use Prim.Native.Nat.{ℕ, zero, suc, ◌+◌, ◌-◌, ◌≤◌, ◌<◌}
use native.Mathlib.Nat.{sub-zero}
use native.Mathlib.Omega.{arith}
use native.Mathlib.Numerals.{add-one}
use mathlib.Core.Path.{◌≡◌, refl, sym, ap, ◌∙◌, subst}
use mathlib.Core.List.{List, [], ◌∷◌, ◌++◌, map, Memᴰ}
use lib.ListN.{length, get_or, take, drop, replicate, length-append, length-replicate, length-map, get_or-map, drop_of_length-le}
use lib.Seq.{drop-cons, get_or-take, length-take-le, take-append-le, take_at}
use Rattle.laws.specs.Lists.{padded}
use Rattle.laws.proofs.Lists.{mem_get_d}
use Rattle.laws.proofs.Padded.{padded_get_d}
use Rattle.card.specs.declared.AtomList.{AtomList}
use Rattle.card.specs.declared.ArityList.{ArityList}
use Rattle.card.specs.declared.Schema.{Schema}
use Rattle.card.specs.declared.SchemaList.{SchemaList}
use Rattle.card.specs.declared.FactList.{FactList}
use Rattle.card.specs.Represents.{blank_atom, atoms_for, blank_schema, entries, atom_of, atoms_of, schema_of, arities_of, schemas_of, facts_of}

module _ {A : Type 0} where
  pub length_entries : (count : ℕ) (blank : A) (xs : List A) → length (entries count blank xs) ≡ count
  unfolding entries padded
  length_entries count blank xs =
      length-take-le count (xs ++ replicate (count - length xs) blank)
      (rw (length-append, length-replicate) (omega arith))

  pub get_d_entries : (count : ℕ) (blank : A) (xs : List A) (i : ℕ) → i < count → get_or (entries count blank xs) i blank ≡ get_or xs i blank
  unfolding entries
  get_d_entries count blank xs i h = get_or-take count (padded count blank xs) i blank h ∙ padded_get_d count blank xs i

  -- the next entry at place i, and none at the count
  pub next_entry : (count : ℕ) (blank : A) (xs : List A) (i : ℕ) → i < count
      → drop i (entries count blank xs) ≡ get_or xs i blank ∷ drop (i + 1) (entries count blank xs)
  next_entry count blank xs i h =
      drop-cons (entries count blank xs) i blank (rw length_entries h) ∙ rw (get_d_entries count blank xs i h, add-one)

  pub no_entry : (count : ℕ) (blank : A) (xs : List A) (i : ℕ) → count ≤ i → drop i (entries count blank xs) ≡ []
  no_entry count blank xs i h = drop_of_length-le (entries count blank xs) {i = i} (rw length_entries h)

  -- where the count is within the array, the entries are the first of it
  pub entries_within : (count : ℕ) (blank : A) (xs : List A) → count ≤ length xs → entries count blank xs ≡ take count xs
  unfolding entries padded
  entries_within count blank xs h = take-append-le count xs (replicate (count - length xs) blank) h

  -- a list that was filled up to a size is read back
  pub entries_kept : (size count : ℕ) (blank : A) (xs : List A) → length xs ≡ count → entries count blank (padded size blank xs) ≡ xs
  unfolding padded
  entries_kept size count blank xs e =
      let blanks = replicate (size - length xs) blank in
      entries_within count blank (xs ++ blanks) (omega (arith, length-append xs blanks)) ∙ take_at xs blanks count e

module _ {A B : Type 0} (f : A → B) (count : ℕ) (blank : A) (xs : List A) where
  pub length_table : length (map f (entries count blank xs)) ≡ count
  length_table = length-map (entries count blank xs) f ∙ length_entries count blank xs

  pub item_at : (i : ℕ) → i < count → get_or (map f (entries count blank xs)) i (f blank) ≡ f (get_or xs i blank)
  item_at i h = get_or-map f (entries count blank xs) i blank ∙ ap f (get_d_entries count blank xs i h)

  pub item_in : (i : ℕ) → i < count → Memᴰ (f (get_or xs i blank)) (map f (entries count blank xs))
  item_in i h =
      subst (λ (y : B). Memᴰ y (map f (entries count blank xs))) (item_at i h)
      (mem_get_d (map f (entries count blank xs)) i (f blank) (rw length_table h))

  -- the next item at place i
  pub next_item : (i : ℕ) → i < count
      → drop i (map f (entries count blank xs)) ≡ f (get_or xs i blank) ∷ drop (i + 1) (map f (entries count blank xs))
  next_item i h =
      drop-cons (map f (entries count blank xs)) i (f blank) (rw length_table h)
      ∙ rw (item_at i h, add-one)

  -- no item is left at the count
  pub no_item : (i : ℕ) → count ≤ i → drop i (map f (entries count blank xs)) ≡ []
  no_item i h = drop_of_length-le (map f (entries count blank xs)) {i = i} (rw length_table h)

-- past the end of a list stands a default, and which one makes no difference to a function that takes both for the same
pub default_alike : {A B : Type 0} (f : A → B) (d e : A) → f d ≡ f e → (xs : List A) (i : ℕ) → f (get_or xs i d) ≡ f (get_or xs i e)
default_alike f d e same [] i = same
default_alike f d e same (x ∷ xs) zero = refl
default_alike f d e same (x ∷ xs) (suc i) = default_alike f d e same xs i

-- what the code reads past the end of an array of schemas: its lists have no array at all. It says what the blank schema says
abbrev pub no_schema : Schema
no_schema =
    let empty : AtomList = record { count = 0; atoms = [] } in
    record { parameters = 0; preconditions = empty; deletes = empty; adds = empty }

pub no_schema_blank : (arities : List ℕ) → schema_of arities no_schema ≡ schema_of arities blank_schema
unfolding schema_of blank_schema atoms_for atoms_of entries
no_schema_blank arities = refl

-- the lists of a struct, where their counts are within their arrays
pub arities_within : (l : ArityList) → l.count ≤ length l.arities → arities_of l ≡ take l.count l.arities
unfolding arities_of
arities_within l = entries_within l.count 0 l.arities

-- the part of the array that a function hands on
pub arities_part : (l : ArityList) → l.count ≤ length l.arities → take (l.count - 0) l.arities ≡ arities_of l
arities_part l h = rw sub-zero (sym (arities_within l h))

module _ (arities : List ℕ) where
  pub atoms_within : (l : AtomList) → l.count ≤ length l.atoms → atoms_of arities l ≡ map (atom_of arities) (take l.count l.atoms)
  unfolding atoms_of
  atoms_within l h = ap (map (atom_of arities)) (entries_within l.count blank_atom l.atoms h)

  pub schemas_within : (l : SchemaList) → l.count ≤ length l.schemas
      → schemas_of arities l ≡ map (schema_of arities) (take l.count l.schemas)
  unfolding schemas_of
  schemas_within l h = ap (map (schema_of arities)) (entries_within l.count blank_schema l.schemas h)

  pub facts_within : (l : FactList) → l.count ≤ length l.facts → facts_of arities l ≡ map (atom_of arities) (take l.count l.facts)
  unfolding facts_of
  facts_within l h = ap (map (atom_of arities)) (entries_within l.count blank_atom l.facts h)

  -- as many as the count says
  pub length_atoms : (l : AtomList) → length (atoms_of arities l) ≡ l.count
  unfolding atoms_of
  length_atoms l = length_table (atom_of arities) l.count blank_atom l.atoms

  pub length_schemas : (l : SchemaList) → length (schemas_of arities l) ≡ l.count
  unfolding schemas_of
  length_schemas l = length_table (schema_of arities) l.count blank_schema l.schemas

  pub length_facts : (l : FactList) → length (facts_of arities l) ≡ l.count
  unfolding facts_of
  length_facts l = length_table (atom_of arities) l.count blank_atom l.facts

pub length_arities : (l : ArityList) → length (arities_of l) ≡ l.count
unfolding arities_of
length_arities l = length_entries l.count 0 l.arities
