-- What the rows of a state say of the facts that an atom of a schema can become.
use Rattle.std.specs.Prelude.{ℕ, ◌+◌, ◌*◌, ◌≤◌, ◌<◌, ◌≡◌, Bool, true, false, cond, List, ltb, length, get_or}
use Rattle.laws.specs.Lists.{up_to}
use Rattle.laws.specs.Lists.{count as counted}
use Rattle.model.specs.Card.{has}
use Rattle.model.specs.Writer.{known}
use Rattle.model.specs.Strips.{ground, facts_in}
use Rattle.card.specs.Represents.{atom_of, blank_atom}
use Rattle.model.specs.Card.{Atom as Model}
use Rattle.card.specs.declared.Atom.{Atom}
use Rattle.card.specs.declared.AtomList.{AtomList}
use Rattle.masks.specs.Sets.{is_member, union_of, single_of}
use Rattle.state.specs.Rows.{row_number, row_at}
use Rattle.open_actions.specs.Masked.{Agree, Inside}
use Rattle.open_actions.specs.declared.query.Query.{Query as Asked}
use Rattle.open_actions.specs.declared.support.Support.{Support}

-- Row i of a buffer holds the fact that an atom becomes with a binding's objects.
pub record RowShows (buffer : List ℕ) (i arity : ℕ) (a : Atom) (y : List ℕ) : Type 0 where
  pub predicate : get_or buffer (4 * i) 0 ≡ a.predicate
  pub first : 1 ≤ arity → get_or buffer (4 * i + 1) 0 ≡ get_or y a.first 0
  pub second : 2 ≤ arity → get_or buffer (4 * i + 2) 0 ≡ get_or y a.second 0
  pub third : 3 ≤ arity → get_or buffer (4 * i + 3) 0 ≡ get_or y a.third 0

-- The parameters of an atom are among those of a binding, of which there are few, and so are the predicates.
pub record ParametersWithin (arity : ℕ) (a : Atom) (x : List ℕ) : Type 0 where
  pub predicate : a.predicate ≤ 254
  pub some : 1 ≤ arity
  pub first : a.first < length x
  pub second : 2 ≤ arity → a.second < length x
  pub third : 3 ≤ arity → a.third < length x
  pub few : length x ≤ 64

-- the parameters of an atom, as a mask
unfoldable pub parameters_of : ℕ → Atom → ℕ
parameters_of arity a =
    let one = single_of a.first in
    let two = union_of one (single_of a.second) in
    cond (ltb arity 2) one (cond (ltb arity 3) two (union_of two (single_of a.third)))

-- The place of a parameter in an atom, 1 to 3: a row that shows the atom has the parameter's object there.
pub record PlaceOf (arity : ℕ) (a : Atom) (parameter k : ℕ) : Type 0 where
  pub at_most : k ≤ 3
  pub has_object : {buffer y : List ℕ} {i : ℕ} → RowShows buffer i arity a y → get_or buffer (4 * i + k) 0 ≡ get_or y parameter 0

-- A row that shows the atom with a binding that has the bound objects has a number from the least one on and below the other one.
pub record Ranges (arity : ℕ) (a : Atom) (bound : ℕ) (x : List ℕ) (least past : ℕ) : Type 0 where
  pub holds :
      {buffer y : List ℕ} {i : ℕ} → 4 * i + 4 ≤ length buffer → ((k : ℕ) → get_or buffer k 0 < 256) → RowShows buffer i arity a y → Agree bound x y
      → (least ≤ row_number (row_at i buffer)) × (row_number (row_at i buffer) < past)

-- A mask has every object that a binding with the bound objects has at the parameter, if a row shows the atom with that binding.
pub record Supported (buffer : List ℕ) (count : ℕ) (a : Atom) (arity parameter bound : ℕ) (x : List ℕ) (mask : ℕ) : Type 0 where
  pub has_object :
      (y : List ℕ) (i : ℕ) → i < count → RowShows buffer i arity a y → Agree bound x y → get_or y parameter 0 < 64
      → is_member mask (get_or y parameter 0) ≡ true

-- An atom of a schema, and a binding of the schema's parameters.
pub record AtomReady (asked : Asked) (a : Atom) (x : List ℕ) : Type 0 where
  pub atom_known : known asked.arities.now (length x) (atom_of asked.arities.now a) ≡ true
  pub few : length x ≤ 64

-- What an atom leaves to a parameter: a binding that has the bound objects at the linked parameters has an object of the mask there, if
-- the atom becomes a fact of the state with it.
pub record AtomSupported (asked : Asked) (a : Atom) (parameter bound : ℕ) (x : List ℕ) (r : Support) : Type 0 where
  pub inside : Inside r.linked bound
  pub holds :
      (y : List ℕ) → Agree r.linked x y → has (facts_in asked.arities.now asked.count asked.state.now) (ground y (atom_of asked.arities.now a)) ≡ true
      → get_or y parameter 0 < 64 → is_member r.mask (get_or y parameter 0) ≡ true

-- the atom at a place of a list
unfoldable pub atom_at : List ℕ → AtomList → ℕ → Model
atom_at arities l i = atom_of arities (get_or l.atoms i blank_atom)

-- A list of a schema's atoms, and the same.
pub record ListReady (asked : Asked) (l : AtomList) (x : List ℕ) : Type 0 where
  pub few_atoms : l.count ≤ 8
  pub size : length l.atoms ≡ 8
  pub atoms_known : (i : ℕ) → i < l.count → known asked.arities.now (length x) (atom_at asked.arities.now l i) ≡ true
  pub few : length x ≤ 64

-- The candidates that the first atoms of a list leave: a binding that has the bound objects at the culprits has a candidate at the
-- parameter, if each of these atoms becomes a fact of the state with it.
pub record LeavesCandidates (asked : Asked) (l : AtomList) (atoms parameter bound : ℕ) (x : List ℕ) (mask culprits : ℕ) : Type 0 where
  pub inside : Inside culprits bound
  pub holds :
      (y : List ℕ) → Agree culprits x y
      → ((i : ℕ) → i < atoms → has (facts_in asked.arities.now asked.count asked.state.now) (ground y (atom_at asked.arities.now l i)) ≡ true)
      → get_or y parameter 0 < asked.known → is_member mask (get_or y parameter 0) ≡ true

unfoldable pub no_support : Support
no_support = record { mask = 0; linked = 0 }

unfoldable pub support_at : List Support → ℕ → Support
support_at items i = get_or items i no_support

-- What each atom of a list leaves.
pub record LeavesSupports (asked : Asked) (l : AtomList) (parameter bound : ℕ) (x : List ℕ) (items : List Support) : Type 0 where
  pub each : (i : ℕ) → i < l.count → AtomSupported asked (get_or l.atoms i blank_atom) parameter bound x (support_at items i)

-- The object leaves too little room: whatever is true of each atom without the object, if its linked parameters are among the culprits,
-- is true of more than `room` atoms.
pub record Crowds (s : List Support) (room o culprits : ℕ) : Type 0 where
  pub inside : (bound : ℕ) → ((i : ℕ) → i < length s → Inside (support_at s i).linked bound) → Inside culprits bound
  pub many :
      (test : ℕ → Bool)
      → ((i : ℕ) → i < length s → Inside (support_at s i).linked culprits → is_member (support_at s i).mask o ≡ false → test i ≡ true)
      → room < counted test (up_to (length s))

-- Of some candidates, those that leave room: a candidate that is missing leaves too little, because of the culprits.
pub record LeavesRoom (mask culprits : ℕ) (s : List Support) (room known left why : ℕ) : Type 0 where
  pub more : Inside culprits why
  pub inside : (bound : ℕ) → Inside culprits bound → ((i : ℕ) → i < length s → Inside (support_at s i).linked bound) → Inside why bound
  pub crowded :
      (o : ℕ) → o < known → is_member mask o ≡ true → is_member left o ≡ false → (test : ℕ → Bool)
      → ((i : ℕ) → i < length s → Inside (support_at s i).linked why → is_member (support_at s i).mask o ≡ false → test i ≡ true)
      → room < counted test (up_to (length s))
