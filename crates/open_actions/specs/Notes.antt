-- What is noted of the search, so that it is not searched again: at each place seven bytes, a mask of culprits and then the objects of the
-- parameters. And the search with notes.
use Rattle.std.specs.Prelude.{ℕ, ◌+◌, ◌*◌, ◌≤◌, ◌<◌, ◌≡◌, Bool, true, false, List, length, get_or, Result}
use Rattle.masks.specs.Sets.{is_member}
use Rattle.open_actions.specs.Masked.{Inside}
use Rattle.open_actions.specs.Bindings.{Query, query_in, open_binding, Full, Searchable, SearchOutcome}
use Rattle.open_actions.specs.declared.query.Query.{Query as Asked}

-- the culprits that are noted at a place, and the object of a parameter; past the end of the table there are none
unfoldable pub culprits_at : List ℕ → ℕ → ℕ
culprits_at notes place = get_or notes (7 * place) 0

unfoldable pub object_at : List ℕ → ℕ → ℕ → ℕ
object_at notes place p = get_or notes (7 * place + 1 + p) 0

-- Every note is true of the query: no binding is open that has the noted objects at the culprits.
pub record Notes (q : Query) (notes : List ℕ) : Type 0 where
  pub none :
      (place : ℕ) → (culprits_at notes place ≡ 0 → ⊥) → (y : List ℕ) → Full q y
      → ((p : ℕ) → p < 6 → is_member (culprits_at notes place) p ≡ true → get_or y p 0 ≡ object_at notes place p) → open_binding q y ≡ false

-- The culprits of a note that speaks of the binding: there are some, they are bound, and the binding has the noted objects at them.
pub record Recalled (notes : List ℕ) (place bound : ℕ) (x : List ℕ) (culprits : ℕ) : Type 0 where
  pub some : culprits ≡ 0 → ⊥
  pub noted : culprits_at notes place ≡ culprits
  pub inside : Inside culprits bound
  pub same : (p : ℕ) → p < length x → is_member culprits p ≡ true → get_or x p 0 ≡ object_at notes place p

-- Culprits, which are parameters, are noted at a place with a binding's objects; the other notes are as before.
pub record Noted (old new : List ℕ) (place culprits : ℕ) (x : List ℕ) : Type 0 where
  pub size : length new ≡ length old
  pub culprits_there : (p : ℕ) → p < 6 → is_member culprits p ≡ true → is_member (get_or new (7 * place) 0) p ≡ true
  pub objects_there : (p : ℕ) → p < length x → get_or new (7 * place + 1 + p) 0 ≡ get_or x p 0
  pub earlier : (j : ℕ) → j < 7 * place → get_or new j 0 ≡ get_or old j 0
  pub later : (j : ℕ) → 7 * place + 7 ≤ j → get_or new j 0 ≡ get_or old j 0

-- The table stays as long as it was, and every note of it is true.
pub record KeepsNotes (q : Query) (old new : List ℕ) : Type 0 where
  pub size : length new ≡ length old
  pub true_notes : Notes q new

-- What a search from a level on relies on, and what the step of a level does with an object for its parameter.
pub record Searches (asked : Asked) (exact : Bool) (bound level : ℕ) (x notes : List ℕ) : Type 0 where
  pub ready : Searchable asked exact bound level x
  pub true_notes : Notes (query_in asked) notes

pub record Descends (asked : Asked) (exact : Bool) (bound level o : ℕ) (x notes : List ℕ) : Type 0 where
  pub ready : Searchable asked exact bound level x
  pub inside : level < length x
  pub object_known : o < asked.known
  pub true_notes : Notes (query_in asked) notes

-- What either answers.
pub record Concludes (q : Query) (exact : Bool) (bound level from : ℕ) (x after old new : List ℕ) (r : Result (Unit {0}) ℕ) : Type 0 where
  pub outcome : SearchOutcome q exact bound level from x after r
  pub notes_kept : KeepsNotes q old new
