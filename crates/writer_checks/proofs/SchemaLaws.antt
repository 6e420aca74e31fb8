-- The check of a schema: its header, then its three lists, each by its count and then atom by atom.
use Prim.Native.Nat.{ℕ, ◌≤◌, ◌<◌}
use Rattle.std.proofs.Common.{true, false, Ok, Err}
use mathlib.Core.Path.{◌≡◌, sym}
use mathlib.Core.List.{List}
use mathlib.Core.Option.{Option, none}
use borrow.Author.Tests.{le-leb, lt-leb, leb-true}
use Rattle.model.specs.Answer.{Answer, accepted, ◌>>◌, need}
use Rattle.model.specs.Card as model
use Rattle.model.specs.Card.{between}
use Rattle.model.specs.Writer.{each, check_schema_atom, check_list, check_schema}
use Rattle.card.specs.Represents.{atoms_of, schema_of, refusal_number}
use Rattle.card.specs.declared.AtomList.{AtomList}
use Rattle.card.specs.declared.Schema.{Schema}
use Rattle.card.specs.declared.Refusal.{Refusal}
use Rattle.card.specs.declared.Refusal.TheVariants.{HeaderRange, ListRange}
use Rattle.writer_checks.specs.Checking.{checked_says}
use Rattle.card.specs.declared.ListField.{ListField}
use Rattle.card.specs.declared.ListField.TheVariants.{Preconditions, Deletes, Adds}
use Rattle.card.specs.Fields.{field_test, field_refusal}
use Rattle.card.proofs.Entries.{length_atoms}
use Rattle.model.proofs.Answers.{need_inv}
use Rattle.writer_checks.proofs.Sequence.{then_left, then_refused, then_passed}

-- a list by its count
module _ (check : Option model.Atom → model.Atom → Answer (Unit {0})) (arities : List ℕ) (list : AtomList) where
  pub long_list : 8 < list.count → checked_says (Err ListRange) ≡ check_list check (atoms_of arities list)
  unfolding checked_says check_list need ◌>>◌ refusal_number
  long_list h = rw (length_atoms arities list, lt-leb list.count 8 h)

  pub short_list : list.count ≤ 8 → (answer : Answer (Unit {0})) → answer ≡ each check none (atoms_of arities list)
      → answer ≡ check_list check (atoms_of arities list)
  unfolding check_list need ◌>>◌
  short_list h answer e = rw (length_atoms arities list, le-leb list.count 8 h) e

  -- a list that passed is short
  pub passed_list : check_list check (atoms_of arities list) ≡ accepted tt → list.count ≤ 8
  unfolding check_list
  passed_list e =
      let fits = need_inv _ 6 (then_left _ (each check none (atoms_of arities list)) e) in
      leb-true list.count 8 (rw (length_atoms arities list) at fits)

-- one list of a schema
abbrev pub list_check : List ℕ → Schema → ListField → AtomList → Answer (Unit {0})
list_check arities s field list =
    check_list (check_schema_atom arities s.parameters (field_test field (atoms_of arities s.preconditions)) (refusal_number (field_refusal field)))
    (atoms_of arities list)

module _ (arities : List ℕ) (s : Schema) where
  pub wrong_header : false ≡ between 1 6 s.parameters → checked_says (Err HeaderRange) ≡ check_schema arities (schema_of arities s)
  unfolding checked_says check_schema schema_of need ◌>>◌ refusal_number
  wrong_header h = rw (← h)

  pub preconditions_short : (done : Unit {0}) → checked_says (Ok done) ≡ list_check arities s Preconditions s.preconditions
      → s.preconditions.count ≤ 8
  unfolding checked_says
  preconditions_short done passed = passed_list _ arities s.preconditions (sym passed)

  module _ (header : true ≡ between 1 6 s.parameters) where
    three_lists : (answer : Answer (Unit {0}))
        → answer
        ≡ list_check arities s Preconditions s.preconditions
        >> (list_check arities s Deletes s.deletes >> list_check arities s Adds s.adds)
        → answer ≡ check_schema arities (schema_of arities s)
    unfolding check_schema schema_of need ◌>>◌ field_test refusal_number
    three_lists answer e = rw (← header) e

    pub preconditions_refused : (r : Refusal) → checked_says (Err r) ≡ list_check arities s Preconditions s.preconditions
        → checked_says (Err r) ≡ check_schema arities (schema_of arities s)
    preconditions_refused r says = three_lists _ (then_refused r _ says)

    module _ (done : Unit {0}) (passed : checked_says (Ok done) ≡ list_check arities s Preconditions s.preconditions) where
      pub deletes_refused : (r : Refusal) → checked_says (Err r) ≡ list_check arities s Deletes s.deletes
          → checked_says (Err r) ≡ check_schema arities (schema_of arities s)
      deletes_refused r says = three_lists _ (then_passed done passed (then_refused r _ says))

      pub deletes_passed : (then : Unit {0}) → checked_says (Ok then) ≡ list_check arities s Deletes s.deletes
          → (answer : Answer (Unit {0})) → answer ≡ list_check arities s Adds s.adds → answer ≡ check_schema arities (schema_of arities s)
      deletes_passed then says answer e = three_lists _ (then_passed done passed (then_passed then says e))
