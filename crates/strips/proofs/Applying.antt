-- Applying an action to a well-formed state: its numbers, whether it is applicable, and the numbers of the next state.
use Prim.Native.Nat.{ℕ, ◌+◌, ◌-◌, ◌≤◌}
use native.Mathlib.Nat.{sub-zero}
use native.Mathlib.Omega.{arith}
use mathlib.Core.Path.{◌≡◌, refl, sym, ap, ◌∙◌, subst}
use mathlib.Core.Bool.{Bool, true, false, not}
use mathlib.Core.List.Memᴰ
use mathlib.Core.List.{List, [], ◌∷◌, ◌++◌, map, foldl, Memᴰ}
use lib.Dec.{leb}
use lib.ListN.{length, take, drop, replicate, length-map, length-append, length-drop, length-replicate}
use lib.Seq.{take_at, drop_at}
use Rattle.std.specs.Prelude.{Result}
use borrow.Author.Tests.{le-leb}
use Rattle.laws.specs.Lists.{all, keep, member, padded}
use Rattle.laws.proofs.Tests.{and_left, and_right}
use Rattle.laws.proofs.Lists.{all_at, all_intro, count_ext}
use Rattle.laws.proofs.Counting.{count_most}
use Rattle.laws.proofs.Mapped.{all_map, all_ext}
use Rattle.model.specs.Answer.{◌>>◌, need}
use Rattle.model.specs.Card.{Atom, has}
use Rattle.model.specs.Card as model
use Rattle.model.specs.Writer.{known}
use Rattle.model.specs.Strips.{State, most_facts, facts_in, ground, applicable, put, taken_out, put_in, successor, limited, progress}
use Rattle.model.specs.Open.{is_accepted}
use Rattle.model.proofs.Checked.{CheckedSchema, checked_schema}
use Rattle.model.proofs.Buffer.{WellFormed, well_formed_lem, rows_known, length_facts_in}
use Rattle.model.proofs.States.{ground_known}
use Rattle.model.proofs.NextState.{new_facts, progress_by_room}
use Rattle.card.specs.Represents.{atoms_of, schema_of}
use Rattle.card.proofs.Entries.{length_atoms}
use Rattle.card.specs.declared.AtomList.{AtomList}
use Rattle.card.specs.declared.Schema.{Schema}
use Rattle.sets.specs.Numbers.{rising, inserted_all, SetKept, Becomes}
use Rattle.state.specs.Rows.{fact_number, numbers_in, stored, RowsAscend, Shape}
use Rattle.state.proofs.Writing.{length_numbers_in, drop_zeros}
use Rattle.state.proofs.FactNumbers.{all_known, member_has, numbers_puts, numbers_removed, rising_state, numbers_of_rows, stored_written, put_known, keep_known}
use Rattle.actions.specs.Grounds.{holds_in, missing_in, Bound}
use Rattle.strips.specs.Answers.{Matches}
use Rattle.strips.specs.Steps.{storing, storing_numbers, next_numbers, ListKept, StateKept, ActionReady, NextReady}
use Rattle.strips.proofs.Replacing.{replaced_by_facts}
use Rattle.strips.specs.declared.PressRefusal.{PressRefusal}

-- facts put in one after the other are known
pub puts_known :
    {arities : List ℕ} {bound : ℕ} (shape : Shape arities bound) (fs : List Atom) (s : State) → all_known arities bound fs
    → all_known arities bound s → all_known arities bound (foldl (λ r f. put f r) s fs)
unfolding all
puts_known shape [] s j k = k
puts_known {arities} {bound} shape (f ∷ fs) s j k =
    puts_known shape fs (put f s) (and_right (known arities bound f) (all (known arities bound) fs) j)
    (put_known shape f s (and_left (known arities bound f) (all (known arities bound) fs) j) k)

-- A well-formed state in a buffer.
module _ {arities : List ℕ} {bound : ℕ} {buffer : List ℕ} {count : ℕ} (kept : StateKept arities bound buffer count) where
  abbrev state_in : State
  state_in = facts_in arities count buffer

  pub state_formed : WellFormed arities bound buffer count
  state_formed = well_formed_lem arities bound buffer count kept.well

  pub state_known : all_known arities bound state_in
  state_known = rows_known arities bound count buffer state_formed.rows

  pub state_numbers : numbers_in count buffer ≡ map fact_number state_in
  state_numbers =
      let room = state_formed.room in
      let few = state_formed.count_fits in
      numbers_of_rows kept.shape count buffer state_formed.rows (omega arith)

  -- its rows ascend
  pub rows_ascend : RowsAscend count buffer
  rows_ascend = record {
    room = let room = state_formed.room in let few = state_formed.count_fits in omega arith;
    ascends = ap (rising 0) state_numbers ∙ rising_state kept.shape state_in state_known state_formed.in_order;
  }

  -- the state's numbers loaded to the front of zeros
  module _ {size : ℕ} (room : count ≤ size) {numbers : List ℕ} (loaded : numbers ≡ numbers_in count buffer ++ drop count (replicate size 0)) where
    pub loaded_numbers : take count numbers ≡ map fact_number state_in
    loaded_numbers = ap (take count) loaded ∙ take_at (numbers_in count buffer) _ count (length_numbers_in count buffer) ∙ state_numbers

    pub loaded_length : length numbers ≡ size
    loaded_length =
        ap length loaded ∙ length-append (numbers_in count buffer) (drop count (replicate size 0))
        ∙ (let a = length_numbers_in count buffer in
        let b = length-drop count (replicate {A = ℕ} size 0) in
        let c = length-replicate {A = ℕ} size 0 in
        omega arith)

    pub loaded_set : SetKept count numbers
    loaded_set = record {
      few = let n = loaded_length in omega arith;
      ascends = ap (rising 0) loaded_numbers ∙ rising_state kept.shape state_in state_known state_formed.in_order;
      blank =
          ap (drop count) loaded ∙ drop_at (numbers_in count buffer) _ count (length_numbers_in count buffer) ∙ drop_zeros count size
          ∙ ap (λ (n : ℕ). replicate (n - count) 0) (sym loaded_length);
    }

-- An action with one known object for each parameter, and a well-formed state.
module _ {arities objects : List ℕ} {schema : Schema} {buffer : List ℕ} {count : ℕ} (ready : ActionReady arities objects schema buffer count) where
  abbrev shape : Shape arities ready.known_objects
  shape = ready.state.shape

  abbrev model_schema : model.Schema
  model_schema = schema_of arities schema

  abbrev before : State
  before = facts_in arities count buffer

  abbrev next : State
  next = successor model_schema objects before

  pub right : CheckedSchema arities model_schema
  right = checked_schema arities model_schema ready.schema_kept.checks

  bound_list : (l : AtomList) → ListKept l → all (known arities schema.parameters) (atoms_of arities l) ≡ true → Bound arities objects l
  bound_list l k e = record {
    right = shape.right;
    few = k.few;
    size = k.size;
    atoms_known = subst (λ (n : ℕ). all (known arities n) (atoms_of arities l) ≡ true) (sym ready.one_for_each) e;
  }

  pub preconditions_bound : Bound arities objects schema.preconditions
  unfolding schema_of
  preconditions_bound = bound_list schema.preconditions ready.schema_kept.preconditions right.preconditions_right.atoms_known

  pub deletes_bound : Bound arities objects schema.deletes
  unfolding schema_of
  deletes_bound = bound_list schema.deletes ready.schema_kept.deletes right.deletes_right.atoms_known

  pub adds_bound : Bound arities objects schema.adds
  unfolding schema_of
  adds_bound = bound_list schema.adds ready.schema_kept.adds right.adds_right.atoms_known

  -- ground facts are known
  grounds_known : (atoms : List Atom) → all (known arities (length objects)) atoms ≡ true
      → all_known arities ready.known_objects (map (ground objects) atoms)
  grounds_known atoms e =
      all_map (ground objects) (known arities ready.known_objects) atoms
      ∙ all_intro _ atoms (λ a m. ground_known arities (length objects) ready.known_objects objects a refl ready.objects_known
      (all_at (known arities (length objects)) atoms e a m))

  pub before_known : all_known arities ready.known_objects before
  before_known = state_known ready.state

  -- an atom's fact has a row if the state has it
  held : (atoms : List Atom) → all (known arities (length objects)) atoms ≡ true → (a : Atom) → Memᴰ a atoms
      → holds_in count buffer objects a ≡ has before (ground objects a)
  unfolding holds_in
  held atoms e a m =
      ap (member (fact_number (ground objects a))) (state_numbers ready.state)
      ∙ member_has shape (ground objects a) before (all_at (known arities ready.known_objects) (map (ground objects) atoms) (grounds_known atoms e)
      (ground objects a) (Memᴰ.map (ground objects) m)) before_known

  -- what the test of the preconditions says
  pub test_says : {r : Bool} → r ≡ all (holds_in count buffer objects) (atoms_of arities schema.preconditions) → r ≡ applicable model_schema objects before
  unfolding applicable schema_of
  test_says e =
      let atoms : List Atom = atoms_of arities schema.preconditions in
      e ∙ all_ext (holds_in count buffer objects) (λ a. has before (ground objects a)) atoms (held atoms preconditions_bound.atoms_known)
      ∙ sym (all_map (ground objects) (has before) atoms)

  -- and what the adds that are missing say
  missing_says : missing_in count buffer objects (atoms_of arities schema.adds) ≡ new_facts model_schema objects before
  unfolding missing_in schema_of
  missing_says =
      let atoms : List Atom = atoms_of arities schema.adds in
      count_ext (λ a. not (holds_in count buffer objects a)) (λ a. not (has before (ground objects a))) atoms
      (λ a m. ap not (held atoms adds_bound.atoms_known a m))

  pub out_known : all_known arities ready.known_objects (taken_out model_schema objects)
  unfolding taken_out schema_of
  out_known = grounds_known (atoms_of arities schema.deletes) deletes_bound.atoms_known

  pub in_known : all_known arities ready.known_objects (put_in model_schema objects)
  unfolding put_in schema_of
  in_known = grounds_known (atoms_of arities schema.adds) adds_bound.atoms_known

  abbrev left : State
  left = keep (λ f. not (has (taken_out model_schema objects) f)) before

  left_known : all_known arities ready.known_objects left
  left_known = keep_known shape (λ f. not (has (taken_out model_schema objects) f)) before before_known

  -- the next state: its facts are known, and its numbers
  next_known : all_known arities ready.known_objects next
  unfolding successor
  next_known = puts_known shape (put_in model_schema objects) left in_known left_known

  next_numbers_lem : next_numbers model_schema objects (map fact_number before) ≡ map fact_number next
  unfolding next_numbers successor
  next_numbers_lem =
      sym (numbers_puts shape (put_in model_schema objects) left in_known left_known
      ∙ ap (inserted_all (map fact_number (put_in model_schema objects)))
      (numbers_removed shape (taken_out model_schema objects) before out_known before_known))

  -- storing the numbers of the next state is storing that state
  pub next_replaced : {numbers after : List ℕ} {r : Result ℕ PressRefusal} → numbers ≡ map fact_number next → Matches (storing_numbers buffer numbers) after r
      → Matches (storing buffer (limited next)) after r
  next_replaced {numbers} q matches =
      let same = ap (λ (l : List ℕ). stored l buffer) q ∙ stored_written shape next buffer next_known in
      rw (replaced_by_facts numbers buffer next (ap length q ∙ length-map next fact_number) same) at matches

  -- Whether the action is allowed: 19 refuses it, or the room that the state has.
  pub missing_closes : applicable model_schema objects before ≡ false → false ≡ is_accepted (progress model_schema objects before)
  unfolding progress need ◌>>◌ is_accepted
  missing_closes e = rw e refl

  -- how many facts more the state has room for
  abbrev room : ℕ
  room = most_facts + schema.deletes.count - count

  -- where the preconditions hold, the number of new facts decides
  room_decides : applicable model_schema objects before ≡ true
      → is_accepted (progress model_schema objects before) ≡ leb (new_facts model_schema objects before) room
  unfolding schema_of
  room_decides e =
      let formed = state_formed ready.state in
      let size = length_facts_in arities count buffer in
      let few = formed.count_fits in
      progress_by_room right objects before formed.in_order (omega arith) ready.one_for_each ready.different
      ∙ rw (e, length_atoms arities schema.deletes, size)

  pub adds_fit : applicable model_schema objects before ≡ true → schema.adds.count ≤ room → true ≡ is_accepted (progress model_schema objects before)
  unfolding schema_of
  adds_fit e h =
      let most = count_most (λ a. not (has before (ground objects a))) (atoms_of arities schema.adds) in
      let size = length_atoms arities schema.adds in
      sym (room_decides e ∙ le-leb (new_facts model_schema objects before) room (omega arith))

  pub missing_decides : {n : ℕ} → applicable model_schema objects before ≡ true → n ≡ missing_in count buffer objects (atoms_of arities schema.adds)
      → leb n room ≡ is_accepted (progress model_schema objects before)
  missing_decides e q = ap (λ (n : ℕ). leb n room) (q ∙ missing_says) ∙ sym (room_decides e)

  -- the state's numbers loaded to the front of an array of zeros
  module _ {numbers : List ℕ} (loaded : numbers ≡ numbers_in count buffer ++ drop count (replicate 1032 0)) where
    few_rows : count ≤ 1024
    few_rows = (state_formed ready.state).count_fits

    enough : count ≤ 1032
    enough = let few = few_rows in omega arith

    pub set_loaded : SetKept count numbers
    set_loaded = loaded_set ready.state enough loaded

    numbers_are : take count numbers ≡ map fact_number before
    numbers_are = loaded_numbers ready.state enough loaded

    pub next_ready : NextReady arities objects schema numbers count
    next_ready = record {
      deletes = deletes_bound;
      adds = adds_bound;
      set = set_loaded;
      room = let size = loaded_length ready.state enough loaded in let few = few_rows in omega arith;
    }

    -- what the numbers of the next state say
    module _ {after : List ℕ} {n : ℕ} (becomes : Becomes (next_numbers model_schema objects (take count numbers)) numbers after n) where
      next_are : next_numbers model_schema objects (take count numbers) ≡ map fact_number next
      next_are = ap (next_numbers model_schema objects) numbers_are ∙ next_numbers_lem

      pub next_stored : take (n - 0) after ≡ map fact_number next
      unfolding padded
      next_stored =
          ap (λ (k : ℕ). take k after) (sub-zero n) ∙ ap (take n) becomes.listed
          ∙ take_at (next_numbers model_schema objects (take count numbers)) _ n (sym becomes.counted) ∙ next_are

      pub next_within : n ≤ length after
      unfolding padded
      next_within =
          let set = next_numbers model_schema objects (take count numbers) in
          let size = ap length becomes.listed ∙ length-append set (replicate (length numbers - length set) 0) in
          let counted = becomes.counted in
          omega arith
