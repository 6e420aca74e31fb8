-- The facts that go and those that come, from numbers to rows: the code puts them in order by their numbers, and has them as the definitions do.
use Prim.Native.Nat.{ℕ, ◌+◌, ◌-◌, ◌*◌, ◌≤◌, ◌<◌}
use native.Mathlib.Numerals.{add-one}
use native.Mathlib.Omega.{arith}
use mathlib.Core.Path.{◌≡◌, refl, sym, ap, ◌∙◌, subst}
use mathlib.Core.Bool.{Bool, true, false, not}
use mathlib.Core.List.Memᴰ
use mathlib.Core.List.{List, [], ◌∷◌, ◌++◌, map, flat_map}
use mathlib.Core.Option.{none}
use lib.ListN.{length, get_or, set, take, drop, replicate, length-map, length-replicate}
use lib.Seq.{take-suc, length-take-le}
use Rattle.laws.specs.Lists.{all, keep, member, padded}
use Rattle.laws.proofs.Lists.{all_at, length_keep}
use Rattle.laws.proofs.Mapped.{flat_map_map, keep_map, keep_ext}
use Rattle.laws.proofs.Padded.{length_padded, passed_written, failed_skipped}
use Rattle.laws.proofs.Counting.{count_most}
use Rattle.model.specs.Card.{Atom, has}
use Rattle.model.specs.Card as model
use Rattle.model.specs.Writer.{known}
use Rattle.model.specs.Strips.{State, fact_bytes, facts_in, ascending, taken_out, put_in, successor}
use Rattle.model.specs.Preview.{going, coming}
use Rattle.model.proofs.Buffer.{length_facts_in}
use Rattle.model.proofs.Putting.{put_all}
use Rattle.model.proofs.PreviewLists.{newly_put_in, going_sorted, coming_sorted, few_going, few_coming, next_size}
use Rattle.card.specs.Represents.{schema_of}
use Rattle.card.specs.declared.Schema.{Schema}
use Rattle.sets.specs.Numbers.{rising, inserted, inserted_all, SetKept, Becomes}
use Rattle.sets.proofs.Ascending.{length_inserted}
use Rattle.sets.proofs.Changing.{part_front, left_set, left_length}
use Rattle.state.specs.Rows.{row_bytes, fact_number, numbers_in, Shape}
use Rattle.state.proofs.Writing.{length_rows, drop_zeros}
use Rattle.state.proofs.FactNumbers.{all_known, fact_four, member_has, numbers_puts, facts_bytes, keep_known}
use Rattle.actions.specs.Grounds.{facts_kept}
use Rattle.actions.specs.declared.Facts.{Facts}
use Rattle.strips.proofs.Applying.{state_formed, state_numbers, before_known, out_known, in_known, right, puts_known, deletes_bound, adds_bound}
use Rattle.strips.proofs.Numbers.{few_out, few_in, kept_count, kept_numbers}
use Rattle.previews.specs.Represents.{rows_for, rows_kept, numbers_kept}
use Rattle.previews.specs.Steps.{Allowed, FactsHeld}
use Rattle.previews.specs.declared.Rows.{Rows}
use Rattle.previews.proofs.RowLists.{FourEach}

-- ---- of some numbers those that pass a test

-- The first numbers of an array that pass a test are at the front of another, and counted.
pub record Picked (test : ℕ → Bool) (numbers : List ℕ) (i new : ℕ) (array : List ℕ) : Type 0 where
  pub counted : new ≡ length (keep test (take i numbers))
  pub are : array ≡ padded 8 0 (keep test (take i numbers))

module _ {test : ℕ → Bool} {numbers : List ℕ} where
  pub none_picked : Picked test numbers 0 0 (replicate 8 0)
  unfolding keep padded
  none_picked = record { counted = refl; are = refl }

  module _ {i new : ℕ} {array : List ℕ} (inside : i < 8) (within : i < length numbers) (p : Picked test numbers i new array) where
    one_more : take (i + 1) numbers ≡ take i numbers ++ (get_or numbers i 0 ∷ [])
    one_more = ap (λ (k : ℕ). take k numbers) (add-one i) ∙ take-suc numbers i 0 within

    front_few : length (take i numbers) < 8
    front_few = let size = length-take-le i numbers (omega arith) in omega arith

    pub room_picked : new < 8
    room_picked =
        let few = length_keep test (take i numbers) in
        let most = count_most test (take i numbers) in
        let counted = p.counted in
        let front = front_few in
        omega arith

    pub picked_next : test (get_or numbers i 0) ≡ true → Picked test numbers (i + 1) (new + 1) (set array new (get_or numbers i 0))
    picked_next e =
        let next = passed_written test 8 0 (take i numbers) (get_or numbers i 0) array new front_few p.counted p.are e in
        record { counted = rw one_more next.0; are = rw one_more next.1 }

    pub picked_skipped : test (get_or numbers i 0) ≡ false → Picked test numbers (i + 1) new array
    picked_skipped e =
        let next = failed_skipped test 8 0 (take i numbers) (get_or numbers i 0) array new front_few p.counted p.are e in
        record { counted = rw one_more next.0; are = rw one_more next.1 }

-- all that are counted are looked at
pub picked_all : {test : ℕ → Bool} {numbers : List ℕ} {i new : ℕ} {array : List ℕ} (count : ℕ) → i ≡ count → Picked test numbers i new array
    → record { count = new; numbers = array } ≡ numbers_kept (keep test (take count numbers))
unfolding numbers_kept
picked_all {test} {numbers} count e p =
    (λ j. record { count = p.counted j; numbers = p.are j }) ∙ ap (λ (k : ℕ). numbers_kept (keep test (take k numbers))) e

-- ---- numbers put in order, as rows

length_inserted_all : (new ns : List ℕ) → length (inserted_all new ns) ≤ length ns + length new
unfolding inserted_all
length_inserted_all [] ns = omega arith
length_inserted_all (n ∷ new) ns = let one = length_inserted n ns in let later = length_inserted_all new (inserted n ns) in omega arith

-- the facts that are given are eight at most
pub given_few : {facts : Facts} → FactsHeld facts → length (take (facts.count - 0) facts.numbers) ≤ 8
given_few {facts} held =
    let few = held.few in
    let size = held.size in
    let taken = length-take-le facts.count facts.numbers (omega arith) in
    let part = ap length (part_front facts.count facts.numbers) in
    omega arith

-- zeros are the empty set
pub none_set : SetKept 0 (replicate 8 0)
unfolding rising
none_set = record { few = omega arith; ascends = refl; blank = refl }

-- A few numbers put into the empty set, and written as rows.
module _ (numbers : List ℕ) (few : length numbers ≤ 8) {ordered : List ℕ} {count : ℕ}
    (becomes : Becomes (inserted_all numbers []) (replicate 8 0) ordered count) where
  set_few : length (inserted_all numbers []) ≤ 8
  set_few = let most = length_inserted_all numbers [] in omega arith

  pub ordered_few : count ≤ 8
  ordered_few = let few = set_few in let counted = becomes.counted in omega arith

  pub ordered_inside : count ≤ length ordered
  ordered_inside =
      let size = left_length becomes (let few = set_few in let eight = length-replicate {A = ℕ} 8 0 in omega arith) in
      let eight = length-replicate {A = ℕ} 8 0 in
      let most = ordered_few in
      omega arith

  ordered_are : take (count - 0) ordered ≡ inserted_all numbers []
  ordered_are =
      part_front count ordered ∙ left_set becomes (let few = set_few in let eight = length-replicate {A = ℕ} 8 0 in omega arith)

  pub rows_room : 4 * length (take (count - 0) ordered) ≤ 32
  rows_room = let same = ap length ordered_are in let few = set_few in omega arith

  pub rows_in_order : {rows : List ℕ}
      → rows ≡ flat_map row_bytes (take (count - 0) ordered) ++ drop (4 * length (take (count - 0) ordered)) (replicate 32 0)
      → record { count = count; rows = rows } ≡ rows_kept (inserted_all numbers [])
  unfolding rows_kept padded
  rows_in_order {rows} written =
      λ i. record { count = becomes.counted i; rows = bytes i }
    where
      bytes : rows ≡ flat_map row_bytes (inserted_all numbers []) ++ replicate (32 - length (flat_map row_bytes (inserted_all numbers []))) 0
      bytes =
          written ∙ ap (λ (l : List ℕ). flat_map row_bytes l ++ drop (4 * length l) (replicate 32 0)) ordered_are
          ∙ ap (λ (l : List ℕ). flat_map row_bytes (inserted_all numbers []) ++ l)
          (drop_zeros (4 * length (inserted_all numbers [])) 32
          ∙ ap (λ (k : ℕ). replicate {A = ℕ} (32 - k) 0) (sym (length_rows (inserted_all numbers []))))

-- ---- the facts of an action that may be applied

-- known facts put in order, as rows
module _ {arities : List ℕ} {bound : ℕ} (shape : Shape arities bound) where
  pub sorted_rows : (facts : List Atom) (sorted : State) → all_known arities bound facts → sorted ≡ put_all [] facts
      → rows_kept (inserted_all (map fact_number facts) []) ≡ rows_for (map fact_bytes sorted)
  unfolding rows_kept rows_for all
  sorted_rows facts sorted all_are_known is =
      ap rows_kept (sym (numbers_puts shape facts [] all_are_known refl) ∙ ap (map fact_number) (sym is))
      ∙ (λ i. record { count = counts i; rows = padded 32 0 (bytes i) })
    where
      counts : length (map fact_number sorted) ≡ length (map fact_bytes sorted)
      counts = length-map sorted fact_number ∙ sym (length-map sorted fact_bytes)

      bytes : flat_map row_bytes (map fact_number sorted) ≡ flat_map (λ row. row) (map fact_bytes sorted)
      bytes =
          facts_bytes shape sorted (subst (all_known arities bound) (sym is) (puts_known shape facts [] all_are_known refl))
          ∙ sym (flat_map_map (λ row. row) fact_bytes sorted)

-- the numbers of facts that the code keeps
pub numbers_of_lem : (kept : Facts) (facts : List Atom) → kept ≡ facts_kept facts → length facts ≤ 8
    → take kept.count kept.numbers ≡ map fact_number facts
numbers_of_lem kept facts is few = sym (part_front kept.count kept.numbers) ∙ kept_numbers facts is few

facts_held : (kept : Facts) (facts : List Atom) → kept ≡ facts_kept facts → length facts ≤ 8 → FactsHeld kept
unfolding facts_kept
facts_held kept facts is few =
    let count = length-map facts fact_number in
    record {
      few = let counted = kept_count facts is few in omega arith;
      size = ap (λ (f : Facts). length f.numbers) is ∙ length_padded 8 0 (map fact_number facts) (omega arith);
    }

-- of known facts those that are not in a state, by their numbers
new_numbers : {arities : List ℕ} {bound : ℕ} (shape : Shape arities bound) (facts : List Atom) (s : State) (numbers : List ℕ)
    → all_known arities bound facts → all_known arities bound s → numbers ≡ map fact_number s
    → keep (λ n. not (member n numbers)) (map fact_number facts) ≡ map fact_number (keep (λ f. not (has s f)) facts)
new_numbers {arities} {bound} shape facts s numbers all_are_known state_known are =
    keep_map (λ n. not (member n numbers)) fact_number facts
    ∙ ap (map fact_number) (keep_ext (λ f. not (member (fact_number f) numbers)) (λ f. not (has s f)) facts (λ f m.
    ap not (ap (member (fact_number f)) are ∙ member_has shape f s (all_at (known arities bound) facts all_are_known f m) state_known)))

module _ {arities objects : List ℕ} {schema : Schema} {buffer : List ℕ} {count : ℕ} (allowed : Allowed arities objects schema buffer count) where
  abbrev model_schema : model.Schema
  model_schema = schema_of arities schema

  abbrev state : State
  state = facts_in arities count buffer

  abbrev shape : Shape arities allowed.ready.known_objects
  shape = allowed.ready.state.shape

  in_order : ascending none state ≡ true
  in_order = (state_formed allowed.ready.state).in_order

  -- no more than eight facts go or come
  pub going_few : length (going model_schema objects state) ≤ 8
  unfolding schema_of
  going_few = few_going (right allowed.ready) objects state in_order allowed.ready.one_for_each allowed.ready.different allowed.holds

  pub coming_few : length (coming model_schema objects state) ≤ 8
  unfolding schema_of
  coming_few = few_coming (right allowed.ready) objects state in_order allowed.ready.one_for_each allowed.ready.different allowed.holds

  -- the number of facts of the next state
  pub size_next : length (successor model_schema objects state) + length (going model_schema objects state)
      ≡ count + length (coming model_schema objects state)
  unfolding schema_of
  size_next =
      next_size (right allowed.ready) objects state in_order allowed.ready.one_for_each allowed.ready.different allowed.holds
      ∙ ap (λ (n : ℕ). n + length (coming model_schema objects state)) (length_facts_in arities count buffer)

  -- the deletes, in order, are what goes
  module _ (deletes : Facts) (taken : deletes ≡ facts_kept (taken_out model_schema objects)) where
    out_few : length (taken_out model_schema objects) ≤ 8
    out_few = few_out schema (deletes_bound allowed.ready)

    pub deletes_held : FactsHeld deletes
    deletes_held = facts_held deletes (taken_out model_schema objects) taken out_few

    pub gone_rows : {gone : Rows} → gone ≡ rows_kept (inserted_all (take deletes.count deletes.numbers) [])
        → gone ≡ rows_for (map fact_bytes (going model_schema objects state))
    unfolding schema_of
    gone_rows is =
        is ∙ ap (λ (ns : List ℕ). rows_kept (inserted_all ns [])) (numbers_of_lem deletes (taken_out model_schema objects) taken out_few)
        ∙ sorted_rows shape (taken_out model_schema objects) (going model_schema objects state) (out_known allowed.ready)
        (going_sorted (right allowed.ready) objects state in_order allowed.ready.one_for_each allowed.ready.different allowed.holds)

  -- the adds that are not in the state, in order, are what comes
  module _ (adds : Facts) (put : adds ≡ facts_kept (put_in model_schema objects)) where
    in_few : length (put_in model_schema objects) ≤ 8
    in_few = few_in schema (adds_bound allowed.ready)

    pub adds_held : FactsHeld adds
    adds_held = facts_held adds (put_in model_schema objects) put in_few

    module _ (new : Facts)
        (missing : new ≡ numbers_kept (keep (λ n. not (member n (numbers_in count buffer))) (take adds.count adds.numbers))) where
      new_are : new ≡ facts_kept (newly_put_in model_schema objects state)
      unfolding numbers_kept facts_kept
      new_are =
          missing
          ∙ ap (λ (ns : List ℕ). numbers_kept (keep (λ n. not (member n (numbers_in count buffer))) ns))
          (numbers_of_lem adds (put_in model_schema objects) put in_few)
          ∙ ap numbers_kept (new_numbers shape (put_in model_schema objects) state (numbers_in count buffer) (in_known allowed.ready)
          (before_known allowed.ready) (state_numbers allowed.ready.state))
          ∙ (λ i. record {
            count = length-map (newly_put_in model_schema objects state) fact_number i;
            numbers = padded 8 0 (map fact_number (newly_put_in model_schema objects state));
          })

      newly_few : length (newly_put_in model_schema objects state) ≤ 8
      newly_few =
          let kept = length_keep (λ f. not (has state f)) (put_in model_schema objects) in
          let most = count_most (λ f. not (has state f)) (put_in model_schema objects) in
          let few = in_few in
          omega arith

      pub new_held : FactsHeld new
      new_held = facts_held new (newly_put_in model_schema objects state) new_are newly_few

      pub come_rows : {come : Rows} → come ≡ rows_kept (inserted_all (take new.count new.numbers) [])
          → come ≡ rows_for (map fact_bytes (coming model_schema objects state))
      unfolding schema_of
      come_rows is =
          is ∙ ap (λ (ns : List ℕ). rows_kept (inserted_all ns [])) (numbers_of_lem new (newly_put_in model_schema objects state) new_are newly_few)
          ∙ sorted_rows shape (newly_put_in model_schema objects state) (coming model_schema objects state)
          (keep_known shape (λ f. not (has state f)) (put_in model_schema objects) (in_known allowed.ready))
          (coming_sorted (right allowed.ready) objects state in_order allowed.ready.one_for_each allowed.ready.different allowed.holds)

  -- an action has at most six objects
  pub objects_few : length objects ≤ 6
  unfolding schema_of
  objects_few = let few = (right allowed.ready).few_parameters in let each = allowed.ready.one_for_each in omega arith

  -- what goes and what comes is known, and has rows of four bytes
  going_known : all_known arities allowed.ready.known_objects (going model_schema objects state)
  unfolding going
  going_known = keep_known shape (has (taken_out model_schema objects)) state (before_known allowed.ready)

  coming_known : all_known arities allowed.ready.known_objects (coming model_schema objects state)
  unfolding schema_of all
  coming_known =
      subst (all_known arities allowed.ready.known_objects)
      (sym (coming_sorted (right allowed.ready) objects state in_order allowed.ready.one_for_each allowed.ready.different allowed.holds))
      (puts_known shape (newly_put_in model_schema objects state) []
      (keep_known shape (λ f. not (has state f)) (put_in model_schema objects) (in_known allowed.ready)) refl)

  rows_four : (facts : State) → all_known arities allowed.ready.known_objects facts → FourEach (map fact_bytes facts)
  rows_four facts all_are_known = record {
    each = λ row m.
        let (f, on, is) = Memᴰ.of_map fact_bytes facts m in
        sym (ap length is) ∙ ap length (fact_four shape f (all_at (known arities allowed.ready.known_objects) facts all_are_known f on)).are;
  }

  pub gone_four : FourEach (map fact_bytes (going model_schema objects state))
  gone_four = rows_four (going model_schema objects state) going_known

  pub come_four : FourEach (map fact_bytes (coming model_schema objects state))
  come_four = rows_four (coming model_schema objects state) coming_known
