-- A state in a buffer: what well-formed bytes hold, and that a state written to a buffer stands there.
use Prim.Native.Nat.{ℕ, zero, suc, ◌+◌, ◌-◌, ◌*◌, ◌≤◌}
use native.Mathlib.Omega.{arith}
use mathlib.Core.Path.{◌≡◌, refl, ap, ◌∙◌}
use mathlib.Core.Bool.{Bool, true, ◌&&◌}
use mathlib.Core.Option.{none}
use mathlib.Core.List.{List, [], ◌∷◌, ◌++◌, flat_map, append_assoc}
use lib.Dec.{eqb, leb}
use lib.ListN.{length, get_or, take, drop, replicate, length-append, length-drop, length-replicate}
use lib.Seq.{take_at, drop_at}
use borrow.Author.Tests.{ltb-true, leb-true, le-leb}
use Rattle.laws.specs.Lists.{all}
use Rattle.laws.proofs.Tests.{and_left, and_right, and_intro}
use Rattle.laws.proofs.Mapped.{all_replicate}
use Rattle.model.specs.Answer.{accepted}
use Rattle.model.specs.Card.{Atom, Task}
use Rattle.model.specs.Writer.{known, check_task}
use Rattle.model.specs.Strips.{State, filler, fact_bytes, fact_at, facts_in, row_right, rows_right, ascending, well_formed, written}
use Rattle.model.proofs.Valid.{Valid}
use Rattle.model.proofs.Order.{known_predicate, known_arity}
use Rattle.model.proofs.Checked.{Checked, checked, arity_high}

-- the facts read from a buffer are as many as the count
pub length_facts_in : (arities : List ℕ) (n : ℕ) (buffer : List ℕ) → length (facts_in arities n buffer) ≡ n
unfolding facts_in
length_facts_in arities zero buffer = refl
length_facts_in arities (suc n) buffer = ap suc (length_facts_in arities n (drop 4 buffer))

-- What 15 asks of a buffer and a count.
pub record WellFormed (arities : List ℕ) (objects : ℕ) (buffer : List ℕ) (count : ℕ) : Type 0 where
  pub room : 4096 ≤ length buffer
  pub count_fits : count ≤ 1024
  pub rows : rows_right arities objects count buffer ≡ true
  pub in_order : ascending none (facts_in arities count buffer) ≡ true

module _ (arities : List ℕ) (objects : ℕ) where
  -- right rows hold known facts
  pub rows_known : (n : ℕ) (buffer : List ℕ) → rows_right arities objects n buffer ≡ true
      → all (known arities objects) (facts_in arities n buffer) ≡ true
  unfolding rows_right row_right facts_in all
  rows_known zero buffer e = refl
  rows_known (suc n) buffer e =
      let right : Bool = row_right arities objects (take 4 buffer) in
      and_intro (known arities objects (fact_at arities (take 4 buffer))) _
      (and_left (known arities objects (fact_at arities (take 4 buffer))) _ (and_left right (rows_right arities objects n (drop 4 buffer)) e))
      (rows_known n (drop 4 buffer) (and_right right (rows_right arities objects n (drop 4 buffer)) e))

  module _ (buffer : List ℕ) (count : ℕ) where
    pub well_formed_lem : well_formed arities objects buffer count ≡ true → WellFormed arities objects buffer count
    unfolding well_formed
    well_formed_lem e =
        let large : Bool = leb 4096 (length buffer) in
        let few : Bool = leb count 1024 in
        let right : Bool = rows_right arities objects count buffer in
        let three = and_left (large && few && right) _ e in
        let two = and_left (large && few) right three in
        record {
          room = leb-true 4096 (length buffer) (and_left large few two);
          count_fits = leb-true count 1024 (and_right large few two);
          rows = and_right (large && few) right three;
          in_order = and_right (large && few && right) _ e;
        }

    pub well_formed_intro : WellFormed arities objects buffer count → well_formed arities objects buffer count ≡ true
    unfolding well_formed
    well_formed_intro w =
        let large : Bool = leb 4096 (length buffer) in
        let few : Bool = leb count 1024 in
        let right : Bool = rows_right arities objects count buffer in
        and_intro (large && few && right) _
        (and_intro (large && few) right
        (and_intro large few (le-leb 4096 (length buffer) w.room) (le-leb count 1024 w.count_fits))
        w.rows)
        w.in_order

-- a well-formed buffer holds a state of the task
pub well_formed_valid :
    (t : Task) (buffer : List ℕ) (count : ℕ) → well_formed t.arities t.objects buffer count ≡ true → Valid t (facts_in t.arities count buffer)
well_formed_valid t buffer count e =
    let w = well_formed_lem t.arities t.objects buffer count e in
    record { facts_known = rows_known t.arities t.objects count buffer w.rows; in_order = w.in_order }

-- it has as many facts as the count says, at most 1,024
pub well_formed_count :
    (t : Task) (buffer : List ℕ) (count : ℕ) → well_formed t.arities t.objects buffer count ≡ true
    → (length (facts_in t.arities count buffer) ≡ count) × (count ≤ 1024)
well_formed_count t buffer count e = (length_facts_in t.arities count buffer, (well_formed_lem t.arities t.objects buffer count e).count_fits)

-- a fact with at most three arguments has four bytes
pub length_fact_bytes : (f : Atom) → length f.arguments ≤ 3 → length (fact_bytes f) ≡ 4
unfolding fact_bytes
length_fact_bytes f h =
    ap suc (length-append f.arguments (replicate (3 - length f.arguments) filler))
    ∙ ap (λ (n : ℕ). suc (length f.arguments + n)) (length-replicate (3 - length f.arguments) filler)
    ∙ omega arith

-- its bytes stand for the fact, as its arity says
pub fact_at_fact_bytes : (arities : List ℕ) (f : Atom) → length f.arguments ≡ get_or arities f.predicate 0 → fact_at arities (fact_bytes f) ≡ f
unfolding fact_at fact_bytes
fact_at_fact_bytes arities f n =
    λ i. record { predicate = f.predicate; arguments = take_at f.arguments (replicate (3 - length f.arguments) filler) _ n i }

-- and they are right
pub row_written : (t : Task) (f : Atom) → known t.arities t.objects f ≡ true → row_right t.arities t.objects (fact_bytes f) ≡ true
unfolding row_right fact_bytes
row_written t f k =
    let n = known_arity t.arities t.objects f k in
    and_intro (known t.arities t.objects (fact_at t.arities (fact_bytes f))) _
    (ap (known t.arities t.objects) (fact_at_fact_bytes t.arities f n) ∙ k)
    (ap (all (eqb filler)) (drop_at f.arguments (replicate (3 - length f.arguments) filler) _ n)
    ∙ all_replicate (eqb filler) (3 - length f.arguments) filler refl)

module _ (t : Task) (c : Checked t) where
  -- a known fact has four bytes
  pub length_known : (f : Atom) → known t.arities t.objects f ≡ true → length (fact_bytes f) ≡ 4
  length_known f k =
      let n = known_arity t.arities t.objects f k in
      let h = arity_high t c f.predicate (ltb-true _ _ (known_predicate t.arities t.objects f k)) in
      length_fact_bytes f (omega arith)

  -- the bytes of known facts hold those facts, in right rows
  pub facts_written :
      (s : State) (rest : List ℕ) → all (known t.arities t.objects) s ≡ true
      → (facts_in t.arities (length s) (flat_map fact_bytes s ++ rest) ≡ s)
      × (rows_right t.arities t.objects (length s) (flat_map fact_bytes s ++ rest) ≡ true)
  unfolding flat_map facts_in rows_right all
  facts_written [] rest k = (refl, refl)
  facts_written (f ∷ fs) rest k =
      let right : Bool = known t.arities t.objects f in
      let later = facts_written fs rest (and_right right _ k) in
      let here = and_left right (all (known t.arities t.objects) fs) k in
      let bytes : List ℕ = flat_map fact_bytes fs ++ rest in
      let joined = append_assoc (fact_bytes f) (flat_map fact_bytes fs) rest in
      let front : take 4 (fact_bytes f ++ flat_map fact_bytes fs ++ rest) ≡ fact_bytes f =
      ap (take 4) joined ∙ take_at (fact_bytes f) bytes 4 (length_known f here) in
      let behind : drop 4 (fact_bytes f ++ flat_map fact_bytes fs ++ rest) ≡ bytes =
      ap (drop 4) joined ∙ drop_at (fact_bytes f) bytes 4 (length_known f here) in (
        rw (front, behind) (cc (fact_at_fact_bytes t.arities f (known_arity t.arities t.objects f here), later.0)),
        rw (front, behind) (and_intro (row_right t.arities t.objects (fact_bytes f)) _ (row_written t f here) later.1),
      )

  -- four bytes for each fact
  pub length_facts : (s : State) → all (known t.arities t.objects) s ≡ true → length (flat_map fact_bytes s) ≡ 4 * length s
  unfolding flat_map all
  length_facts [] k = refl
  length_facts (f ∷ fs) k =
      let right : Bool = known t.arities t.objects f in
      let later = length_facts fs (and_right right _ k) in
      let here = length_known f (and_left right (all (known t.arities t.objects) fs) k) in
      length-append (fact_bytes f) (flat_map fact_bytes fs) ∙ omega arith

  -- a state of at most 1,024 facts, written to a buffer of at least 4,096 bytes: the buffer keeps its length
  pub length_written :
      (s : State) (buffer : List ℕ) → Valid t s → length s ≤ 1024 → 4096 ≤ length buffer
      → length (written s buffer) ≡ length buffer
  unfolding written
  length_written s buffer v few large =
      length-append (flat_map fact_bytes s ++ replicate (4096 - 4 * length s) 0) (drop 4096 buffer)
      ∙ (let facts = length_facts s v.facts_known in
      let zeros = length-replicate {A = ℕ} (4096 - 4 * length s) 0 in
      let beyond = length-drop 4096 buffer in
      let front = length-append (flat_map fact_bytes s) (replicate (4096 - 4 * length s) 0) in
      omega arith)

  -- the facts stand there as written
  pub stored_facts :
      (s : State) (buffer : List ℕ) → Valid t s → facts_in t.arities (length s) (written s buffer) ≡ s
  unfolding written
  stored_facts s buffer v =
      rw append_assoc (facts_written s (replicate (4096 - 4 * length s) 0 ++ drop 4096 buffer) v.facts_known).0

  -- and 15 does not refuse them
  pub stored_well_formed :
      (s : State) (buffer : List ℕ) → Valid t s → length s ≤ 1024 → 4096 ≤ length buffer
      → well_formed t.arities t.objects (written s buffer) (length s) ≡ true
  stored_well_formed s buffer v few large =
      well_formed_intro t.arities t.objects (written s buffer) (length s)
      (record {
        room = let kept = length_written s buffer v few large in omega arith;
        count_fits = few;
        rows = stored_rows;
        in_order = ap (ascending none) (stored_facts s buffer v) ∙ v.in_order;
      })
    where
      stored_rows : rows_right t.arities t.objects (length s) (written s buffer) ≡ true
      stored_rows =
          unfold written in
          rw append_assoc (facts_written s (replicate (4096 - 4 * length s) 0 ++ drop 4096 buffer) v.facts_known).1

-- a state of at most 1,024 facts, written to a buffer of at least 4,096 bytes, stands there and is well formed
pub stored_state :
    (t : Task) → check_task t ≡ accepted tt → (s : State) (buffer : List ℕ) → Valid t s → length s ≤ 1024 → 4096 ≤ length buffer
    → (facts_in t.arities (length s) (written s buffer) ≡ s) × (well_formed t.arities t.objects (written s buffer) (length s) ≡ true)
    × (length (written s buffer) ≡ length buffer)
stored_state t ok s buffer v few large = (
  stored_facts t (checked t ok) s buffer v,
  stored_well_formed t (checked t ok) s buffer v few large,
  length_written t (checked t ok) s buffer v few large,
)
