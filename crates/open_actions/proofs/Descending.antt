-- A schema of a checked task on a well-formed state: what candidates and room say of the bindings that are open.
use Prim.Native.Nat.{ℕ, ◌+◌, ◌-◌, ◌≤◌, ◌<◌}
use native.Mathlib.Omega.{arith}
use mathlib.Core.Path.{◌≡◌, sym, ap, ◌∙◌, subst}
use mathlib.Core.Bool.{Bool, true, false, not, ◌&&◌}
use mathlib.Core.List.{List}
use mathlib.Core.Logic.{◌⊎◌}
use lib.Dec.{leb}
use lib.ListN.{length, get_or, set, length-set}
use lib.Seq.{get_or-set_other}
use borrow.Author.Tests.{leb-true}
use Rattle.std.specs.Prelude.{Result, Ok, Err}
use Rattle.laws.specs.Lists.{all, count, distinct, up_to}
use Rattle.laws.proofs.Lists.{all_at, count_ext, up_to_at}
use Rattle.laws.proofs.Mapped.{all_map}
use Rattle.laws.proofs.Counting.{count_map}
use Rattle.laws.proofs.Tests.{and_left, and_right, by_test, never, to_not_true}
use Rattle.laws.proofs.Walks.{listed}
use Rattle.model.specs.Card.{Atom, has}
use Rattle.model.specs.Writer.{known}
use Rattle.model.specs.Strips.{State, most_facts, facts_in, ground, applicable, progress}
use Rattle.model.specs.Open.{is_accepted}
use Rattle.model.proofs.Checked.{CheckedSchema, checked_schema}
use Rattle.model.proofs.Buffer.{WellFormed, well_formed_lem, length_facts_in}
use Rattle.model.proofs.NextState.{new_facts, progress_by_room}
use Rattle.card.specs.Represents.{atom_of, atoms_of, schema_of, blank_atom}
use Rattle.card.specs.declared.AtomList.{AtomList}
use Rattle.card.specs.declared.Schema.{Schema}
use Rattle.card.proofs.Entries.{item_at, item_in, length_atoms}
use Rattle.masks.specs.Sets.{is_member, union_of, common_of, single_of}
use Rattle.strips.specs.Steps.{ListKept, ActionReady}
use Rattle.open_actions.specs.Masked.{Agree, Inside, StartsFrom, BoundBelow}
use Rattle.open_actions.specs.Supports.{ListReady, LeavesCandidates, LeavesSupports, LeavesRoom, atom_at, support_at}
use Rattle.open_actions.specs.Bindings.{Query, query_of, query_in, open_binding, Full, SearchOutcome, Searchable, Leaves, Taken}
use Rattle.open_actions.specs.Notes.{Recalled, Noted, KeepsNotes, Searches, Descends, Concludes}
use Rattle.open_actions.specs.declared.query.Query.{Query as Asked}
use Rattle.open_actions.specs.declared.support.Support.{Support}
use Rattle.open_actions.proofs.Choosing.{inside_refl, inside_trans, inside_left, inside_right, agree_inside}
use Rattle.open_actions.proofs.Searching.{same_length, full_set, full_below, more_below, more_bound, single_inside}
use Rattle.open_actions.proofs.Searching.{ruled_out, taken_closes, stuck_anyway}
use Rattle.open_actions.proofs.Searching.{Trying, try_start, try_skip, try_found, try_back, try_again, try_end}
use Rattle.open_actions.proofs.Noting.{recalled_says, stuck_noted, same_notes, kept_twice}

module _ {asked : Asked} {exact : Bool} {bound level : ℕ} {x : List ℕ}
    (ready : Searchable asked exact bound level x) where
  abbrev arities : List ℕ
  arities = asked.arities.now

  abbrev most : ℕ
  most = asked.known

  abbrev schema : Schema
  schema = asked.schema

  abbrev buffer : List ℕ
  buffer = asked.state.now

  abbrev rows : ℕ
  rows = asked.count

  abbrev q : Query
  q = query_in asked

  abbrev facts : State
  facts = facts_in arities rows buffer

  checked : CheckedSchema arities (schema_of arities schema)
  checked = checked_schema arities (schema_of arities schema) asked.ready.schema_kept.checks

  formed : WellFormed arities most buffer rows
  formed = well_formed_lem arities most buffer rows asked.ready.state_kept.well

  pub few_rows : rows ≤ 1024
  few_rows = formed.count_fits

  pub few_objects : most ≤ 64
  few_objects = asked.ready.state_kept.shape.few_objects

  pub full_length : {y : List ℕ} → Full q y → length y ≡ schema.parameters
  unfolding query_in query_of schema_of
  full_length f = f.one_for_each

  pub few_parameters : length x ≤ 6
  unfolding schema_of
  few_parameters = let n = full_length ready.full in let few = checked.few_parameters in omega arith

  pub few_adds : schema.adds.count ≤ 8
  few_adds = asked.ready.schema_kept.adds.few

  list_ready : (l : AtomList) → ListKept l → all (known arities schema.parameters) (atoms_of arities l) ≡ true → ListReady asked l x
  unfolding atom_at atoms_of
  list_ready l kept right = record {
    few_atoms = kept.few;
    size = kept.size;
    atoms_known = λ i h.
        subst (λ (n : ℕ). known arities n (atom_of arities (get_or l.atoms i blank_atom)) ≡ true) (sym (full_length ready.full))
        (all_at (known arities schema.parameters) (atoms_of arities l) right (atom_of arities (get_or l.atoms i blank_atom))
        (item_in (atom_of arities) l.count blank_atom l.atoms i h));
    few = let few = few_parameters in omega arith;
  }

  pub preconditions_ready : ListReady asked schema.preconditions x
  unfolding schema_of
  preconditions_ready = list_ready schema.preconditions asked.ready.schema_kept.preconditions checked.preconditions_right.atoms_known

  pub adds_ready : ListReady asked schema.adds x
  unfolding schema_of
  adds_ready = list_ready schema.adds asked.ready.schema_kept.adds checked.adds_right.atoms_known

  -- a binding by different objects as an action
  pub action_ready : {d : Bool} → d ≡ distinct x → d ≡ true → ActionReady arities x schema buffer rows
  unfolding query_in query_of
  action_ready e differ = record {
    known_objects = most;
    state = asked.ready.state_kept;
    schema_kept = asked.ready.schema_kept;
    one_for_each = full_length ready.full;
    objects_known = ready.full.objects_known;
    different = sym e ∙ differ;
  }

  -- what the test of a whole binding says
  pub decides : {r d : Bool} → d ≡ distinct x → d ≡ true → r ≡ is_accepted (progress (schema_of arities schema) x facts) → r ≡ open_binding q x
  unfolding query_in query_of open_binding
  decides {r} e differ e₂ = e₂ ∙ ap (λ (b : Bool). b && is_accepted (progress (schema_of arities schema) x facts)) (sym (sym e ∙ differ))

  pub repeats : {d : Bool} → d ≡ distinct x → d ≡ false → false ≡ open_binding q x
  unfolding query_in query_of open_binding
  repeats e same = ap (λ (b : Bool). b && is_accepted (progress (schema_of arities schema) x facts)) (sym (sym e ∙ same))

  -- an open binding: no two objects are the same, every precondition is a fact, and there is room
  module _ (y : List ℕ) (full : Full q y) (opened : open_binding q y ≡ true) where
    differ : distinct y ≡ true
    unfolding query_in query_of open_binding
    differ = and_left (distinct y) (is_accepted (progress (schema_of arities schema) y facts)) opened

    by_room : (applicable (schema_of arities schema) y facts
        && leb (new_facts (schema_of arities schema) y facts) (most_facts + length (atoms_of arities schema.deletes) - length facts)) ≡ true
    unfolding query_in query_of open_binding schema_of
    by_room =
        sym (progress_by_room checked y facts formed.in_order (let n = length_facts_in arities rows buffer in let few = few_rows in omega arith)
        (full_length full) differ)
        ∙ and_right (distinct y) (is_accepted (progress (schema_of arities schema) y facts)) opened

    pub precondition_holds : (i : ℕ) → i < schema.preconditions.count → has facts (ground y (atom_at arities schema.preconditions i)) ≡ true
    unfolding applicable schema_of atom_at atoms_of
    precondition_holds i h =
        all_at (λ a. has facts (ground y a)) (atoms_of arities schema.preconditions)
        (sym (all_map (ground y) (has facts) (atoms_of arities schema.preconditions)) ∙ and_left _ _ by_room)
        (atom_of arities (get_or schema.preconditions.atoms i blank_atom))
        (item_in (atom_of arities) schema.preconditions.count blank_atom schema.preconditions.atoms i h)

    -- the adds that are no facts, counted by their places
    abbrev pub missing : ℕ → Bool
    missing i = not (has facts (ground y (atom_at arities schema.adds i)))

    places : new_facts (schema_of arities schema) y facts ≡ count missing (up_to schema.adds.count)
    unfolding schema_of atom_at atoms_of
    places =
        let adds : List Atom = atoms_of arities schema.adds in
        let at : ℕ → Atom = λ (k : ℕ). get_or adds k (atom_of arities blank_atom) in
        let test : Atom → Bool = λ (a : Atom). not (has facts (ground y a)) in
        ap (count test) (sym (listed adds (atom_of arities blank_atom)))
        ∙ count_map test at (up_to (length adds))
        ∙ ap (λ (n : ℕ). count (λ k. test (at k)) (up_to n)) (length_atoms arities schema.adds)
        ∙ count_ext (λ k. test (at k)) missing (up_to schema.adds.count)
        (λ k m. ap test (item_at (atom_of arities) schema.adds.count blank_atom schema.adds.atoms k (up_to_at schema.adds.count k m)))

    pub adds_fit : count missing (up_to schema.adds.count) ≤ most_facts + schema.deletes.count - rows
    adds_fit =
        let n = length_facts_in arities rows buffer in
        let d = length_atoms arities schema.deletes in
        let few : new_facts (schema_of arities schema) y facts ≤ most_facts + length (atoms_of arities schema.deletes) - length facts =
        leb-true _ _ (and_right (applicable (schema_of arities schema) y facts) _ by_room) in
        let p = places in
        omega arith

  -- the candidates of the preconditions are the objects that are left
  pub leaves_candidates :
      {mask culprits : ℕ} → LeavesCandidates asked schema.preconditions schema.preconditions.count level bound x mask culprits
      → Leaves q bound level x mask culprits
  unfolding query_in query_of
  leaves_candidates leaves = record {
    inside = leaves.inside;
    holds = λ y full long agrees opened. leaves.holds y agrees (precondition_holds y full opened) (full_below full level long);
  }

  -- and so are those of them that leave room
  pub leaves_room :
      {mask culprits : ℕ} {items : List Support} {left why : ℕ}
      → LeavesCandidates asked schema.preconditions schema.preconditions.count level bound x mask culprits
      → LeavesSupports asked schema.adds level bound x items
      → length items ≡ schema.adds.count → LeavesRoom mask culprits items (most_facts + schema.deletes.count - rows) most left why
      → Leaves q bound level x left why
  unfolding query_in query_of atom_at
  leaves_room {mask} {culprits} {items} {left} {why} leaves supports all_adds roomy = record {
    inside = roomy.inside bound leaves.inside (λ i h. (supports.each i (omega arith)).inside);
    holds = λ y full long agrees opened.
        by_test (is_member left (get_or y level 0))
        (λ there. there)
        (λ out.
        let fits = adds_fit y full opened in
        let over = roomy.crowded (get_or y level 0) (full_below full level long)
        (leaves.holds y (agree_inside roomy.more agrees) (precondition_holds y full opened) (full_below full level long)) out
        (missing y full opened) (λ i h. lacks y full opened long agrees i (omega arith)) in
        let all = ap (λ (n : ℕ). count (missing y full opened) (up_to n)) all_adds in
        absurd (omega arith));
  }
    where
      lacks : (y : List ℕ) (full : Full q y) (opened : open_binding q y ≡ true) → level < length y → Agree why x y → (i : ℕ) → i < schema.adds.count
          → Inside (support_at items i).linked why → is_member (support_at items i).mask (get_or y level 0) ≡ false → missing y full opened i ≡ true
      lacks y full opened long agrees i h inside out =
          by_test (has facts (ground y (atom_at arities schema.adds i)))
          (λ there.
          never (sym ((supports.each i h).holds y (agree_inside inside agrees) there
          (let small = full_below full level long in let few = few_objects in omega arith)) ∙ out))
          (λ gone. to_not_true _ gone)

  -- the next level, with an object for this one
  pub next_ready :
      {o b : ℕ} {sure : Bool} → level < length x → o < most → b ≡ union_of bound (single_of level) → (sure ≡ true → exact ≡ true)
      → Searchable asked sure b (level + 1) (set x level o)
  unfolding query_in query_of
  next_ready {o} {b} {sure} inside small e surely =
      subst (λ (k : ℕ). Searchable asked sure k (level + 1) (set x level o)) (sym e) (record {
        full = full_set ready.full inside small;
        bound_below = more_below ready.bound_below;
        all_bound = λ s. more_bound (ready.all_bound (surely s));
        within = let n = length-set x level o in omega arith;
      })

  -- the same level, with another binding that begins alike
  pub same_ready : {now : List ℕ} → Full q now → Searchable asked exact bound level now
  same_ready full = record {
    full = full;
    bound_below = ready.bound_below;
    all_bound = ready.all_bound;
    within = let n = full_length full in let m = full_length ready.full in let w = ready.within in omega arith;
  }

-- A level below the last, with an object for its parameter, and notes.
module _ {asked : Asked} {exact : Bool} {bound level o : ℕ} {x notes : List ℕ}
    (pre : Descends asked exact bound level o x notes) where
  pub small : o < 64
  small = let few = few_objects pre.ready in let k = pre.object_known in omega arith

  pub level_fits : level < 6
  level_fits = let few = few_parameters pre.ready in let inside = pre.inside in omega arith

  pub set_full : Full (q pre.ready) (set x level o)
  unfolding query_in query_of
  set_full = full_set pre.ready.full pre.inside pre.object_known

  -- what the search of the next level says, with the mask that the code made, and with the notes
  abbrev Next : List ℕ → List ℕ → Result (Unit {0}) ℕ → Type 0
  Next after new r = Concludes (q pre.ready) exact (union_of bound (single_of level)) (level + 1) 0 (set x level o) after notes new r

  module _ {s b : ℕ} (this : s ≡ single_of level) (joined : b ≡ union_of bound s) where
    bound_is : b ≡ union_of bound (single_of level)
    bound_is = joined ∙ ap (union_of bound) this

    below : BoundBelow b (level + 1)
    below = subst (λ (k : ℕ). BoundBelow k (level + 1)) (sym bound_is) (more_below pre.ready.bound_below)

    pub level_ready : {sure : Bool} → (sure ≡ true → exact ≡ true) → Searches asked sure b (level + 1) (set x level o) notes
    level_ready surely = record { ready = next_ready pre.ready pre.inside pre.object_known bound_is surely; true_notes = pre.true_notes }

    says : {sure : Bool} {after : List ℕ} {r : Result (Unit {0}) ℕ} → SearchOutcome (q pre.ready) sure b (level + 1) 0 (set x level o) after r
        → SearchOutcome (q pre.ready) sure (union_of bound (single_of level)) (level + 1) 0 (set x level o) after r
    says {sure} {after} {r} outcome =
        subst (λ (k : ℕ). SearchOutcome (q pre.ready) sure k (level + 1) 0 (set x level o) after r) bound_is outcome

    -- a note says that the search is stuck
    pub level_recalls : {place r : ℕ} → Recalled notes place b (set x level o) r → Next (set x level o) notes (Err r)
    level_recalls recalled = record {
      outcome = says (recalled_says pre.true_notes set_full
          (record { each = λ p m. let h = below.each p m in let n = length-set x level o in let inside = pre.inside in omega arith })
          recalled);
      notes_kept = same_notes pre.true_notes;
    }

    module _ {sure : Bool} {after new : List ℕ} {r : Result (Unit {0}) ℕ}
        (later : Concludes (q pre.ready) sure b (level + 1) 0 (set x level o) after notes new r) where
      -- it is stuck, and noted
      pub level_stuck : {place why c : ℕ} {newer : List ℕ} → r ≡ Err why → c ≡ union_of why s → (newer ≡ new) ⊎ Noted new newer place c after
          → Next after newer r
      level_stuck stops e noted = record {
        outcome = stuck_anyway (says later.outcome) stops;
        notes_kept = kept_twice later.notes_kept (stuck_noted later.outcome stops below within few own e later.notes_kept.true_notes noted);
      }
        where
          long : length after ≡ length x
          long = same_length later.outcome.full pre.ready.full

          within : level + 1 ≤ length after
          within = let n = long in let inside = pre.inside in omega arith

          few : length after ≤ 6
          few = let n = long in let h = few_parameters pre.ready in omega arith

          own : Inside s b
          own = subst (Inside s) (sym joined) (inside_right bound s)

      -- something is found, but an earlier parameter has the object
      pub taken_already : {owner one m : ℕ} → Taken (set x level o) bound level o owner → one ≡ single_of owner → m ≡ union_of one s
          → Next after new (Err m)
      taken_already {owner} {one} {m} taken single joined_both = record {
        outcome =
            ruled_out pre.ready.bound_below pre.ready.full pre.inside later.outcome.full later.outcome.begins
            (single_inside owner taken.is_bound)
            (taken_closes pre.ready.bound_below pre.ready.full pre.inside taken.below
            (sym (get_or-set_other x level owner o 0 (λ e. absurd (let h = taken.below in omega (arith, e)))) ∙ taken.has_object))
            (joined_both ∙ ap (λ (k : ℕ). union_of k s) single ∙ ap (union_of (single_of owner)) this);
        notes_kept = later.notes_kept;
      }

      -- what is found answers
      pub level_finds : sure ≡ exact → Next after new r
      level_finds e = record {
        outcome =
            subst (λ (k : Bool). SearchOutcome (q pre.ready) k (union_of bound (single_of level)) (level + 1) 0 (set x level o) after r) e
            (says later.outcome);
        notes_kept = later.notes_kept;
      }

-- What is tried at a level so far, with notes; the objects that are not left are blamed.
pub record Turning (q : Query) (bound level from : ℕ) (x now : List ℕ) (culprits o why : ℕ) (old notes : List ℕ) : Type 0 where
  pub trying : Trying q bound level from x now culprits o
  pub blamed : Inside why culprits
  pub notes_kept : KeepsNotes q old notes

-- A search from a level on, with notes.
module _ {asked : Asked} {exact : Bool} {bound level : ℕ} {x notes : List ℕ}
    (pre : Searches asked exact bound level x notes) where
  -- every parameter has its object
  pub whole_ready : level ≡ length x → Searchable asked exact bound (length x) x
  whole_ready e = subst (λ (k : ℕ). Searchable asked exact bound k x) e pre.ready

  pub whole_says : {from : ℕ} {r : Result (Unit {0}) ℕ} → level ≡ length x
      → SearchOutcome (q pre.ready) exact bound (length x) 0 x x r → Concludes (q pre.ready) exact bound level from x x notes notes r
  whole_says {from} {r} e outcome = record {
    outcome = subst (λ (k : ℕ). SearchOutcome (q pre.ready) exact bound k from x x r) (sym e) (record {
      full = outcome.full;
      begins = outcome.begins;
      stuck = λ c fails. record {
        inside = (outcome.stuck c fails).inside;
        none = λ y f agrees reaches. (outcome.stuck c fails).none y f agrees (past y f);
      };
      found = λ finds sure. record {
        open_now = (outcome.found finds sure).open_now;
        reaches = record { from_on = λ h. absurd (omega arith) };
        none_before = λ y f begins reaches. (outcome.found finds sure).none_before y f begins (past y f);
      };
    });
    notes_kept = same_notes pre.true_notes;
  }
    where
      past : (y : List ℕ) → Full (q pre.ready) y → StartsFrom (length x) 0 y
      past y f = record { from_on = λ h. omega arith }

  -- what is left to the parameter is asked for whether the search is exact or not
  pub choices_ready : Searchable asked false bound level x
  choices_ready = record {
    full = pre.ready.full;
    bound_below = pre.ready.bound_below;
    all_bound = λ e. never (sym e);
    within = pre.ready.within;
  }

  module _ (differs : level ≡ length x → ⊥) where
    pub inner : level < length x
    inner = let w = pre.ready.within in omega arith

    module _ {from mask why : ℕ} (leaves : Leaves (q pre.ready) bound level x mask why) where
      pub turn_start : Turning (q pre.ready) bound level from x x why from why notes notes
      turn_start = record { trying = try_start pre.ready.full leaves.inside; blamed = inside_refl; notes_kept = same_notes pre.true_notes }

      module _ {now : List ℕ} {culprits o : ℕ} {kept : List ℕ} (turning : Turning (q pre.ready) bound level from x now culprits o why notes kept) where
        -- an object that is not left
        pub turn_skip : {b : Bool} → b ≡ is_member mask o → b ≡ false → Turning (q pre.ready) bound level from x now culprits (o + 1) why notes kept
        turn_skip e out = record {
          trying = try_skip pre.ready.full pre.ready.bound_below inner turning.trying leaves turning.blamed e out;
          blamed = turning.blamed;
          notes_kept = turning.notes_kept;
        }

        -- the step of a level
        pub step_ready : o < asked.known → Descends asked exact bound level o now kept
        step_ready known = record {
          ready = same_ready pre.ready turning.trying.full;
          inside = let n = same_length turning.trying.full pre.ready.full in let w = inner in omega arith;
          object_known = known;
          true_notes = turning.notes_kept.true_notes;
        }

        pub stays_long : length now ≡ length x
        stays_long = same_length turning.trying.full pre.ready.full

        module _ {after new : List ℕ} {r : Result (Unit {0}) ℕ}
            (step : Concludes (q pre.ready) exact (union_of bound (single_of level)) (level + 1) 0 (set now level o) after kept new r) where
          pub turn_found : r ≡ Ok tt → Concludes (q pre.ready) exact bound level from x after notes new r
          turn_found finds = record {
            outcome = try_found pre.ready.full pre.ready.bound_below inner turning.trying step.outcome finds;
            notes_kept = kept_twice turning.notes_kept step.notes_kept;
          }

          module _ {culprit : ℕ} (stops : r ≡ Err culprit) where
            pub turn_back : {b : Bool} → b ≡ is_member culprit level → b ≡ false → Concludes (q pre.ready) exact bound level from x after notes new r
            turn_back e innocent = record {
              outcome = try_back pre.ready.full pre.ready.bound_below inner turning.trying step.outcome stops (sym e ∙ innocent);
              notes_kept = kept_twice turning.notes_kept step.notes_kept;
            }

            pub turn_again : {c : ℕ} → c ≡ union_of culprits (common_of culprit bound)
                → Turning (q pre.ready) bound level from x after c (o + 1) why notes new
            turn_again {c} e = record {
              trying = try_again pre.ready.full pre.ready.bound_below inner turning.trying step.outcome stops e;
              blamed = inside_trans turning.blamed (subst (Inside culprits) (sym e) (inside_left culprits (common_of culprit bound)));
              notes_kept = kept_twice turning.notes_kept step.notes_kept;
            }

        -- every object is tried
        pub turn_end : asked.known ≤ o → Concludes (q pre.ready) exact bound level from x now notes kept (Err culprits)
        unfolding query_in query_of
        turn_end all_tried = record {
          outcome = try_end pre.ready.full pre.ready.bound_below inner turning.trying all_tried;
          notes_kept = turning.notes_kept;
        }
