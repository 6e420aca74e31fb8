-- Committing: 20 and 23 of an action that may be applied, the call from its admission, and the objects that are lent on.
use Prim.Native.Nat.{ℕ, ◌-◌, ◌≤◌, ◌<◌}
use native.Mathlib.Nat.{sub-zero}
use native.Mathlib.Omega.{arith}
use mathlib.Core.Path.{◌≡◌, refl, sym, ap, ◌∙◌, subst}
use mathlib.Core.Bool.{Bool, true, false, cond}
use mathlib.Core.List.{List, []}
use lib.Dec.{leb, ltb}
use lib.ListN.{length, take}
use Rattle.std.specs.Prelude.{Result, Ok, Err}
use borrow.Author.Tests.{ltb-true, ltb-false, lt-ltb, le-ltb, leb-true, leb-false, ne_eqb}
use Rattle.laws.proofs.Tests.{by_test, and_false_left, cond_true, cond_false}
use Rattle.model.specs.Answer.{Answer, refused, accepted, ◌>>=◌, ◌>>◌, need}
use Rattle.model.specs.Card.{Task, decode}
use Rattle.model.specs.Card as model
use Rattle.model.specs.Strips.{State, Action, most_facts, facts_in, well_formed, successor, schema_at, check_objects, check_action, limited}
use Rattle.model.specs.Calls.{Call, finish, store}
use Rattle.model.specs.Preview.{Preview, Asked, preview, agree, commit_of, commit}
use Rattle.model.proofs.Answers.{accepted_not_refused, one_value, then_accepted, then_refused}
use Rattle.model.proofs.Checked.{Checked, checked, checked_schema, schema_at_right}
use Rattle.model.proofs.RoundTrip.{decode_checks}
use Rattle.card.specs.Represents.{entries, schema_of}
use Rattle.card.specs.declared.Schema.{Schema}
use Rattle.card.proofs.Entries.{entries_within, length_entries}
use Rattle.strips.specs.Admission.{Admissible, admission_of, admission}
use Rattle.strips.specs.Answers.{press_number, applied_says, Matches, Granted}
use Rattle.strips.specs.Steps.{storing}
use Rattle.strips.specs.declared.Admitted.{Admitted}
use Rattle.strips.specs.declared.PressRefusal.{PressRefusal}
use Rattle.strips.proofs.Admitting.{admission_first, refused_before}
use Rattle.previews.specs.Represents.{preview_of, changes_for}
use Rattle.previews.specs.Answers.{previewed_says, commit_number, committed_says, Asks, Commits}
use Rattle.previews.specs.Steps.{ask_admitted, store_agreed, commit_admitted, lent_count, Allowed}
use Rattle.previews.specs.declared.Changes.{Changes}
use Rattle.previews.specs.declared.Foreseen.{Foreseen}
use Rattle.previews.specs.declared.CommitRefusal.{CommitRefusal}
use Rattle.previews.specs.declared.CommitRefusal.TheVariants.{Press, ChangesDiffer}
use Rattle.previews.proofs.Foreseeing.{foreseen, limited_fits, limited_full, preview_read}

-- a state that 20 lets pass
fits_said : {A : Type 0} (next : State) (f : State → A) {a : A} → (limited next >>= (λ s. accepted (f s))) ≡ accepted a → limited next ≡ accepted next
unfolding ◌>>=◌
fits_said next f e =
    by_test (leb (length next) most_facts)
    (λ few. limited_fits next (leb-true (length next) most_facts few))
    (λ many.
    accepted_not_refused
    (sym e ∙ ap (λ (x : Answer State). x >>= (λ s. accepted (f s))) (limited_full next (leb-false (length next) most_facts many))))

-- 23, and what is stored where it passes.
module _ (buffer : List ℕ) (agreed : Bool) (answer : Answer State) where
  pub not_agreed : agreed ≡ false → Commits (store_agreed buffer agreed answer) buffer (Err ChangesDiffer)
  unfolding store_agreed committed_says commit_number finish need ◌>>◌
  not_agreed e = rw e (record { answer = refl; buffer = refl })

  pub agreed_refused : {after : List ℕ} {r : PressRefusal} → agreed ≡ true → Matches (storing buffer answer) after (Err r)
      → Commits (store_agreed buffer agreed answer) after (Err (Press r))
  unfolding store_agreed storing applied_says committed_says commit_number need ◌>>◌
  agreed_refused e matches = rw e (record { answer = matches.answer; buffer = matches.buffer })

  pub agreed_stored : {after : List ℕ} {n : ℕ} → agreed ≡ true → Matches (storing buffer answer) after (Ok n)
      → Commits (store_agreed buffer agreed answer) after (Ok n)
  unfolding store_agreed storing applied_says committed_says need ◌>>◌
  agreed_stored e matches = rw e (record { answer = matches.answer; buffer = matches.buffer })

-- An action that may be applied, and what is handed in.
module _ {arities objects : List ℕ} {schema : Schema} {buffer : List ℕ} {count : ℕ} (allowed : Allowed arities objects schema buffer count) (p : Preview) where
  abbrev number : ℕ
  number = p.action.schema

  abbrev state : State
  state = facts_in arities count buffer

  abbrev model_schema : model.Schema
  model_schema = schema_of arities schema

  abbrev next : State
  next = successor model_schema objects state

  abbrev committing : Call
  committing = commit_admitted buffer model_schema objects state p

  abbrev asking : Answer Asked
  asking = ask_admitted model_schema (record { schema = number; objects = objects }) state

  -- asking is refused by 20 where the next state is
  full_seen : {e : PressRefusal} → Asks asking (Err e) → limited next ≡ refused (press_number e)
  unfolding ask_admitted previewed_says applied_says ◌>>=◌
  full_seen asks = refused_before (limited next) (λ s. record { count = length s; foreseen = foreseen allowed number }) (sym asks.answers)

  pub commit_full : {e : PressRefusal} → Asks asking (Err e) → Commits committing buffer (Err (Press e))
  unfolding commit_admitted committed_says commit_number finish ◌>>=◌
  commit_full asks = rw (full_seen asks) (record { answer = refl; buffer = refl })

  module _ {found : Foreseen} (asks : Asks asking (Ok found)) where
    fits_seen : limited next ≡ accepted next
    unfolding ask_admitted previewed_says applied_says ◌>>=◌
    fits_seen = fits_said next (λ s. record { count = length s; foreseen = foreseen allowed number }) (sym asks.answers)

    -- so that the changes are those of the preview
    pub changes_seen : found.changes ≡ changes_for (foreseen allowed number)
    unfolding ask_admitted previewed_says applied_says ◌>>=◌
    changes_seen = asks.whole ∙ ap (λ (a : Asked). changes_for a.foreseen) (one_value (asks.answers ∙ then_accepted _ fits_seen))

    -- what is found in comparing
    module _ {r : Bool} (compared : r ≡ agree p (preview_of found.changes)) where
      agreed : r ≡ agree p (foreseen allowed number)
      agreed = compared ∙ ap (agree p) (ap preview_of changes_seen ∙ preview_read allowed number)

      -- 23, or the next state is stored
      pub commit_agreed : {after : List ℕ} {answer : Result ℕ CommitRefusal} → Commits (store_agreed buffer r (limited next)) after answer
          → Commits committing after answer
      unfolding store_agreed commit_admitted ◌>>=◌
      commit_agreed {after} {answer} commits =
          rw fits_seen
          (subst (λ (b : Bool). Commits (finish buffer (need b 23 >> accepted (store next buffer))) after answer) agreed (rw fits_seen at commits))

-- Committing, from what may be applied.
module _ (card buffer : List ℕ) (count : ℕ) (p : Preview) where
  committing_on : List ℕ → model.Schema → State → Answer Call
  committing_on arities schema next = do
    need (agree p (preview schema p.action (facts_in arities count buffer))) 23
    accepted (store next buffer)

  pub commit_refused : (e : PressRefusal) → admission card buffer count p.action ≡ refused (press_number e)
      → Commits (commit card buffer count p) buffer (Err (Press e))
  unfolding commit commit_of committing_on committed_says commit_number finish
  commit_refused e is =
      subst (λ (call : Call). Commits call buffer (Err (Press e)))
      (sym (ap (finish buffer) (admission_first card buffer count p.action committing_on ∙ then_refused _ is)))
      (record { answer = refl; buffer = refl })

  pub commit_granted : {after objects : List ℕ} {r : Result ℕ CommitRefusal} {s : Admissible} → admission card buffer count p.action ≡ accepted s
      → p.action.objects ≡ objects → Commits (commit_admitted buffer s.schema objects (facts_in s.arities count buffer) p) after r
      → Commits (commit card buffer count p) after r
  unfolding commit commit_of committing_on commit_admitted
  commit_granted {after} {r = r} {s = s} e same commits =
      subst (λ (call : Call). Commits call after r)
      (sym (ap (finish buffer) (admission_first card buffer count p.action committing_on ∙ then_accepted _ e)))
      (subst (λ (objects : List ℕ). Commits (commit_admitted buffer s.schema objects (facts_in s.arities count buffer) p) after r) (sym same) commits)

-- No schema takes this number of objects.
record NoSchemaTakes (objects : List ℕ) : Type 0 where
  takes_none : (k : ℕ) → 1 ≤ k → k ≤ 6 → length objects ≡ k → ⊥

none_taken : NoSchemaTakes []
none_taken = record { takes_none = λ k some few e. omega arith }

-- 16 or 17 refuses such objects, whatever they are
module _ (t : Task) (right : Checked t) (n : ℕ) where
  wrong : ℕ
  wrong = cond (ltb n (length t.schemas)) 17 16

  check_wrong : (objects : List ℕ) → NoSchemaTakes objects → check_action t (record { schema = n; objects = objects }) ≡ refused wrong
  unfolding wrong check_action check_objects need ◌>>◌
  check_wrong objects none =
      by_test (ltb n (length t.schemas))
      (λ named.
      let schema = schema_at_right t right n (ltb-true n (length t.schemas) named) in
      let other = ne_eqb (length objects) (schema_at t n).parameters (none.takes_none _ schema.some_parameter schema.few_parameters) in
      rw (named, and_false_left _ _ other) refl)
      (λ unnamed. rw unnamed refl)

  not_admitted_lem : (buffer : List ℕ) (count : ℕ) (objects : List ℕ) → NoSchemaTakes objects
      → admission_of t buffer count (record { schema = n; objects = objects }) ≡ (need (well_formed t.arities t.objects buffer count) 15 >> refused wrong)
  unfolding admission_of ◌>>◌
  not_admitted_lem buffer count objects none = rw (check_wrong objects none) refl

-- so that two such lists are refused alike
wrong_alike : (card buffer : List ℕ) (count n : ℕ) (xs ys : List ℕ) → NoSchemaTakes xs → NoSchemaTakes ys
    → admission card buffer count (record { schema = n; objects = xs }) ≡ admission card buffer count (record { schema = n; objects = ys })
unfolding admission
wrong_alike card buffer count n xs ys p q = go (decode card) refl
  where
    go : (d : Answer Task) → decode card ≡ d
        → (d >>= (λ t. admission_of t buffer count (record { schema = n; objects = xs })))
        ≡ (d >>= (λ t. admission_of t buffer count (record { schema = n; objects = ys })))
    go (refused m) e = unfold ◌>>=◌ in refl
    go (accepted t) e =
        unfold ◌>>=◌ in
        let right = checked t (decode_checks card t e) in
        not_admitted_lem t right n buffer count xs p ∙ sym (not_admitted_lem t right n buffer count ys q)

-- The objects that changes carry, and those that are lent on for them.
module _ (changes : Changes) (six : length changes.objects ≡ 6) {lent : ℕ} (is : lent ≡ lent_count changes.object_count) where
  abbrev pub carried : Action
  carried = (preview_of changes).action

  abbrev pub lending : Action
  lending = record { schema = changes.schema; objects = take (lent - 0) changes.objects }

  -- none, or all of them
  lent_few : changes.object_count ≤ 6 → lent ≡ changes.object_count
  unfolding lent_count
  lent_few few = is ∙ cond_false (ltb 6 changes.object_count) 0 changes.object_count (le-ltb 6 changes.object_count few)

  lent_none : 6 < changes.object_count → lent ≡ 0
  unfolding lent_count
  lent_none many = is ∙ cond_true (ltb 6 changes.object_count) 0 changes.object_count (lt-ltb 6 changes.object_count many)

  pub lent_inside : lent ≤ length changes.objects
  lent_inside =
      by_test (ltb 6 changes.object_count)
      (λ many. let none = lent_none (ltb-true 6 changes.object_count many) in omega arith)
      (λ few. let all = lent_few (ltb-false 6 changes.object_count few) in let most = ltb-false 6 changes.object_count few in omega arith)

  -- six or fewer are those that are carried
  few_carried : changes.object_count ≤ 6 → entries changes.object_count 0 changes.objects ≡ take (lent - 0) changes.objects
  few_carried few =
      let lent_all = lent_few few in
      entries_within changes.object_count 0 changes.objects (omega arith)
      ∙ ap (λ (k : ℕ). take k changes.objects) (sym (sub-zero lent ∙ lent_all))

  -- more are a list of that length, and none is lent
  many_carried : 6 < changes.object_count → NoSchemaTakes (entries changes.object_count 0 changes.objects)
  many_carried many = record { takes_none = λ k some few e. let long = length_entries changes.object_count 0 changes.objects in omega arith }

  none_lent : 6 < changes.object_count → take (lent - 0) changes.objects ≡ []
  none_lent many = ap (λ (k : ℕ). take k changes.objects) (sub-zero lent ∙ lent_none many)

  pub lent_alike : (card buffer : List ℕ) (count : ℕ) → admission card buffer count carried ≡ admission card buffer count lending
  unfolding preview_of
  lent_alike card buffer count =
      by_test (ltb 6 changes.object_count)
      (λ many.
      let none = none_lent (ltb-true 6 changes.object_count many) in
      wrong_alike card buffer count changes.schema _ _ (many_carried (ltb-true 6 changes.object_count many)) (rw none none_taken))
      (λ few.
      ap (λ (l : List ℕ). admission card buffer count (record { schema = changes.schema; objects = l }))
      (few_carried (ltb-false 6 changes.object_count few)))

  -- of more no action is granted
  pub lent_same : {buffer : List ℕ} {count : ℕ} {a : Admitted} → Granted buffer count lending.objects a → carried.objects ≡ lending.objects
  unfolding preview_of schema_of
  lent_same granted =
      by_test (ltb 6 changes.object_count)
      (λ many.
      let none = ap length (none_lent (ltb-true 6 changes.object_count many)) in
      let each = granted.ready.one_for_each in
      let some = (checked_schema _ _ granted.ready.schema_kept.checks).some_parameter in
      absurd (omega arith))
      (λ few. few_carried (ltb-false 6 changes.object_count few))
