-- The next open action, schema by schema: after a given action the rest of its schema's bindings, then the later schemas one by one.
use Prim.Native.Nat.{ℕ, ◌+◌, ◌≤◌, ◌<◌, zero-le}
use native.Mathlib.Nat.{le_refl}
use native.Mathlib.Omega.{arith}
use mathlib.Core.Path.{◌≡◌, refl, sym, ap, ◌∙◌, subst}
use mathlib.Core.Bool.{Bool, true, false, ◌&&◌}
use mathlib.Core.Logic.{◌⊎◌, inl, inr, ⊎_elim}
use mathlib.Core.Option.{Option, none, some}
use mathlib.Core.List.{List}
use lib.Dec.{leb}
use lib.ListN.{length}
use borrow.Author.Tests.{lt-ltb, eq-eqb, leb-true, le-leb, lt-leb}
use Rattle.laws.specs.Lists.{keep, before, distinct}
use Rattle.laws.proofs.Tests.{never, and_intro, by_test, same_test}
use Rattle.laws.proofs.Mapped.{keep_ext}
use Rattle.model.specs.Answer.{Answer, ◌>>◌}
use Rattle.model.specs.Card.{Schema, Task}
use Rattle.model.specs.Strips.{State, Action, schema_at, check_objects, check_action, progress, apply}
use Rattle.model.specs.Open.{first, is_accepted, is_open, open_actions, precedes, comes_after, open_after}
use Rattle.model.proofs.Answers.{need_both, accepted_both}
use Rattle.model.proofs.Bindings.{FullBinding, FirstBinding, first_none, first_found}
use Rattle.model.proofs.OpenActions.{action_of, open_named, open_listed, listed_open, open_ascends, next_answered}
use Rattle.model.proofs.OpenActions.{precedes_cases, precedes_schema, precedes_objects}

-- a schema with these objects, all different, is refused by neither 19 nor 20
abbrev pub admits : Schema → State → List ℕ → Bool
admits schema s objects = distinct objects && is_accepted (progress schema objects s)

module _ (t : Task) (s : State) where
  -- a full binding of a schema
  abbrev pub FullOf : ℕ → List ℕ → Type 0
  FullOf k objects = FullBinding t.objects (schema_at t k).parameters objects

  -- such an action is open exactly if the schema admits the objects
  pub open_by_schema : (k : ℕ) → k < length t.schemas → (objects : List ℕ) → FullOf k objects
      → is_open t s (action_of k objects) ≡ admits (schema_at t k) s objects
  unfolding is_open apply check_action check_objects
  open_by_schema k h objects full =
      ap (λ (checks : Answer (Unit {0})). is_accepted (checks >> progress (schema_at t k) objects s))
      (need_both 16 _ (lt-ltb k (length t.schemas) h)
      ∙ need_both 17 _ (and_intro _ _ (eq-eqb _ _ full.one_for_each) full.objects_known))
      ∙ accepted_both (distinct objects) 18 (progress (schema_at t k) objects s)

  -- the schema of an open action admits its objects
  open_admits : (a : Action) (k : ℕ) → a.schema ≡ k → is_open t s a ≡ true
      → FullOf k a.objects × (admits (schema_at t k) s a.objects ≡ true)
  open_admits a k same e =
      let named = open_named t s a e in
      subst (λ (k : ℕ). FullOf k a.objects × (admits (schema_at t k) s a.objects ≡ true)) same
      (named.full, sym (open_by_schema a.schema named.schema_known a.objects named.full) ∙ e)

  -- the first open action of schema k or a later one
  unfoldable pub open_from : ℕ → Option Action
  open_from k = first (keep (λ a. leb k a.schema) (open_actions t s))

  -- with none given, the answer is the first of schema 0 or a later one
  pub from_start : open_after t s none ≡ open_from 0
  unfolding open_after open_from comes_after
  from_start = ap first (keep_ext (comes_after none) (λ a. leb 0 a.schema) (open_actions t s) (λ a m. sym (le-leb 0 a.schema zero-le)))

  -- past the last schema there is none
  pub from_end : (k : ℕ) → length t.schemas ≤ k → open_from k ≡ none
  unfolding open_from
  from_end k h =
      first_none (λ a. leb k a.schema) (open_actions t s)
      (λ a m. lt-leb k a.schema (let known = (open_named t s a (listed_open t s a m)).schema_known in omega arith))

  -- a schema that admits no full binding is passed over
  pub from_next : (k : ℕ) → ((y : List ℕ) → FullOf k y → admits (schema_at t k) s y ≡ false) → open_from k ≡ open_from (k + 1)
  unfolding open_from
  from_next k fails = ap first (keep_ext (λ a. leb k a.schema) (λ a. leb (k + 1) a.schema) (open_actions t s) (λ a m.
      same_test (leb k a.schema) (leb (k + 1) a.schema)
      (λ e. le-leb (k + 1) a.schema (later a (listed_open t s a m) (leb-true k a.schema e)))
      (λ e. le-leb k a.schema (let h = leb-true (k + 1) a.schema e in omega arith))))
    where
      closed : (a : Action) → is_open t s a ≡ true → a.schema ≡ k → ⊥
      closed a e same = let (full, admitted) = open_admits a k same e in never (sym admitted ∙ fails a.objects full)

      later : (a : Action) → is_open t s a ≡ true → k ≤ a.schema → k + 1 ≤ a.schema
      later a e h = let d = closed a e in omega arith

  -- in a schema that admits one, the first that it admits is answered
  pub from_found : (k : ℕ) → k < length t.schemas → (x : List ℕ)
      → FirstBinding t.objects (schema_at t k).parameters (λ y. true) (admits (schema_at t k) s) x → open_from k ≡ some (action_of k x)
  unfolding open_from
  from_found k h x f =
      first_found precedes (λ a. leb k a.schema) (open_actions t s) (open_ascends t s) (action_of k x) (record {
        there = open_listed t s (action_of k x) (open_by_schema k h x f.full ∙ f.passes);
        passes = le-leb k k (le_refl k);
        earlier_fail = λ b m p.
            ⊎_elim (λ less. lt-leb k b.schema less)
            (λ (same, earlier).
            let (full, admitted) = open_admits b k same (listed_open t s b m) in
            never (sym admitted ∙ f.earlier_fail b.objects full refl earlier))
            (precedes_cases b (action_of k x) p);
      })

  -- after a given action: the first binding that its schema admits and that stands after its objects
  pub after_found : (given : Action) → given.schema < length t.schemas → (x : List ℕ)
      → FirstBinding t.objects (schema_at t given.schema).parameters (before given.objects) (admits (schema_at t given.schema) s) x
      → open_after t s (some given) ≡ some (action_of given.schema x)
  unfolding comes_after
  after_found given h x f =
      next_answered t s (some given) (action_of given.schema x) (record {
        open_now = open_by_schema given.schema h x f.full ∙ f.passes;
        comes_after_lem = precedes_objects given (action_of given.schema x) refl f.looked_at;
        none_between = λ b opened after.
            by_test (precedes b (action_of given.schema x))
            (λ p. between b opened (precedes_cases given b after) (precedes_cases b (action_of given.schema x) p))
            (λ q. q);
      })
    where
      between : (b : Action) → is_open t s b ≡ true
          → (given.schema < b.schema) ⊎ ((given.schema ≡ b.schema) × (before given.objects b.objects ≡ true))
          → (b.schema < given.schema) ⊎ ((b.schema ≡ given.schema) × (before b.objects x ≡ true))
          → precedes b (action_of given.schema x) ≡ false
      between b opened (inl p) (inl q) = absurd (omega arith)
      between b opened (inl p) (inr q) = absurd (omega arith)
      between b opened (inr p) (inl q) = absurd (omega arith)
      between b opened (inr p) (inr q) =
          let (full, admitted) = open_admits b given.schema q.0 opened in
          never (sym admitted ∙ f.earlier_fail b.objects full p.1 q.1)

  -- or, where there is none, the first of a later schema
  pub after_past : (given : Action)
      → ((y : List ℕ) → FullOf given.schema y → before given.objects y ≡ true → admits (schema_at t given.schema) s y ≡ false)
      → open_after t s (some given) ≡ open_from (given.schema + 1)
  unfolding open_after open_from comes_after
  after_past given fails =
      ap first (keep_ext (precedes given) (λ a. leb (given.schema + 1) a.schema) (open_actions t s) (λ a m.
      same_test (precedes given a) (leb (given.schema + 1) a.schema)
      (λ e.
      ⊎_elim (λ less. le-leb (given.schema + 1) a.schema (omega arith))
      (λ (same, later).
      let (full, admitted) = open_admits a given.schema (sym same) (listed_open t s a m) in
      never (sym admitted ∙ fails a.objects full later))
      (precedes_cases given a e))
      (λ e. precedes_schema given a (let h = leb-true (given.schema + 1) a.schema e in omega arith))))
