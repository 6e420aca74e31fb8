-- Open actions. The list has exactly the actions that the press call accepts, each once and in order; asking for the next one, each time
-- after the one answered before, shows the whole list and then the end.
use Prim.Native.Nat.{ℕ, zero, suc, ◌≤◌, ◌<◌}
use mathlib.Core.Path.{◌≡◌, refl, sym, ap, ◌∙◌, subst, subst₂}
use mathlib.Core.Bool.{true, false}
use mathlib.Core.Logic.{◌⊎◌, ◌↔◌}
use mathlib.Core.Option.{Option, none, some}
use mathlib.Core.List.{List, [], ◌∷◌, ◌++◌, map}
use mathlib.Core.List.Memᴰ
use mathlib.Core.List.{Memᴰ}
use lib.Dec.{ltb}
use lib.ListN.{length, take}
use lib.Seq.{take_all}
use borrow.Author.Tests.{ltb-true}
use Rattle.laws.specs.Lists.{keep, up_to, before}
use Rattle.laws.proofs.Tests.{never, by_test}
use Rattle.laws.proofs.Lists.{keep_at, keep_intro, flat_map_at, flat_map_intro, up_to_at, up_to_intro}
use Rattle.laws.proofs.Mapped.{keep_all, keep_narrow}
use Rattle.laws.proofs.Counting.{NoRepeat}
use Rattle.laws.proofs.Orders.{before_cases, before_first, before_rest, before_irreflexive, before_transitive}
use Rattle.laws.proofs.Increasing.{Strict, Increasing, increasing_keep, increasing_once, increasing_map, increasing_flat_map, increasing_up_to, keep_after}
use Rattle.model.specs.Answer.{Answer, refused, accepted, ◌>>=◌}
use Rattle.model.specs.Card.{Task, decode}
use Rattle.model.specs.Strips.{State, Action, facts_in, well_formed, schema_at, check_action, apply}
use Rattle.model.specs.Calls.{Call, finish, store, next_state, press_of, press}
use Rattle.model.specs.Open.{first, is_accepted, bindings, actions, is_open, open_actions, precedes, comes_after, open_after, and_then, one_by_one}
use Rattle.model.proofs.Answers.{accepted_not_refused, accepted_value, first_passed, then_accepted, need_both}
use Rattle.model.proofs.Checked.{checked_action}
use Rattle.model.proofs.Bindings.{FullBinding, bindings_full, full_bindings, bindings_increase, first_none, first_none_says, first_found, first_says}

-- ---- all actions

-- An action of a task: it names a schema, and binds a known object to each parameter. The objects need not differ.
pub record Named (t : Task) (a : Action) : Type 0 where
  pub schema_known : a.schema < length t.schemas
  pub full : FullBinding t.objects (schema_at t a.schema).parameters a.objects

-- a schema with these objects, and all bindings of a schema
abbrev pub action_of : ℕ → List ℕ → Action
action_of k objects = record { schema = k; objects = objects }

abbrev bindings_of : Task → ℕ → List (List ℕ)
bindings_of t k = bindings t.objects (schema_at t k).parameters

-- 16 to 18 pass only such an action
pub checked_named : (t : Task) (a : Action) → check_action t a ≡ accepted tt → Named t a
checked_named t a e =
    let checked = checked_action t a e in
    record {
      schema_known = checked.schema_known;
      full = record { one_for_each = checked.one_for_each; objects_known = checked.objects_known };
    }

-- the list of all actions has exactly these
pub actions_named : (t : Task) (a : Action) → Memᴰ a (actions t) → Named t a
unfolding actions
actions_named t a m =
    let (k, known, made) = flat_map_at (λ k. map (action_of k) (bindings_of t k)) (up_to (length t.schemas)) a m in
    let (objects, there, is) = Memᴰ.of_map (action_of k) (bindings_of t k) made in
    subst (Named t) is (record {
      schema_known = up_to_at (length t.schemas) k known;
      full = bindings_full t.objects (schema_at t k).parameters objects there;
    })

pub named_actions : (t : Task) (a : Action) → Named t a → Memᴰ a (actions t)
unfolding actions
named_actions t a named =
    flat_map_intro _ (up_to (length t.schemas)) a.schema a (up_to_intro (length t.schemas) a.schema named.schema_known)
    (Memᴰ.map (action_of a.schema) (full_bindings t.objects (schema_at t a.schema).parameters a.objects named.full))

-- ---- their order

-- it is the order of the lists of the schema's number and the objects
precedes_before : (a b : Action) → precedes a b ≡ before (a.schema ∷ a.objects) (b.schema ∷ b.objects)
unfolding precedes before
precedes_before a b = refl

-- no action precedes itself, and the order passes on
pub precedes_strict : Strict precedes
precedes_strict = record {
  irreflexive = λ a. precedes_before a a ∙ before_irreflexive (a.schema ∷ a.objects);
  transitive = λ a b c p q.
      precedes_before a c
      ∙ before_transitive (a.schema ∷ a.objects) (b.schema ∷ b.objects) (c.schema ∷ c.objects)
      (sym (precedes_before a b) ∙ p) (sym (precedes_before b c) ∙ q);
}

-- the schemas decide, or they are the same and the objects decide
pub precedes_cases : (a b : Action) → precedes a b ≡ true → (a.schema < b.schema) ⊎ ((a.schema ≡ b.schema) × (before a.objects b.objects ≡ true))
precedes_cases a b e = before_cases a.schema b.schema a.objects b.objects (sym (precedes_before a b) ∙ e)

pub precedes_schema : (a b : Action) → a.schema < b.schema → precedes a b ≡ true
precedes_schema a b h = precedes_before a b ∙ before_first a.schema b.schema a.objects b.objects h

pub precedes_objects : (a b : Action) → a.schema ≡ b.schema → before a.objects b.objects ≡ true → precedes a b ≡ true
precedes_objects a b same e = precedes_before a b ∙ before_rest a.schema b.schema a.objects b.objects same e

-- all actions stand in this order
pub actions_increase : (t : Task) → Increasing precedes (actions t)
unfolding actions
actions_increase t =
    increasing_flat_map ltb precedes (λ k. map (action_of k) (bindings_of t k))
    (λ k l h a b m j.
    let (x, there, is) = Memᴰ.of_map (action_of k) (bindings_of t k) m in
    let (y, too, was) = Memᴰ.of_map (action_of l) (bindings_of t l) j in
    subst₂ (λ (a b : Action). precedes a b ≡ true) is was (precedes_schema (action_of k x) (action_of l y) (ltb-true k l h)))
    (up_to (length t.schemas))
    (λ k known.
    increasing_map before precedes (action_of k) (λ x y e. precedes_objects (action_of k x) (action_of k y) refl e)
    (bindings_of t k) (bindings_increase t.objects (schema_at t k).parameters))
    (increasing_up_to (length t.schemas))

-- ---- the open ones

module _ (t : Task) (s : State) where
  -- an open action is one of the task
  pub open_named : (a : Action) → is_open t s a ≡ true → Named t a
  unfolding is_open apply
  open_named a e =
      let (next, passed) = accepted_value (apply t a s) e in
      checked_named t a (first_passed _ _ next passed)

  -- the list has exactly the open actions
  pub open_listed : (a : Action) → is_open t s a ≡ true → Memᴰ a (open_actions t s)
  unfolding open_actions
  open_listed a e = keep_intro (is_open t s) (actions t) a (named_actions t a (open_named a e)) e

  pub listed_open : (a : Action) → Memᴰ a (open_actions t s) → is_open t s a ≡ true
  unfolding open_actions
  listed_open a m = (keep_at (is_open t s) (actions t) a m).1

  -- each stands before all later ones, so it stands once
  pub open_ascends : Increasing precedes (open_actions t s)
  unfolding open_actions
  open_ascends = increasing_keep precedes (is_open t s) (actions t) (actions_increase t)

  pub open_once : NoRepeat (open_actions t s)
  open_once = increasing_once precedes precedes_strict (open_actions t s) open_ascends

-- what is left of a press call once card and state have passed: it answers a count exactly if the action is accepted
unfoldable pub stored : List ℕ → Answer State → Call
stored buffer x = finish buffer (x >>= (λ next. accepted (store next buffer)))

counts : (buffer : List ℕ) (x : Answer State) → is_accepted x ≡ true ↔ ((n : ℕ) × ((stored buffer x).answer ≡ accepted n))
unfolding is_accepted stored finish store ◌>>=◌
counts buffer (refused m) = (λ e. never (sym e), λ r. accepted_not_refused (sym r.1))
counts buffer (accepted next) = (λ e. (length next, refl), λ r. refl)

pub press_stores : (card buffer : List ℕ) (count : ℕ) (t : Task) → decode card ≡ accepted t
    → well_formed t.arities t.objects buffer count ≡ true → (a : Action)
    → press card buffer count a ≡ stored buffer (apply t a (facts_in t.arities count buffer))
unfolding press press_of stored next_state
press_stores card buffer count t decoded well a = ap (finish buffer) (then_accepted _ decoded) ∙ ap (stored buffer) (need_both 15 _ well)

-- an action is on the list of a well-formed state exactly if the press call answers a count
pub open_exact : (card buffer : List ℕ) (count : ℕ) (t : Task) → decode card ≡ accepted t
    → well_formed t.arities t.objects buffer count ≡ true → (a : Action)
    → Memᴰ a (open_actions t (facts_in t.arities count buffer)) ↔ ((n : ℕ) × ((press card buffer count a).answer ≡ accepted n))
unfolding is_open
open_exact card buffer count t decoded well a = (
  λ m. let (n, e) = (counts buffer (apply t a s)).0 (listed_open t s a m) in (n, ap (λ (c : Call). c.answer) is ∙ e),
  λ (n, e). open_listed t s a ((counts buffer (apply t a s)).1 (n, sym (ap (λ (c : Call). c.answer) is) ∙ e)),
)
  where
    s : State
    s = facts_in t.arities count buffer

    is : press card buffer count a ≡ stored buffer (apply t a s)
    is = press_stores card buffer count t decoded well a

-- ---- the next one

module _ (t : Task) (s : State) where
  -- What it is: open, after the given one, and no open action stands between.
  pub record Next (given : Option Action) (a : Action) : Type 0 where
    pub open_now : is_open t s a ≡ true
    pub comes_after_lem : comes_after given a ≡ true
    pub none_between : (b : Action) → is_open t s b ≡ true → comes_after given b ≡ true → precedes b a ≡ false

  -- what is answered is the next one, and the next one is answered
  pub answered_next : (given : Option Action) (a : Action) → open_after t s given ≡ some a → Next given a
  unfolding open_after
  answered_next given a e =
      let f = first_says precedes (comes_after given) precedes_strict (open_actions t s) (open_ascends t s) a e in
      record {
        open_now = listed_open t s a f.there;
        comes_after_lem = f.passes;
        none_between = λ b opened after. by_test (precedes b a) (λ p. never (sym after ∙ f.earlier_fail b (open_listed t s b opened) p)) (λ q. q);
      }

  pub next_answered : (given : Option Action) (a : Action) → Next given a → open_after t s given ≡ some a
  unfolding open_after
  next_answered given a next =
      first_found precedes (comes_after given) (open_actions t s) (open_ascends t s) a (record {
        there = open_listed t s a next.open_now;
        passes = next.comes_after_lem;
        earlier_fail = λ b m p.
            by_test (comes_after given b) (λ q. never (sym p ∙ next.none_between b (listed_open t s b m) q)) (λ q. q);
      })

  -- the end is answered exactly where no open action comes after the given one
  pub answered_end : (given : Option Action) → open_after t s given ≡ none → (a : Action) → is_open t s a ≡ true → comes_after given a ≡ false
  unfolding open_after
  answered_end given e a opened = first_none_says (comes_after given) (open_actions t s) e a (open_listed t s a opened)

  pub end_answered : (given : Option Action) → ((a : Action) → is_open t s a ≡ true → comes_after given a ≡ false) → open_after t s given ≡ none
  unfolding open_after
  end_answered given past = first_none (comes_after given) (open_actions t s) (λ a m. past a (listed_open t s a m))

  -- ---- one after the other

  -- the open actions after the given one
  rest : Option Action → List Action
  rest given = keep (comes_after given) (open_actions t s)

  -- those after the first of them are the others
  rest_next : (given : Option Action) (a : Action) (later : List Action) → rest given ≡ a ∷ later → rest (some a) ≡ later
  unfolding rest comes_after
  rest_next given a later e =
      sym (keep_narrow (comes_after given) (precedes a) (open_actions t s) (λ b p. further given passed b p))
      ∙ ap (keep (precedes a)) e
      ∙ keep_after precedes precedes_strict [] a later
      (subst (Increasing precedes) e (increasing_keep precedes (comes_after given) (open_actions t s) (open_ascends t s)))
    where
      passed : comes_after given a ≡ true
      passed = (keep_at (comes_after given) (open_actions t s) a (subst (λ (l : List Action). Memᴰ a l) (sym e) (Memᴰ.head refl))).1

      further : (given : Option Action) → comes_after given a ≡ true → (b : Action) → precedes a b ≡ true → comes_after given b ≡ true
      further none p b q = refl
      further (some g) p b q = precedes_strict.transitive g a b p q

  -- asking n times shows the first n of those after the given one
  pub shows_front : (n : ℕ) (given : Option Action) → one_by_one (open_after t s) n given ≡ take n (keep (comes_after given) (open_actions t s))
  unfolding one_by_one open_after and_then first rest
  shows_front zero given = refl
  shows_front (suc n) given = go (rest given) refl (shows_front n)
    where
      go : (shown : List Action) → rest given ≡ shown → ((g : Option Action) → one_by_one (open_after t s) n g ≡ take n (rest g))
          → and_then (first shown) (λ a. one_by_one (open_after t s) n (some a)) ≡ take (suc n) shown
      go [] e later = refl
      go (a ∷ shown) e later = ap (λ (l : List Action). a ∷ l) (later (some a) ∙ ap (take n) (rest_next given a shown e))

  -- asking from none shows the whole list and nothing else, however often one asks beyond the end
  pub shows_all : (n : ℕ) → length (open_actions t s) ≤ n → one_by_one (open_after t s) n none ≡ open_actions t s
  unfolding comes_after
  shows_all n h =
      shows_front n none ∙ ap (take n) (keep_all (comes_after none) (open_actions t s) (λ a m. refl)) ∙ take_all n (open_actions t s) h

  -- after an action of the list the one behind it is answered, and after the last one the end
  pub asks_after : (front : List Action) (a : Action) (later : List Action) → open_actions t s ≡ front ++ (a ∷ later)
      → open_after t s (some a) ≡ first later
  unfolding open_after comes_after
  asks_after front a later e =
      ap (λ (l : List Action). first (keep (precedes a) l)) e
      ∙ ap first (keep_after precedes precedes_strict front a later (subst (Increasing precedes) e (open_ascends t s)))

  pub ends_after : (front : List Action) (a : Action) → open_actions t s ≡ front ++ (a ∷ []) → open_after t s (some a) ≡ none
  unfolding first
  ends_after front a e = asks_after front a [] e
