-- States of a task: the initial one, and that removing and putting in facts, and so every action, leads from one to another.
use Prim.Native.Nat.{ℕ, ◌≤◌, ◌<◌}
use mathlib.Core.Path.{◌≡◌, refl, sym, ap, ◌∙◌, subst}
use mathlib.Core.Bool.{Bool, true, false, cond, not}
use mathlib.Core.Logic.{◌⊎◌, inl, inr, ⊎_elim}
use mathlib.Core.Option.{Option, none, some}
use mathlib.Core.List.{List, [], ◌∷◌, map, foldl}
use mathlib.Core.List.Memᴰ
use mathlib.Core.List.{Memᴰ}
use lib.Dec.{ltb}
use lib.ListN.{length, get_or, length-map}
use borrow.Author.Tests.{ltb-true}
use Rattle.laws.specs.Lists.{all, keep}
use Rattle.laws.proofs.Tests.{and_left, and_right}
use Rattle.laws.proofs.Lists.{all_at, all_intro, keep_at, mem_get_d}
use Rattle.laws.proofs.Mapped.{all_map}
use Rattle.model.specs.Answer.{accepted}
use Rattle.model.specs.Card.{Atom, Schema, Task, below, same_atom, has, above}
use Rattle.model.specs.Writer.{known, check_task}
use Rattle.model.specs.Strips.{State, Action, ascending}
use Rattle.model.specs.Strips.{ground, put, taken_out, put_in, successor, schema_at, check_action}
use Rattle.model.proofs.Valid.{Valid}
use Rattle.model.proofs.Order.{known_predicate, known_arity, known_arguments, known_intro, same_atom_eq, below_otherwise, ascending_head}
use Rattle.model.proofs.Order.{ascending_tail, ascending_cons, ascending_skip}
use Rattle.model.proofs.Checked.{checked, schema_at_right, checked_action}

-- facts that are kept stay in order
pub keep_ascending :
    (test : Atom → Bool) (previous : Option Atom) (s : State) → ascending previous s ≡ true
    → ascending previous (keep test s) ≡ true
unfolding keep
keep_ascending test previous [] e = e
keep_ascending test previous (f ∷ fs) e = go (test f) (λ p q. keep_ascending test p fs q)
  where
    go : (b : Bool) → ((p : Option Atom) → ascending p fs ≡ true → ascending p (keep test fs) ≡ true)
        → ascending previous (cond b (f ∷ keep test fs) (keep test fs)) ≡ true
    go true later =
        ascending_cons previous f (keep test fs) (ascending_head previous f fs e) (later (some f) (ascending_tail previous f fs e))
    go false later =
        later previous (ascending_skip previous f fs (ascending_head previous f fs e) (ascending_tail previous f fs e))

-- a fact put into its place leaves the order
pub put_ascending :
    (f : Atom) (previous : Option Atom) (s : State) → above previous f ≡ true → ascending previous s ≡ true
    → ascending previous (put f s) ≡ true
unfolding put ascending above
put_ascending f previous [] p e = ascending_cons previous f [] p refl
put_ascending f previous (g ∷ gs) p e =
    go (same_atom f g) (below f g) refl refl (λ q. put_ascending f (some g) gs q (ascending_tail previous g gs e))
  where
    go : (same? below? : Bool) → same_atom f g ≡ same? → below f g ≡ below?
        → (below g f ≡ true → ascending (some g) (put f gs) ≡ true)
        → ascending previous (cond same? (g ∷ gs) (cond below? (f ∷ g ∷ gs) (g ∷ put f gs))) ≡ true
    go true below? h k later = e
    go false true h k later =
        ascending_cons previous f (g ∷ gs) p (ascending_cons (some f) g gs k (ascending_tail previous g gs e))
    go false false h k later =
        ascending_cons previous g (put f gs) (ascending_head previous g gs e) (later (below_otherwise f g h k))

-- the facts after a fact was put in: that fact, and those before
pub put_at : (f : Atom) (s : State) (g : Atom) → Memᴰ g (put f s) → (g ≡ f) ⊎ Memᴰ g s
unfolding put
put_at f [] g m = Memᴰ.cases_cons m
put_at f (h ∷ hs) g m = go (same_atom f h) (below f h) (put_at f hs g) m
  where
    go : (same? below? : Bool) → (Memᴰ g (put f hs) → (g ≡ f) ⊎ Memᴰ g hs)
        → Memᴰ g (cond same? (h ∷ hs) (cond below? (f ∷ h ∷ hs) (h ∷ put f hs))) → (g ≡ f) ⊎ Memᴰ g (h ∷ hs)
    go true below? later k = inr k
    go false true later k = Memᴰ.cases_cons k
    go false false later k =
        ⊎_elim (λ p. inr (Memᴰ.head p)) (λ j. ⊎_elim (λ p. inl p) (λ i. inr (Memᴰ.tail i)) (later j))
        (Memᴰ.cases_cons k)

pub put_there : (f : Atom) (s : State) → Memᴰ f (put f s)
unfolding put
put_there f [] = Memᴰ.head refl
put_there f (h ∷ hs) = go (same_atom f h) (below f h) refl (put_there f hs)
  where
    go : (same? below? : Bool) → same_atom f h ≡ same? → Memᴰ f (put f hs)
        → Memᴰ f (cond same? (h ∷ hs) (cond below? (f ∷ h ∷ hs) (h ∷ put f hs)))
    go true below? e later = Memᴰ.head (same_atom_eq f h e)
    go false true e later = Memᴰ.head refl
    go false false e later = Memᴰ.tail later

pub put_stays : (f : Atom) (s : State) (g : Atom) → Memᴰ g s → Memᴰ g (put f s)
unfolding put
put_stays f [] g m = absurd (Memᴰ.not-nil m)
put_stays f (h ∷ hs) g m = go (same_atom f h) (below f h) (put_stays f hs g) (Memᴰ.cases_cons m)
  where
    go : (same? below? : Bool) → (Memᴰ g hs → Memᴰ g (put f hs)) → (g ≡ h) ⊎ Memᴰ g hs
        → Memᴰ g (cond same? (h ∷ hs) (cond below? (f ∷ h ∷ hs) (h ∷ put f hs)))
    go true below? later k = m
    go false true later k = Memᴰ.tail m
    go false false later (inl p) = Memᴰ.head p
    go false false later (inr k) = Memᴰ.tail (later k)

module _ (t : Task) where
  -- a state stays one when facts are taken out
  pub keep_valid : (test : Atom → Bool) (s : State) → Valid t s → Valid t (keep test s)
  keep_valid test s v =
      record {
        facts_known = all_intro _ (keep test s) (λ f m. all_at _ s v.facts_known f (keep_at test s f m).0);
        in_order = keep_ascending test none s v.in_order;
      }

  -- and when a known fact is put in
  pub put_valid : (f : Atom) (s : State) → known t.arities t.objects f ≡ true → Valid t s → Valid t (put f s)
  unfolding above
  put_valid f s k v =
      record {
        facts_known = all_intro _ (put f s)
            (λ g m. ⊎_elim (λ p. ap (known t.arities t.objects) p ∙ k) (λ j. all_at _ s v.facts_known g j) (put_at f s g m));
        in_order = put_ascending f none s refl v.in_order;
      }

  pub puts_valid :
      (fs : List Atom) (s : State) → all (known t.arities t.objects) fs ≡ true → Valid t s
      → Valid t (foldl (λ r f. put f r) s fs)
  unfolding all
  puts_valid [] s k v = v
  puts_valid (f ∷ fs) s k v =
      let right : Bool = known t.arities t.objects f in
      puts_valid fs (put f s) (and_right right _ k) (put_valid f s (and_left right (all (known t.arities t.objects) fs) k) v)

-- an atom known to a schema is known to the task, with known objects in place of its parameters
pub ground_known :
    (arities : List ℕ) (parameters bound : ℕ) (objects : List ℕ) (a : Atom) → length objects ≡ parameters
    → all (λ o. ltb o bound) objects ≡ true → known arities parameters a ≡ true → known arities bound (ground objects a) ≡ true
unfolding ground
ground_known arities parameters bound objects a n o k =
    known_intro arities bound (ground objects a) (known_predicate arities parameters a k)
    (length-map a.arguments (λ i. get_or objects i 0) ∙ known_arity arities parameters a k)
    (each_bound a.arguments (known_arguments arities parameters a k))
  where
    each_bound : (ks : List ℕ) → all (λ x. ltb x parameters) ks ≡ true → all (λ x. ltb x bound) (map (λ i. get_or objects i 0) ks) ≡ true
    each_bound ks e =
        all_map (λ i. get_or objects i 0) (λ x. ltb x bound) ks
        ∙ all_intro _ ks (λ i m. all_at _ objects o (get_or objects i 0)
        (mem_get_d objects i 0 (subst (λ (l : ℕ). i < l) (sym n) (ltb-true i parameters (all_at _ ks e i m)))))

module _ (t : Task) (ok : check_task t ≡ accepted tt) where
  -- the facts of a task are a state of it
  pub initial_valid : Valid t t.facts
  initial_valid = (checked t ok).facts_right

  pub initial_few : length t.facts ≤ 512
  initial_few = (checked t ok).few_facts

  -- an action that names a schema and known objects leads from a state to a state
  pub successor_valid :
      (s : State) (a : Action) → Valid t s → check_action t a ≡ accepted tt
      → Valid t (successor (schema_at t a.schema) a.objects s)
  unfolding successor put_in
  successor_valid s a v e =
      let named = checked_action t a e in
      let schema : Schema = schema_at t a.schema in
      let adds = (schema_at_right t (checked t ok) a.schema named.schema_known).adds_right in
      puts_valid t (put_in schema a.objects) (keep (λ f. not (has (taken_out schema a.objects) f)) s)
      (all_map (ground a.objects) (known t.arities t.objects) schema.adds
      ∙ all_intro _ schema.adds (λ b m. ground_known t.arities schema.parameters t.objects a.objects b
      named.one_for_each named.objects_known (all_at _ schema.adds adds.atoms_known b m)))
      (keep_valid t (λ f. not (has (taken_out schema a.objects) f)) s v)
