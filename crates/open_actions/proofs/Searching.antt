-- The search among the bindings of a schema: what one step says of the whole, for any test of what is open.
use Prim.Native.Nat.{ℕ, ◌+◌, ◌-◌, ◌*◌, ◌≤◌, ◌<◌}
use native.Mathlib.Omega.{arith}
use mathlib.Core.Path.{◌≡◌, refl, sym, ap, ◌∙◌, subst}
use mathlib.Core.Bool.{Bool, true, false}
use mathlib.Core.Logic.{◌⊎◌, inl, inr, ⊎_elim}
use mathlib.Core.List.{List}
use lib.ListN.{length, get_or, set, length-set}
use lib.Seq.{get_or-set_same, get_or-set_other, ext_get_or}
use borrow.Author.Tests.{eq-eqb, eqb-true}
use Rattle.std.specs.Prelude.{Result, Ok, Err}
use Rattle.laws.specs.Lists.{distinct, before}
use Rattle.laws.proofs.Tests.{and_right, and_intro, and_false_left, or_cases, never, by_test}
use Rattle.laws.proofs.Orders.{compared, before_irreflexive, before_transitive}
use Rattle.laws.proofs.Numbers.{distinct_places}
use Rattle.model.proofs.Bindings.{FullBinding, full_at, full_intro, at_after}
use Rattle.masks.specs.Sets.{is_member, union_of, common_of, single_of}
use Rattle.masks.proofs.Operations.{union_member, common_member, single_member}
use Rattle.open_actions.specs.Masked.{Agree, Inside, Begins, StartsFrom, BoundBelow, Covers}
use Rattle.open_actions.specs.Bindings.{Query, open_binding, Full, Stuck, SearchOutcome, Leaves}
use Rattle.open_actions.proofs.Choosing.{inside_refl, inside_trans, inside_left, inside_right, both_inside, agree_inside}

-- ---- the two answers of a search

pub same_err : {c d : ℕ} → ◌≡◌ {A = Result (Unit {0}) ℕ} (Err c) (Err d) → c ≡ d
same_err e = cc

pub no_err : {c : ℕ} → ◌≡◌ {A = Result (Unit {0}) ℕ} (Err c) (Ok tt) → ⊥
no_err e = cc

-- ---- masks and levels

pub single_inside : (p : ℕ) {bound : ℕ} → is_member bound p ≡ true → Inside (single_of p) bound
single_inside p {bound} h = record { each = λ r m. subst (λ (n : ℕ). is_member bound n ≡ true) (eqb-true p r (sym (single_member p r) ∙ m)) h }

pub single_in : (p : ℕ) → is_member (single_of p) p ≡ true
single_in p = single_member p p ∙ eq-eqb p p refl

-- what is bound, with the next parameter
pub more_below : {bound level : ℕ} → BoundBelow bound level → BoundBelow (union_of bound (single_of level)) (level + 1)
more_below {bound} {level} below = record {
  each = λ p m.
      ⊎_elim (λ old. let h = below.each p old in omega arith) (λ new. let e = eqb-true level p (sym (single_member level p) ∙ new) in omega arith)
      (or_cases (is_member bound p) (is_member (single_of level) p) (sym (union_member bound (single_of level) p) ∙ m));
}

pub more_bound : {bound level : ℕ} → Covers bound level → Covers (union_of bound (single_of level)) (level + 1)
more_bound {bound} {level} all_bound = record {
  each = λ p h.
      ⊎_elim (λ (less : p < level). (inside_left bound (single_of level)).each p (all_bound.each p less))
      (⊎_elim
      (λ (same : p ≡ level). (inside_right bound (single_of level)).each p (subst (λ (n : ℕ). is_member (single_of level) n ≡ true) (sym same) (single_in level)))
      (λ (more : level < p). absurd (omega arith)))
      (compared p level);
}

-- ---- full bindings

module _ {q : Query} where
  pub full_binding : {y : List ℕ} → Full q y → FullBinding q.known q.schema.parameters y
  full_binding f = record { one_for_each = f.one_for_each; objects_known = f.objects_known }

  pub binding_full : {y : List ℕ} → FullBinding q.known q.schema.parameters y → Full q y
  binding_full f = record { one_for_each = f.one_for_each; objects_known = f.objects_known }

  pub full_below : {y : List ℕ} → Full q y → (i : ℕ) → i < length y → get_or y i 0 < q.known
  full_below f i h = full_at (full_binding f) i (subst (λ (n : ℕ). i < n) f.one_for_each h)

  pub same_length : {x y : List ℕ} → Full q x → Full q y → length x ≡ length y
  same_length f g = f.one_for_each ∙ sym g.one_for_each

  pub full_set : {x : List ℕ} {level o : ℕ} → Full q x → level < length x → o < q.known → Full q (set x level o)
  full_set {x} {level} {o} f h small = record {
    one_for_each = length-set x level o ∙ f.one_for_each;
    objects_known = (full_intro q.known (set x level o) (λ i k.
        ⊎_elim
        (λ (less : i < level). subst (λ (v : ℕ). v < q.known) (sym (get_or-set_other x level i o 0 (λ e. absurd (omega (arith, e)))))
        (full_below f i (inside i k)))
        (⊎_elim
        (λ (same : i ≡ level). subst (λ (v : ℕ). v < q.known) (sym (ap (λ (n : ℕ). get_or (set x level o) n 0) same ∙ get_or-set_same x level o 0 h)) small)
        (λ (more : level < i). subst (λ (v : ℕ). v < q.known) (sym (get_or-set_other x level i o 0 (λ e. absurd (omega (arith, e)))))
        (full_below f i (inside i k))))
        (compared i level))).objects_known;
  }
    where
      inside : (i : ℕ) → i < length (set x level o) → i < length x
      inside i k = subst (λ (n : ℕ). i < n) (length-set x level o) k

  -- two full bindings that agree everywhere are one
  pub same_binding : {x y : List ℕ} → Full q x → Full q y → Begins (length x) x y → y ≡ x
  same_binding {x} {y} f g begins = ext_get_or 0 y x (same_length g f) (λ i h. begins.same i (let e = same_length f g in omega arith))

-- an object that stands twice is not open
module _ (q : Query) where
  pub repeated_closes : (y : List ℕ) {p r : ℕ} → p < r → r < length y → get_or y p 0 ≡ get_or y r 0 → open_binding q y ≡ false
  unfolding open_binding
  repeated_closes y {p} {r} h inside e =
      by_test (distinct y)
      (λ finds. absurd (let same = distinct_places y finds p r (omega arith) inside e in omega arith))
      (λ differ. and_false_left (distinct y) _ differ)

module _ {q : Query} where
  -- below a level two lists agree, at the level the first has the smaller object
  pub earlier_at : {x y : List ℕ} {level : ℕ} → Full q x → Full q y → Begins level x y → level < length x → get_or x level 0 < get_or y level 0
      → before x y ≡ true
  earlier_at {x} {y} {level} f g begins h less =
      at_after (full_binding f) (full_binding g) level (subst (λ (n : ℕ). level < n) f.one_for_each h) (record { agrees = begins.same; larger = less })

-- ---- one level

pub begins_refl : {level : ℕ} {x : List ℕ} → Begins level x x
begins_refl = record { same = λ p h. refl }

-- a binding at the bound parameters, with another object at the level
module _ (o : ℕ) {bound level : ℕ} {x now : List ℕ} (below : BoundBelow bound level) (begins : Begins level x now) where
  -- below the level nothing changes
  pub set_below : (p : ℕ) → p < level → get_or (set now level o) p 0 ≡ get_or x p 0
  set_below p h = get_or-set_other now level p o 0 (λ e. absurd (omega (arith, e))) ∙ begins.same p h

  pub agree_set : {c : ℕ} {y : List ℕ} → Inside c bound → Agree c x y → Agree c (set now level o) y
  agree_set inside agrees = record { same = λ p m. agrees.same p m ∙ sym (set_below p (below.each p (inside.each p m))) }

  pub set_agree : {c : ℕ} {y : List ℕ} → Inside c bound → Agree c (set now level o) y → Agree c x y
  set_agree inside agrees = record { same = λ p m. agrees.same p m ∙ set_below p (below.each p (inside.each p m)) }

  pub begins_below : {after : List ℕ} → Begins (level + 1) (set now level o) after → Begins level x after
  begins_below later = record { same = λ p h. later.same p (omega arith) ∙ set_below p h }

  pub begins_above : {y : List ℕ} → level < length now → Begins level x y → get_or y level 0 ≡ o → Begins (level + 1) (set now level o) y
  begins_above {y} inside front here = record {
    same = λ p h.
        ⊎_elim (λ (less : p < level). front.same p less ∙ sym (set_below p less))
        (⊎_elim
        (λ (same : p ≡ level). ap (λ (n : ℕ). get_or y n 0) same ∙ here ∙ sym (get_or-set_same now level o 0 inside)
        ∙ ap (λ (n : ℕ). get_or (set now level o) n 0) (sym same))
        (λ (more : level < p). absurd (omega arith)))
        (compared p level);
  }

module _ {q : Query} {bound level o : ℕ} {x : List ℕ} (below : BoundBelow bound level) (full : Full q x) (inside : level < length x) where
  -- bound objects that rule out the object at the level: nothing is found
  pub ruled_out :
      {exact : Bool} {c m : ℕ} {after : List ℕ} → Full q after → Begins (level + 1) (set x level o) after → Inside c bound
      → ((y : List ℕ) → Full q y → Agree c x y → get_or y level 0 ≡ o → open_binding q y ≡ false) → m ≡ union_of c (single_of level)
      → SearchOutcome q exact (union_of bound (single_of level)) (level + 1) 0 (set x level o) after (Err m)
  ruled_out {exact} {c} {m} full_after begins in_bound closes joined = record {
    full = full_after;
    begins = begins;
    stuck = λ k e. subst (Stuck q (union_of bound (single_of level)) (level + 1) 0 (set x level o)) (same_err e) (record {
      inside =
          subst (λ (k : ℕ). Inside k (union_of bound (single_of level))) (sym joined)
          (both_inside (inside_trans in_bound (inside_left bound (single_of level))) (inside_right bound (single_of level)));
      none = λ y f agrees reaches.
          let all_agree : Agree (union_of c (single_of level)) (set x level o) y = subst (λ (k : ℕ). Agree k (set x level o) y) joined agrees in
          closes y f (set_agree o below begins_refl in_bound (agree_inside (inside_left c (single_of level)) all_agree))
          (all_agree.same level ((inside_right c (single_of level)).each level (single_in level)) ∙ get_or-set_same x level o 0 inside);
    });
    found = λ e. absurd (no_err e);
  }

  -- an earlier parameter has the object
  pub taken_closes : {owner : ℕ} → owner < level → get_or x owner 0 ≡ o → (y : List ℕ) → Full q y → Agree (single_of owner) x y → get_or y level 0 ≡ o
      → open_binding q y ≡ false
  taken_closes {owner} less has_it y f agrees here =
      repeated_closes q y less (subst (λ (n : ℕ). level < n) (same_length full f) inside) (agrees.same owner (single_in owner) ∙ has_it ∙ sym here)

-- a search that is stuck says the same whether it is exact or not
pub stuck_anyway : {q : Query} {sure exact : Bool} {bound level from : ℕ} {x after : List ℕ} {r : Result (Unit {0}) ℕ} {c : ℕ}
    → SearchOutcome q sure bound level from x after r → r ≡ Err c → SearchOutcome q exact bound level from x after r
stuck_anyway outcome e =
    record { full = outcome.full; begins = outcome.begins; stuck = outcome.stuck; found = λ finds. absurd (no_err (sym e ∙ finds)) }

-- ---- the objects of a level, one after the other

-- No binding is open that has the bound objects at the culprits and, at the level, an object of those tried.
pub record Trying (q : Query) (bound level from : ℕ) (x now : List ℕ) (culprits o : ℕ) : Type 0 where
  pub full : Full q now
  pub begins : Begins level x now
  pub started : from ≤ o
  pub inside : Inside culprits bound
  pub none : (y : List ℕ) → Full q y → Agree culprits x y → from ≤ get_or y level 0 → get_or y level 0 < o → open_binding q y ≡ false

pub try_start : {q : Query} {bound level from culprits : ℕ} {x : List ℕ} → Full q x → Inside culprits bound → Trying q bound level from x x culprits from
try_start full inside = record {
  full = full;
  begins = begins_refl;
  started = omega arith;
  inside = inside;
  none = λ y f agrees low high. absurd (omega arith);
}

module _
    {q : Query} {bound level from : ℕ} {x : List ℕ} (full : Full q x) (below : BoundBelow bound level) (within : level < length x)
    {now : List ℕ} {culprits o : ℕ} (trying : Trying q bound level from x now culprits o) where
  level_in : {y : List ℕ} → Full q y → level < length y
  level_in f = subst (λ (n : ℕ). level < n) (same_length full f) within

  -- an object that is not left to the parameter
  pub try_skip : {mask why : ℕ} {b : Bool} → Leaves q bound level x mask why → Inside why culprits → b ≡ is_member mask o → b ≡ false
      → Trying q bound level from x now culprits (o + 1)
  try_skip {mask} leaves blamed e out = record {
    full = trying.full;
    begins = trying.begins;
    started = let s = trying.started in omega arith;
    inside = trying.inside;
    none = λ y f agrees low high.
        ⊎_elim (λ (less : get_or y level 0 < o). trying.none y f agrees low less)
        (⊎_elim
        (λ (here : get_or y level 0 ≡ o).
        by_test (open_binding q y)
        (λ opened. never (sym (leaves.holds y f (level_in f) (agree_inside blamed agrees) opened) ∙ ap (is_member mask) here ∙ sym e ∙ out))
        (λ closed. closed))
        (λ (more : o < get_or y level 0). absurd (omega arith)))
        (compared (get_or y level 0) o);
  }

  module _ {exact : Bool} {after : List ℕ} {r : Result (Unit {0}) ℕ}
      (outcome : SearchOutcome q exact (union_of bound (single_of level)) (level + 1) 0 (set now level o) after r) where
    reaches_all : {y : List ℕ} → StartsFrom (level + 1) 0 y
    reaches_all = record { from_on = λ h. omega arith }

    has_object : get_or after level 0 ≡ o
    has_object = outcome.begins.same level (omega arith) ∙ get_or-set_same now level o 0 (level_in trying.full)

    front : Begins level x after
    front = begins_below o below trying.begins outcome.begins

    -- the first binding of the next level is the first of this one
    pub try_found : r ≡ Ok tt → SearchOutcome q exact bound level from x after r
    try_found finds = record {
      full = outcome.full;
      begins = front;
      stuck = λ c fails. absurd (no_err (sym fails ∙ finds));
      found = λ e sure. record {
        open_now = (outcome.found finds sure).open_now;
        reaches = record { from_on = λ h. let s = trying.started in let e = has_object in omega arith };
        none_before = λ y f begins reaches earlier.
            ⊎_elim
            (λ (less : get_or y level 0 < o).
            trying.none y f (record { same = λ p m. begins.same p (below.each p (trying.inside.each p m)) }) (reaches.from_on (level_in f)) less)
            (⊎_elim
            (λ (here : get_or y level 0 ≡ o).
            (outcome.found finds sure).none_before y f (begins_above o below trying.begins (level_in trying.full) begins here) reaches_all earlier)
            (λ (more : o < get_or y level 0).
            never (sym (before_transitive y after y earlier
            (earlier_at outcome.full f (record { same = λ p h. begins.same p h ∙ sym (front.same p h) }) (level_in outcome.full)
            (let e = has_object in omega arith)))
            ∙ before_irreflexive y)))
            (compared (get_or y level 0) o);
      };
    }

    module _ {why : ℕ} (stops : r ≡ Err why) where
      stuck : Stuck q (union_of bound (single_of level)) (level + 1) 0 (set now level o) why
      stuck = outcome.stuck why stops

      -- a culprit is bound, or it is the level
      either_way : (p : ℕ) → is_member why p ≡ true → (is_member bound p ≡ true) ⊎ (level ≡ p)
      either_way p m =
          ⊎_elim (λ old. inl old) (λ new. inr (eqb-true level p (sym (single_member level p) ∙ new)))
          (or_cases (is_member bound p) (is_member (single_of level) p) (sym (union_member bound (single_of level) p) ∙ stuck.inside.each p m))

      -- the level is no culprit: no other object helps
      pub try_back : is_member why level ≡ false → SearchOutcome q exact bound level from x after r
      try_back innocent = record {
        full = outcome.full;
        begins = front;
        stuck = λ c e. subst (Stuck q bound level from x) (same_err (sym stops ∙ e)) (record {
          inside = others;
          none = λ y f agrees reaches. stuck.none y f (agree_set o below trying.begins others agrees) reaches_all;
        });
        found = λ finds. absurd (no_err (sym stops ∙ finds));
      }
        where
          others : Inside why bound
          others = record {
            each = λ p m.
                ⊎_elim (λ old. old) (λ (same : level ≡ p). never (sym m ∙ ap (is_member why) (sym same) ∙ innocent)) (either_way p m);
          }

      -- the next object
      pub try_again : {c : ℕ} → c ≡ union_of culprits (common_of why bound) → Trying q bound level from x after c (o + 1)
      try_again {c} joined = record {
        full = outcome.full;
        begins = front;
        started = let s = trying.started in omega arith;
        inside = subst (λ (k : ℕ). Inside k bound) (sym joined) (both_inside trying.inside (shared_inside));
        none = λ y f agrees low high.
            let all_agree : Agree (union_of culprits (common_of why bound)) x y = subst (λ (k : ℕ). Agree k x y) joined agrees in
            ⊎_elim
            (λ (less : get_or y level 0 < o). trying.none y f (agree_inside (inside_left culprits (common_of why bound)) all_agree) low less)
            (⊎_elim
            (λ (here : get_or y level 0 ≡ o).
            stuck.none y f (at_this y here (agree_inside (inside_right culprits (common_of why bound)) all_agree)) reaches_all)
            (λ (more : o < get_or y level 0). absurd (omega arith)))
            (compared (get_or y level 0) o);
      }
        where
          shared_inside : Inside (common_of why bound) bound
          shared_inside = record { each = λ p m. shared p m }
            where
              shared : (p : ℕ) → is_member (common_of why bound) p ≡ true → is_member bound p ≡ true
              shared p m = and_right (is_member why p) (is_member bound p) (sym (common_member why bound p) ∙ m)

          at_this : (y : List ℕ) → get_or y level 0 ≡ o → Agree (common_of why bound) x y → Agree why (set now level o) y
          at_this y here agrees = record {
            same = λ p m.
                ⊎_elim
                (λ old.
                agrees.same p (common_member why bound p ∙ and_intro (is_member why p) (is_member bound p) m old)
                ∙ sym (set_below o below trying.begins p (below.each p old)))
                (λ (same : level ≡ p).
                ap (λ (n : ℕ). get_or y n 0) (sym same) ∙ here ∙ sym (get_or-set_same now level o 0 (level_in trying.full))
                ∙ ap (λ (n : ℕ). get_or (set now level o) n 0) same)
                (either_way p m);
          }

  -- every object is tried
  pub try_end : {exact : Bool} → q.known ≤ o → SearchOutcome q exact bound level from x now (Err culprits)
  try_end {exact} all_tried = record {
    full = trying.full;
    begins = trying.begins;
    stuck = λ c e. subst (Stuck q bound level from x) (same_err e) (record {
      inside = trying.inside;
      none = λ y f agrees reaches.
          trying.none y f agrees (reaches.from_on (level_in f)) (let h = full_below f level (level_in f) in omega arith);
    });
    found = λ finds. absurd (no_err finds);
  }

-- ---- every parameter has its object

module _ {q : Query} {bound : ℕ} {x : List ℕ} (full : Full q x) where
  -- a search that is not exact says nothing of what it finds
  pub found_anyway : {exact : Bool} → exact ≡ false → SearchOutcome q exact bound (length x) 0 x x (Ok tt)
  found_anyway e =
      record { full = full; begins = begins_refl; stuck = λ c fails. absurd (no_err (sym fails)); found = λ finds sure. never (sym sure ∙ e) }

  -- in one that is, the binding decides
  pub whole_open : {exact : Bool} → open_binding q x ≡ true → SearchOutcome q exact bound (length x) 0 x x (Ok tt)
  whole_open opened = record {
    full = full;
    begins = begins_refl;
    stuck = λ c fails. absurd (no_err (sym fails));
    found = λ finds sure. record {
      open_now = opened;
      reaches = record { from_on = λ h. absurd (omega arith) };
      none_before = λ y f begins reaches earlier.
          never (sym earlier ∙ ap (λ (l : List ℕ). before l x) (same_binding full f begins) ∙ before_irreflexive x);
    };
  }

  pub whole_closed : {exact : Bool} → Covers bound (length x) → open_binding q x ≡ false → SearchOutcome q exact bound (length x) 0 x x (Err bound)
  whole_closed all_bound closed = record {
    full = full;
    begins = begins_refl;
    stuck = λ c e. subst (Stuck q bound (length x) 0 x) (same_err e) (record {
      inside = inside_refl;
      none = λ y f agrees reaches.
          ap (open_binding q) (same_binding full f (record { same = λ p h. agrees.same p (all_bound.each p h) })) ∙ closed;
    });
    found = λ finds. absurd (no_err finds);
  }

-- ---- the search ends: fewer parameters are left at each call

-- twice the parameters from the level on, less one for the step of a level
pub deeper : (x : List ℕ) (level o : ℕ) {t : ℕ} → 2 * (length x - level) - 1 ≡ t → level < length x → 2 * (length (set x level o) - (level + 1)) < t
deeper x level o e h = let n = length-set x level o in omega arith

pub at_this_level : (x now : List ℕ) (level : ℕ) {t : ℕ} → 2 * (length x - level) ≡ t → length now ≡ length x → level < length x
    → 2 * (length now - level) - 1 < t
at_this_level x now level e n h = omega arith
