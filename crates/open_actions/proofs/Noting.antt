-- Notes of what is stuck: what is recalled, and that notes stay true.
use Prim.Native.Nat.{ℕ, zero, suc, ◌+◌, ◌*◌, ◌≤◌, ◌<◌}
use native.Mathlib.Omega.{arith}
use mathlib.Core.Path.{◌≡◌, refl, sym, ap, ◌∙◌, subst}
use mathlib.Core.Bool.{Bool, true, false}
use mathlib.Core.Logic.{◌⊎◌, ⊎_elim}
use mathlib.Core.List.{List}
use lib.Bits.{and_le_r}
use Rattle.std.specs.Prelude.{Result, Err}
use lib.ListN.{length, get_or, set, replicate, length-set}
use lib.Seq.{get_or-set_same, get_or-set_other}
use Rattle.std.proofs.Common.{eqb}
use borrow.Author.Tests.{lt-ltb, eq-eqb}
use Rattle.laws.proofs.Tests.{and_right, and_intro, never}
use Rattle.laws.proofs.Orders.{compared}
use Rattle.masks.specs.Sets.{is_member, common_of, union_of, all_below}
use Rattle.masks.proofs.Operations.{common_member, all_member}
use Rattle.open_actions.specs.Masked.{Agree, Inside, BoundBelow}
use Rattle.open_actions.specs.Bindings.{Query, open_binding, Full, Stuck, SearchOutcome}
use Rattle.open_actions.specs.Notes.{culprits_at, object_at, Notes, Recalled, Noted, KeepsNotes}
use Rattle.open_actions.proofs.Choosing.{inside_left, both_inside}
use Rattle.open_actions.proofs.Searching.{same_err, no_err, begins_refl}

-- ---- what is recalled

-- a mask that has nothing but what is common with another
common_inside : {a b c : ℕ} → c ≡ common_of a b → c ≡ a → Inside a b
common_inside {a} {b} {c} e f = record {
  each = λ p m.
      and_right (is_member a p) (is_member b p)
      (sym (common_member a b p) ∙ ap (λ (k : ℕ). is_member k p) (sym e ∙ f) ∙ m);
}

-- The binding has the noted objects at the culprits below a parameter.
pub record Comparing (notes : List ℕ) (place : ℕ) (x : List ℕ) (culprits p : ℕ) : Type 0 where
  pub within : p ≤ length x
  pub same : (r : ℕ) → r < p → is_member culprits r ≡ true → get_or x r 0 ≡ object_at notes place r

module _ {notes : List ℕ} {place : ℕ} {x : List ℕ} {culprits : ℕ} where
  module _ {p : ℕ} (so_far : Comparing notes place x culprits p) (more : p < length x) where
    compare_next : (is_member culprits p ≡ true → get_or x p 0 ≡ object_at notes place p) → Comparing notes place x culprits (p + 1)
    compare_next here = record {
      within = omega arith;
      same = λ r h m.
          ⊎_elim (λ (less : r < p). so_far.same r less m)
          (⊎_elim
          (λ (same : r ≡ p).
          subst (λ (k : ℕ). get_or x k 0 ≡ object_at notes place k) (sym same) (here (subst (λ (k : ℕ). is_member culprits k ≡ true) same m)))
          (λ (over : p < r). absurd (omega arith)))
          (compared r p);
    }

    -- a parameter that is no culprit, and a culprit with the noted object
    pub compare_skip : {b : Bool} → b ≡ is_member culprits p → b ≡ false → Comparing notes place x culprits (p + 1)
    compare_skip e out = compare_next (λ m. never (sym m ∙ sym e ∙ out))

    pub compare_same : get_or x p 0 ≡ get_or notes (7 * place + 1 + p) 0 → Comparing notes place x culprits (p + 1)
    unfolding object_at
    compare_same e = compare_next (λ m. e)

pub recalls_all : {notes : List ℕ} {place bound both culprits : ℕ} {x : List ℕ} {p : ℕ} {empty : Bool} → culprits ≡ get_or notes (7 * place) 0
    → empty ≡ eqb culprits 0 → empty ≡ false → both ≡ common_of culprits bound → both ≡ culprits → Comparing notes place x culprits p → length x ≤ p
    → Recalled notes place bound x culprits
unfolding culprits_at
recalls_all {culprits = culprits} read e some joined same so_far all = record {
  some = λ zero. never (sym (eq-eqb culprits 0 zero) ∙ sym e ∙ some);
  noted = sym read;
  inside = common_inside joined same;
  same = λ r h m. so_far.same r (omega arith) m;
}

-- ---- what is noted

-- The objects of the parameters below one stand at a place.
pub record Noting (old now : List ℕ) (place : ℕ) (x : List ℕ) (p : ℕ) : Type 0 where
  pub within : p ≤ length x
  pub size : length now ≡ length old
  pub objects_there : (r : ℕ) → r < p → get_or now (7 * place + 1 + r) 0 ≡ get_or x r 0
  pub earlier : (j : ℕ) → j < 7 * place → get_or now j 0 ≡ get_or old j 0
  pub later : (j : ℕ) → 7 * place + 7 ≤ j → get_or now j 0 ≡ get_or old j 0

pub note_start : {old : List ℕ} {place : ℕ} {x : List ℕ} → Noting old old place x 0
note_start = record { within = omega arith; size = refl; objects_there = λ r k. absurd (omega arith); earlier = λ j k. refl; later = λ j k. refl }

pub note_next : {old now : List ℕ} {place : ℕ} {x : List ℕ} {p : ℕ} → Noting old now place x p → p < length x → length x ≤ 6
    → 7 * place + 7 ≤ length old → Noting old (set now (7 * place + 1 + p) (get_or x p 0)) place x (p + 1)
note_next {old} {now} {place} {x} {p} so_far more few room = record {
  within = omega arith;
  size = length-set now (7 * place + 1 + p) (get_or x p 0) ∙ so_far.size;
  objects_there = λ r k.
      ⊎_elim
      (λ (less : r < p).
      get_or-set_other now (7 * place + 1 + p) (7 * place + 1 + r) (get_or x p 0) 0 (λ e. absurd (omega (arith, e))) ∙ so_far.objects_there r less)
      (⊎_elim
      (λ (same : r ≡ p).
      ap (λ (n : ℕ). get_or (set now (7 * place + 1 + p) (get_or x p 0)) (7 * place + 1 + n) 0) same
      ∙ get_or-set_same now (7 * place + 1 + p) (get_or x p 0) 0 (let s = so_far.size in omega arith)
      ∙ ap (λ (n : ℕ). get_or x n 0) (sym same))
      (λ (over : p < r). absurd (omega arith)))
      (compared r p);
  earlier = λ j k. get_or-set_other now (7 * place + 1 + p) j (get_or x p 0) 0 (λ e. absurd (omega (arith, e))) ∙ so_far.earlier j k;
  later = λ j k. get_or-set_other now (7 * place + 1 + p) j (get_or x p 0) 0 (λ e. absurd (omega (arith, e))) ∙ so_far.later j k;
}

-- the culprits come last, those of them that are parameters
pub few_fit : (c : ℕ) {b few : ℕ} → b ≡ all_below 6 → few ≡ common_of c b → few ≤ 63
unfolding common_of all_below
few_fit c {b} six e = let small = and_le_r c b in omega (arith, six, e)

pub note_end : {old now : List ℕ} {place culprits b few : ℕ} {x : List ℕ} {p : ℕ} → Noting old now place x p → length x ≤ p → 7 * place < length old
    → b ≡ all_below 6 → few ≡ common_of culprits b → Noted old (set now (7 * place) few) place culprits x
note_end {old} {now} {place} {culprits} {b} {few} so_far h room six e = record {
  size = length-set now (7 * place) few ∙ so_far.size;
  culprits_there = λ r k m.
      ap (λ (n : ℕ). is_member n r)
      (get_or-set_same now (7 * place) few 0 (let s = so_far.size in omega arith) ∙ e ∙ ap (common_of culprits) six)
      ∙ common_member culprits (all_below 6) r
      ∙ and_intro (is_member culprits r) (is_member (all_below 6) r) m (all_member 6 r ∙ lt-ltb r 6 k);
  objects_there = λ r k.
      get_or-set_other now (7 * place) (7 * place + 1 + r) few 0 (λ e. absurd (omega (arith, e))) ∙ so_far.objects_there r (omega arith);
  earlier = λ j k. get_or-set_other now (7 * place) j few 0 (λ e. absurd (omega (arith, e))) ∙ so_far.earlier j k;
  later = λ j k. get_or-set_other now (7 * place) j few 0 (λ e. absurd (omega (arith, e))) ∙ so_far.later j k;
}

-- ---- the notes are true

-- a table of zeros has no note
zeros_at : (n j : ℕ) → ◌≡◌ {A = ℕ} (get_or (replicate n 0) j 0) 0
zeros_at zero j = refl
zeros_at (suc n) zero = refl
zeros_at (suc n) (suc j) = zeros_at n j

pub nothing_noted : {q : Query} (n : ℕ) → Notes q (replicate n 0)
unfolding culprits_at
nothing_noted n = record { none = λ place some. absurd (some (zeros_at n (7 * place))) }

-- notes that stay as they are, and notes kept twice
pub same_notes : {q : Query} {notes : List ℕ} → Notes q notes → KeepsNotes q notes notes
same_notes true_notes = record { size = refl; true_notes = true_notes }

pub kept_twice : {q : Query} {old now new : List ℕ} → KeepsNotes q old now → KeepsNotes q now new → KeepsNotes q old new
kept_twice first second = record { size = second.size ∙ first.size; true_notes = second.true_notes }

-- a recalled note rules out every binding that has the bound objects at its culprits
recalled_closes : {q : Query} {notes : List ℕ} {place bound : ℕ} {x : List ℕ} {r : ℕ} → Notes q notes
    → Recalled notes place bound x r → BoundBelow bound (length x) → (y : List ℕ) → Full q y → Agree r x y → open_binding q y ≡ false
recalled_closes {q} {notes} {place} {bound} {x} {r} true_notes recalled below y f agrees =
    let e : culprits_at notes place ≡ r = recalled.noted in
    true_notes.none place (λ zero. recalled.some (sym e ∙ zero)) y f
    (λ p k m.
    let in_it : is_member r p ≡ true = ap (λ (c : ℕ). is_member c p) (sym e) ∙ m in
    agrees.same p in_it ∙ recalled.same p (below.each p (recalled.inside.each p in_it)) in_it)

-- a true note more
one_more : {q : Query} {old new : List ℕ} {place culprits : ℕ} {x : List ℕ} → Notes q old → Noted old new place culprits x
    → length x ≤ 6 → BoundBelow culprits (length x) → ((y : List ℕ) → Full q y → Agree culprits x y → open_binding q y ≡ false) → Notes q new
unfolding culprits_at object_at
one_more {q} {old} {new} {place} {culprits} {x} true_notes noted few below closes = record {
  none = λ i some y f same.
      ⊎_elim
      (λ (less : i < place).
      let e = noted.earlier (7 * i) (omega arith) in
      true_notes.none i (λ zero. some (e ∙ zero)) y f
      (λ p k m. same p k (ap (λ (c : ℕ). is_member c p) e ∙ m) ∙ noted.earlier (7 * i + 1 + p) (omega arith)))
      (⊎_elim
      (λ (here : i ≡ place).
      closes y f (record {
        same = λ p m.
            let k : p < 6 = let b = below.each p m in omega arith in
            same p k (ap (λ (n : ℕ). is_member (get_or new (7 * n) 0) p) here ∙ noted.culprits_there p k m)
            ∙ ap (λ (n : ℕ). get_or new (7 * n + 1 + p) 0) here ∙ noted.objects_there p (below.each p m);
      }))
      (λ (more : place < i).
      let e = noted.later (7 * i) (omega arith) in
      true_notes.none i (λ zero. some (e ∙ zero)) y f
      (λ p k m. same p k (ap (λ (c : ℕ). is_member c p) e ∙ m) ∙ noted.later (7 * i + 1 + p) (omega arith))))
      (compared i place);
}

-- ---- the search with notes

-- what is recalled answers for a search
pub recalled_says : {q : Query} {exact : Bool} {notes : List ℕ} {place bound level : ℕ} {x : List ℕ} {r : ℕ} → Notes q notes → Full q x
    → BoundBelow bound (length x) → Recalled notes place bound x r → SearchOutcome q exact bound level 0 x x (Err r)
recalled_says {q} {bound = bound} {level} {x} true_notes full below recalled = record {
  full = full;
  begins = begins_refl;
  stuck = λ c e. subst (Stuck q bound level 0 x) (same_err e) (record {
    inside = recalled.inside;
    none = λ y f agrees reaches. recalled_closes true_notes recalled below y f agrees;
  });
  found = λ finds. absurd (no_err finds);
}

-- a search that is stuck is noted, with the objects that it leaves and parameters more among the culprits
pub stuck_noted : {q : Query} {exact : Bool} {bound level : ℕ} {x after : List ℕ} {r : Result (Unit {0}) ℕ} {old new : List ℕ}
    {place s culprits c : ℕ} → SearchOutcome q exact bound level 0 x after r → r ≡ Err culprits → BoundBelow bound level
    → level ≤ length after → length after ≤ 6
    → Inside s bound → c ≡ union_of culprits s → Notes q old → (new ≡ old) ⊎ Noted old new place c after → KeepsNotes q old new
stuck_noted {q} {exact} {bound} {level} {x} {after} {r} {old} {new} {place} {s} {culprits} {c} outcome stops below within few more joined true_notes =
    ⊎_elim (λ same. record { size = ap length same; true_notes = subst (Notes q) (sym same) true_notes })
    (λ noted. record {
      size = noted.size;
      true_notes = one_more true_notes noted few (record { each = λ p m. let h = below.each p (in_bound.each p m) in omega arith }) closes;
    })
  where
    in_bound : Inside c bound
    in_bound = subst (λ (k : ℕ). Inside k bound) (sym joined) (both_inside (outcome.stuck culprits stops).inside more)

    culprit : Inside culprits c
    culprit = subst (Inside culprits) (sym joined) (inside_left culprits s)

    closes : (y : List ℕ) → Full q y → Agree c after y → open_binding q y ≡ false
    closes y f agrees =
        (outcome.stuck culprits stops).none y f
        (record {
          same = λ p m.
              agrees.same p (culprit.each p m) ∙ outcome.begins.same p (below.each p ((outcome.stuck culprits stops).inside.each p m));
        })
        (record { from_on = λ h. omega arith })
