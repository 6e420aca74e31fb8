-- What the atoms of a list leave to a parameter together: the candidates, and too little room.
use Prim.Native.Nat.{ℕ, zero, suc, ◌+◌, ◌-◌, ◌≤◌, ◌<◌}
use native.Mathlib.Omega.{arith}
use mathlib.Core.Path.{◌≡◌, sym, ap, ◌∙◌, subst}
use mathlib.Core.Bool.{Bool, true, false, cond, ◌||◌}
use mathlib.Core.Logic.{⊎_elim}
use mathlib.Core.List.{List, [], ◌∷◌}
use lib.ListN.{length, get_or, set, take, length-set}
use lib.Seq.{get_or-set_same, get_or-set_other, get_or-take, length-take-le}
use borrow.Author.Tests.{lt-ltb, eq-eqb}
use Rattle.laws.specs.Lists.{up_to, count}
use Rattle.laws.proofs.Lists.{count_append}
use Rattle.laws.proofs.Walks.{up_to_next}
use Rattle.laws.proofs.Tests.{and_intro, or_cases, or_left, or_right, never, by_test}
use Rattle.laws.proofs.Orders.{compared}
use Rattle.card.specs.Represents.{blank_atom}
use Rattle.card.specs.declared.AtomList.{AtomList}
use Rattle.masks.specs.Sets.{is_member, union_of, common_of, single_of, all_below}
use Rattle.masks.proofs.Operations.{union_member, common_member, single_member, all_member, none_member}
use Rattle.open_actions.specs.Masked.{Agree, Inside}
use Rattle.open_actions.specs.Supports.{AtomReady, AtomSupported, ListReady, atom_at, no_support, support_at}
use Rattle.open_actions.specs.Supports.{LeavesCandidates, LeavesSupports, Crowds, LeavesRoom}
use Rattle.open_actions.specs.declared.query.Query.{Query as Asked}
use Rattle.open_actions.specs.declared.support.Support.{Support}

-- ---- masks of parameters

pub none_inside : {bound : ℕ} → Inside 0 bound
none_inside = record { each = λ p m. never (sym m ∙ none_member p) }

pub inside_refl : {m : ℕ} → Inside m m
inside_refl = record { each = λ p h. h }

pub inside_trans : {a b c : ℕ} → Inside a b → Inside b c → Inside a c
inside_trans f g = record { each = λ p h. g.each p (f.each p h) }

pub inside_left : (a b : ℕ) → Inside a (union_of a b)
inside_left a b = record { each = λ p h. union_member a b p ∙ or_left (is_member a p) (is_member b p) h }

pub inside_right : (a b : ℕ) → Inside b (union_of a b)
inside_right a b = record { each = λ p h. union_member a b p ∙ or_right (is_member a p) (is_member b p) h }

pub both_inside : {a b c : ℕ} → Inside a c → Inside b c → Inside (union_of a b) c
both_inside {a} {b} f g = record { each = λ p h. ⊎_elim (f.each p) (g.each p) (or_cases (is_member a p) (is_member b p) (sym (union_member a b p) ∙ h)) }

pub agree_inside : {a b : ℕ} {x y : List ℕ} → Inside a b → Agree b x y → Agree a x y
agree_inside f agrees = record { same = λ p h. agrees.same p (f.each p h) }

-- ---- the candidates

-- an atom of a list
pub list_atom : {asked : Asked} {l : AtomList} {x : List ℕ} (i : ℕ) → ListReady asked l x → i < l.count
    → AtomReady asked (get_or l.atoms i blank_atom) x
unfolding atom_at
list_atom i ready h = record { atom_known = ready.atoms_known i h; few = ready.few }

-- the atoms of a list are at the front of its array
module _ {asked : Asked} {l : AtomList} {x : List ℕ} (ready : ListReady asked l x) where
  pub all_atoms : length (take l.count l.atoms) ≡ l.count
  all_atoms = length-take-le l.count l.atoms (let few = ready.few_atoms in let size = ready.size in omega arith)

  pub front_atom : {i : ℕ} → i < l.count → get_or (take l.count l.atoms) i blank_atom ≡ get_or l.atoms i blank_atom
  front_atom {i} h = get_or-take l.count l.atoms i blank_atom h

module _ {asked : Asked} {l : AtomList} {parameter bound : ℕ} {x : List ℕ} where
  pub all_left : {m : ℕ} → m ≡ all_below asked.known → LeavesCandidates asked l 0 parameter bound x m 0
  all_left {m} e = record {
    inside = none_inside;
    holds = λ y agrees there few.
        ap (λ (k : ℕ). is_member k (get_or y parameter 0)) e ∙ all_member asked.known (get_or y parameter 0) ∙ lt-ltb (get_or y parameter 0) asked.known few;
  }

  module _ {i mask culprits : ℕ} (so_far : LeavesCandidates asked l i parameter bound x mask culprits) where
    -- what some atoms leave, more of them leave too
    pub left_at : {atoms : ℕ} → i ≤ atoms → LeavesCandidates asked l atoms parameter bound x mask culprits
    left_at h = record { inside = so_far.inside; holds = λ y agrees there few. so_far.holds y agrees (λ j less. there j (omega arith)) few }

    -- an atom that takes nothing away
    pub same_left : LeavesCandidates asked l (i + 1) parameter bound x mask culprits
    same_left = left_at (omega arith)

    -- an atom that takes something away
    pub fewer_left :
        {one : Support} {m c : ℕ} → AtomSupported asked (get_or l.atoms i blank_atom) parameter bound x one
        → m ≡ common_of mask one.mask → c ≡ union_of culprits one.linked → LeavesCandidates asked l (i + 1) parameter bound x m c
    unfolding atom_at
    fewer_left {one} {m} {c} atom e f = record {
      inside = subst (λ (k : ℕ). Inside k bound) (sym f) (both_inside so_far.inside atom.inside);
      holds = λ y agrees there few.
          let v : ℕ = get_or y parameter 0 in
          let all_agree : Agree (union_of culprits one.linked) x y = subst (λ (k : ℕ). Agree k x y) f agrees in
          ap (λ (k : ℕ). is_member k v) e ∙ common_member mask one.mask v
          ∙ and_intro (is_member mask v) (is_member one.mask v)
          (so_far.holds y (agree_inside (inside_left culprits one.linked) all_agree) (λ j h. there j (omega arith)) few)
          (atom.holds y (agree_inside (inside_right culprits one.linked) all_agree) (there i (omega arith)) (let small = asked.ready.state_kept.shape.few_objects in omega arith));
    }

-- ---- what each atom leaves

-- the first atoms of a list have what they leave in an array of eight
pub record Filled (asked : Asked) (l : AtomList) (parameter bound : ℕ) (x : List ℕ) (items : List Support) (i : ℕ) : Type 0 where
  pub size : length items ≡ 8
  pub each : (j : ℕ) → j < i → AtomSupported asked (get_or l.atoms j blank_atom) parameter bound x (support_at items j)

module _ {asked : Asked} {l : AtomList} {parameter bound : ℕ} {x : List ℕ} where
  pub fill_next :
      {items : List Support} {i : ℕ} {one : Support} → Filled asked l parameter bound x items i → i < 8
      → AtomSupported asked (get_or l.atoms i blank_atom) parameter bound x one
      → Filled asked l parameter bound x (set items i one) (i + 1)
  unfolding support_at
  fill_next {items} {i} {one} so_far few atom = record {
    size = length-set items i one ∙ so_far.size;
    each = λ j k.
        ⊎_elim
        (λ (less : j < i).
        subst (AtomSupported asked (get_or l.atoms j blank_atom) parameter bound x)
        (sym (get_or-set_other items i j one no_support (λ e. absurd (omega (arith, e))))) (so_far.each j less))
        (⊎_elim
        (λ (same : j ≡ i).
        subst (λ (n : ℕ). AtomSupported asked (get_or l.atoms n blank_atom) parameter bound x (get_or (set items i one) n no_support)) (sym same)
        (subst (AtomSupported asked (get_or l.atoms i blank_atom) parameter bound x)
        (sym (get_or-set_same items i one no_support (let s = so_far.size in omega arith))) atom))
        (λ (more : i < j). absurd (omega arith)))
        (compared j i);
  }

-- those of the list are at the front of an array
pub supports_front : {asked : Asked} {l : AtomList} {parameter bound n : ℕ} {x : List ℕ} (items : List Support) → l.count ≤ n
    → LeavesSupports asked l parameter bound x items → LeavesSupports asked l parameter bound x (take n items)
unfolding support_at
supports_front {asked} {l} {parameter} {bound} {n} {x} items h supports = record {
  each = λ i k.
      subst (AtomSupported asked (get_or l.atoms i blank_atom) parameter bound x) (sym (get_or-take n items i no_support (omega arith)))
      (supports.each i k);
}

-- ---- too little room

-- the number of passes grows with the numbers that are tested
count_more : (test : ℕ → Bool) (n : ℕ) → count test (up_to n) ≤ count test (up_to (n + 1))
count_more test n =
    let e = ap (count test) (up_to_next n) ∙ count_append test (up_to n) (n ∷ []) in
    omega arith

count_passed : (test : ℕ → Bool) (n : ℕ) → test n ≡ true → count test (up_to (n + 1)) ≡ count test (up_to n) + 1
unfolding count
count_passed test n e =
    ap (count test) (up_to_next n) ∙ count_append test (up_to n) (n ∷ []) ∙ ap (λ (b : Bool). count test (up_to n) + cond b 1 0) e

count_up : (test : ℕ → Bool) (n m : ℕ) → n ≤ m → count test (up_to n) ≤ count test (up_to m)
count_up test n zero h = subst (λ (k : ℕ). count test (up_to k) ≤ count test (up_to 0)) (let e : 0 ≡ n = omega arith in e) (omega arith)
count_up test n (suc m) h =
    ⊎_elim
    (λ (less : n < suc m).
    let rest = count_up test n m (omega arith) in
    let more : count test (up_to m) ≤ count test (up_to (suc m)) =
    subst (λ (k : ℕ). count test (up_to m) ≤ count test (up_to k)) (let e : m + 1 ≡ suc m = omega arith in e) (count_more test m) in
    omega arith)
    (⊎_elim (λ (same : n ≡ suc m). subst (λ (k : ℕ). count test (up_to k) ≤ count test (up_to (suc m))) (sym same) (omega arith))
    (λ (more : suc m < n). absurd (omega arith)))
    (compared n (suc m))

-- The first atoms of a list, with the room that they leave: each that is no fact with the object takes some.
pub record Crowded (s : List Support) (room o left culprits i : ℕ) : Type 0 where
  pub within : i ≤ length s
  pub inside : (bound : ℕ) → ((j : ℕ) → j < length s → Inside (support_at s j).linked bound) → Inside culprits bound
  pub many :
      (test : ℕ → Bool) → ((j : ℕ) → j < i → Inside (support_at s j).linked culprits → is_member (support_at s j).mask o ≡ false → test j ≡ true)
      → room ≤ left + count test (up_to i)

module _ {s : List Support} {room o : ℕ} where
  pub crowd_start : Crowded s room o room 0 0
  crowd_start = record { within = omega arith; inside = λ bound each. none_inside; many = λ test passes. omega arith }

  module _ {left culprits i : ℕ} (so_far : Crowded s room o left culprits i) (more : i < length s) where
    -- an atom that is a fact with the object
    pub crowd_skip : Crowded s room o left culprits (i + 1)
    crowd_skip = record {
      within = omega arith;
      inside = so_far.inside;
      many = λ test passes. let some = so_far.many test (λ j h. passes j (omega arith)) in let grows = count_more test i in omega arith;
    }

    module _ {c : ℕ} (missing : is_member (support_at s i).mask o ≡ false) (joined : c ≡ union_of culprits (support_at s i).linked) where
      inside_joined : (bound : ℕ) → ((j : ℕ) → j < length s → Inside (support_at s j).linked bound) → Inside c bound
      inside_joined bound each = subst (λ (k : ℕ). Inside k bound) (sym joined) (both_inside (so_far.inside bound each) (each i more))

      -- one more is no fact
      one_more :
          (test : ℕ → Bool) → ((j : ℕ) → j < i + 1 → Inside (support_at s j).linked c → is_member (support_at s j).mask o ≡ false → test j ≡ true)
          → room + 1 ≤ left + count test (up_to (i + 1))
      one_more test passes =
          let grown : Inside culprits c = subst (Inside culprits) (sym joined) (inside_left culprits (support_at s i).linked) in
          let own : Inside (support_at s i).linked c = subst (Inside (support_at s i).linked) (sym joined) (inside_right culprits (support_at s i).linked) in
          let some = so_far.many test (λ j h in_it. passes j (omega arith) (inside_trans in_it grown)) in
          let next = count_passed test i (passes i (omega arith) own missing) in
          omega arith

      pub crowd_one : (left ≡ 0 → ⊥) → Crowded s room o (left - 1) c (i + 1)
      crowd_one some_left = record {
        within = omega arith;
        inside = inside_joined;
        many = λ test passes. let some = one_more test passes in omega arith;
      }

      pub crowd_full : left ≡ 0 → Crowds s room o c
      crowd_full none_left = record {
        inside = inside_joined;
        many = λ test passes.
            let some = one_more test (λ j h. passes j (omega arith)) in
            let grows = count_up test (i + 1) (length s) (omega arith) in
            omega arith;
      }

-- ---- the candidates that leave room, one object after the other

module _ {mask culprits : ℕ} {s : List Support} {room : ℕ} where
  module _ {o m c : ℕ} (so_far : LeavesRoom mask culprits s room o m c) where
    -- an object that is no candidate
    pub room_skip : {b : Bool} → b ≡ is_member mask o → b ≡ false → LeavesRoom mask culprits s room (o + 1) m c
    room_skip e out = record {
      more = so_far.more;
      inside = so_far.inside;
      crowded = λ v h in_it.
          ⊎_elim (λ (less : v < o). so_far.crowded v less in_it)
          (⊎_elim (λ (same : v ≡ o). never (sym in_it ∙ ap (is_member mask) same ∙ sym e ∙ out)) (λ (over : o < v). absurd (omega arith)))
          (compared v o);
    }

    -- a candidate that leaves too little room
    pub room_out : {crowd d : ℕ} → Crowds s room o crowd → d ≡ union_of c crowd → LeavesRoom mask culprits s room (o + 1) m d
    room_out {crowd} {d} crowds e = record {
      more = inside_trans so_far.more grown;
      inside = λ bound own each. subst (λ (k : ℕ). Inside k bound) (sym e) (both_inside (so_far.inside bound own each) (crowds.inside bound each));
      crowded = λ v h in_it out test passes.
          ⊎_elim (λ (less : v < o). so_far.crowded v less in_it out test (λ i k inner. passes i k (inside_trans inner grown)))
          (⊎_elim
          (λ (same : v ≡ o).
          crowds.many test (λ i k inner gone. passes i k (inside_trans inner own_culprits) (ap (is_member (support_at s i).mask) same ∙ gone)))
          (λ (over : o < v). absurd (omega arith)))
          (compared v o);
    }
      where
        grown : Inside c d
        grown = subst (Inside c) (sym e) (inside_left c crowd)

        own_culprits : Inside crowd d
        own_culprits = subst (Inside crowd) (sym e) (inside_right c crowd)

    -- one that leaves room
    pub room_in : {n : ℕ} → n ≡ union_of m (single_of o) → LeavesRoom mask culprits s room (o + 1) n c
    room_in {n} e = record {
      more = so_far.more;
      inside = so_far.inside;
      crowded = λ v h in_it out.
          ⊎_elim (λ (less : v < o). so_far.crowded v less in_it (not_before v out))
          (⊎_elim (λ (same : v ≡ o). never (sym (here v same) ∙ out)) (λ (over : o < v). absurd (omega arith)))
          (compared v o);
    }
      where
        joined : (v : ℕ) → is_member n v ≡ (is_member m v || is_member (single_of o) v)
        joined v = ap (λ (k : ℕ). is_member k v) e ∙ union_member m (single_of o) v

        not_before : (v : ℕ) → is_member n v ≡ false → is_member m v ≡ false
        not_before v out =
            by_test (is_member m v) (λ there. never (sym (joined v ∙ or_left (is_member m v) (is_member (single_of o) v) there) ∙ out)) (λ gone. gone)

        here : (v : ℕ) → v ≡ o → is_member n v ≡ true
        here v same = joined v ∙ or_right (is_member m v) (is_member (single_of o) v) (single_member o v ∙ eq-eqb o v (sym same))

    -- what leaves room for some objects leaves it for fewer
    pub room_all : {known : ℕ} → known ≤ o → LeavesRoom mask culprits s room known m c
    room_all h = record { more = so_far.more; inside = so_far.inside; crowded = λ v k. so_far.crowded v (omega arith) }
