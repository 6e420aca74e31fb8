-- The choices of absorbed adds, document 01, "Conditions": all of them, each once, ascending with the highest property changing
-- fastest; and the results of a rule on a condition.
use Prim.Native.Nat.{ℕ, zero, suc, ◌<◌}
use native.Mathlib.Omega.{arith}
use mathlib.Core.Path.{◌≡◌, refl, sym, ap, subst}
use mathlib.Core.Bool.{true, ◌&&◌}
use mathlib.Core.Logic.{◌↔◌}
use mathlib.Core.List.Memᴰ
use mathlib.Core.List.{List, [], ◌∷◌, map, flat_map, Memᴰ}
use lib.Dec.{leb, ltb, eqb}
use lib.ListN.{length}
use borrow.Author.Tests.{leb-true, le-leb, lt-ltb, eq-eqb}
use Rattle.laws.specs.Lists.{from, up_to, before}
use Rattle.laws.specs.Bags.{Bag, plus, less, meet, contains}
use Rattle.laws.proofs.Tests.{never, and_left, and_right, and_intro, or_left, or_right}
use Rattle.laws.proofs.Lists.{flat_map_at, flat_map_intro, from_at, up_to_at, up_to_intro}
use Rattle.laws.proofs.Bags.{contains_length}
use Rattle.laws.proofs.Relations.{Pairwise, pairwise_append}
use Rattle.model.specs.Extension.{Move, choices, results}

-- the choices below the caps are the bags that the caps contain
pub choices_at : (caps s : Bag) → Memᴰ s (choices caps) → contains caps s ≡ true
unfolding choices contains
choices_at [] s k = ap (contains []) (Memᴰ.eq_of_singleton k)
choices_at (cap ∷ caps) s k =
    let r = flat_map_at (λ n. map (λ rest. n ∷ rest) (choices caps)) (up_to (suc cap)) s k in
    let m = Memᴰ.of_map (λ rest. r.0 ∷ rest) (choices caps) r.2 in
    let h = up_to_at (suc cap) r.0 r.1 in
    subst (λ (x : Bag). contains (cap ∷ caps) x ≡ true) m.2
    (and_intro (leb r.0 cap) (contains caps m.0) (le-leb r.0 cap (omega arith)) (choices_at caps m.0 m.1))

pub choices_intro : (caps s : Bag) → contains caps s ≡ true → Memᴰ s (choices caps)
unfolding choices contains
choices_intro [] [] e = Memᴰ.head refl
choices_intro [] (n ∷ s) e = never (sym e)
choices_intro (cap ∷ caps) [] e = never (sym e)
choices_intro (cap ∷ caps) (n ∷ s) e =
    let h = leb-true n cap (and_left (leb n cap) (contains caps s) e) in
    flat_map_intro (λ n. map (λ rest. n ∷ rest) (choices caps)) (up_to (suc cap)) n (n ∷ s) (up_to_intro (suc cap) n (omega arith))
    (Memᴰ.map (λ rest. n ∷ rest) (choices_intro caps s (and_right (leb n cap) (contains caps s) e)))

pub choices_exact : (caps s : Bag) → Memᴰ s (choices caps) ↔ ((length s ≡ length caps) × (contains caps s ≡ true))
choices_exact caps s =
    (λ k. let e = choices_at caps s k in (sym (contains_length caps s e), e), λ e. choices_intro caps s e.1)

-- a list of bags in strictly ascending order: each stands before every later one
abbrev pub Ascending : List Bag → Type 0
Ascending bags = Pairwise (λ a b. before a b ≡ true) bags

-- the order of bags with the same first count is that of the rest, and a smaller first count stands before
before_rest : (n : ℕ) (a b : Bag) → before a b ≡ true → before (n ∷ a) (n ∷ b) ≡ true
unfolding before
before_rest n a b e =
    or_right (ltb n n) (eqb n n && before a b) (and_intro (eqb n n) (before a b) (eq-eqb n n refl) e)

before_first : (m n : ℕ) (a b : Bag) → m < n → before (m ∷ a) (n ∷ b) ≡ true
unfolding before
before_first m n a b h = or_left (ltb m n) (eqb m n && before a b) (lt-ltb m n h)

-- bags in order stay so behind one first count, and behind first counts in sequence
ascending_map : (n : ℕ) (bags : List Bag) → Ascending bags → Ascending (map (λ b. n ∷ b) bags)
ascending_map n [] p = tt
ascending_map n (a ∷ bags) p = (
  λ y k.
      let r = Memᴰ.of_map (λ b. n ∷ b) bags k in
      subst (λ (x : Bag). before (n ∷ a) x ≡ true) r.2 (before_rest n a r.0 (p.0 r.0 r.1)),
  ascending_map n bags p.1,
)

ascending_from : (start size : ℕ) (bags : List Bag) → Ascending bags → Ascending (flat_map (λ n. map (λ b. n ∷ b) bags) (from start size))
unfolding flat_map from
ascending_from start zero bags p = tt
ascending_from start (suc size) bags p =
    pairwise_append (λ a b. before a b ≡ true) (map (λ b. start ∷ b) bags) (flat_map (λ n. map (λ b. n ∷ b) bags) (from (suc start) size))
    (ascending_map start bags p) (ascending_from (suc start) size bags p)
    (λ x y k j.
    let a = Memᴰ.of_map (λ b. start ∷ b) bags k in
    let f = flat_map_at (λ n. map (λ b. n ∷ b) bags) (from (suc start) size) y j in
    let b = Memᴰ.of_map (λ b. f.0 ∷ b) bags f.2 in
    subst (λ (z : Bag). before z y ≡ true) a.2
    (subst (λ (z : Bag). before (start ∷ a.0) z ≡ true) b.2
    (before_first start f.0 a.0 b.0 (from_at (suc start) size f.0 f.1).0)))

-- the choices ascend strictly: each stands once, and the highest property changes fastest
pub choices_ordered : (caps : Bag) → Ascending (choices caps)
unfolding choices up_to
choices_ordered [] = (λ y k. absurd (Memᴰ.not-nil k), tt)
choices_ordered (cap ∷ caps) = ascending_from 0 (suc cap) (choices caps) (choices_ordered caps)

-- the results of a rule on a condition: one for each choice of absorbed adds
pub results_at_lem : (b : Bag) (m : Move) (r : Bag) → Memᴰ r (results b m)
    → (s : Bag) × (contains (meet m.finish (less b m.start)) s ≡ true) × (r ≡ less (plus (less b m.start) m.finish) s)
unfolding results
results_at_lem b m r k =
    let caps = meet m.finish (less b m.start) in
    let c = Memᴰ.of_map (λ s. less (plus (less b m.start) m.finish) s) (choices caps) k in
    (c.0, choices_at caps c.0 c.1, sym c.2)

pub results_intro : (b : Bag) (m : Move) (s : Bag) → contains (meet m.finish (less b m.start)) s ≡ true
    → Memᴰ (less (plus (less b m.start) m.finish) s) (results b m)
unfolding results
results_intro b m s e =
    Memᴰ.map (λ s. less (plus (less b m.start) m.finish) s) (choices_intro (meet m.finish (less b m.start)) s e)

pub results_exact : (b : Bag) (m : Move) (r : Bag) → Memᴰ r (results b m)
    ↔ ((s : Bag) × (contains (meet m.finish (less b m.start)) s ≡ true) × (r ≡ less (plus (less b m.start) m.finish) s))
results_exact b m r = (results_at_lem b m r, λ e. Memᴰ.cast e.2 (results_intro b m e.0 e.1))
