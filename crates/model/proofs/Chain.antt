-- The chain lemma: what an action does to an object's bag is a chain of steps by the property rules of its parameter. So a list
-- that is closed under the rules has the bag after the action if it has the bag before; for any number of properties.
use Prim.Native.Nat.{ℕ, zero, suc, ◌+◌, ◌-◌, ◌≤◌, ◌<◌, min, zero-le}
use native.Mathlib.Nat.{not-suc-le-zero, le_refl, le_trans, le-min, min-le_left, min-le_right}
use native.Mathlib.Omega.{arith}
use mathlib.Core.Path.{◌≡◌, sym, ◌∙◌, subst}
use mathlib.Core.Bool.{true}
use mathlib.Core.Logic.{◌⊎◌, ⊎_elim}
use mathlib.Core.List.Memᴰ
use mathlib.Core.List.{List, Memᴰ}
use lib.ListN.{length, get_or}
use Rattle.laws.specs.Lists.{sum}
use Rattle.laws.specs.Bags.{Bag, plus, less, meet, contains, is_empty, single}
use Rattle.laws.proofs.Tests.{by_test}
use Rattle.laws.proofs.Bags.{length_less, length_meet, get_d_less, get_d_meet, length_change, get_d_change, length_absorbed, get_d_absorbed}
use Rattle.laws.proofs.Bags.{bag_ext, less_less, less_empty, contains_at, contains_intro, contains_single, is_empty_at, is_empty_not}
use Rattle.laws.proofs.Bags.{length_single, single_by_place, less_single_sum}
use Rattle.model.specs.Extension.{Move}
use Rattle.model.proofs.Choices.{results_intro}
use Rattle.model.proofs.ListsPerStart.{Closed}

-- the exchange rule of property i: it is removed and added
abbrev pub exchange : ℕ → ℕ → Move
exchange n i = record { start = single n i; finish = single n i }

-- the rest rule of a parameter: its deletes and adds, less what they have in common
abbrev pub rest : Bag → Bag → Move
rest d a = record { start = less d (meet d a); finish = less a (meet d a) }

module _ (moves : List Move) (bags : List Bag) (closed : Closed moves bags) (n : ℕ) where
  -- one step by a rule, its result known by its counts
  step : (b : Bag) (m : Move) (s r : Bag) → Memᴰ b bags → Memᴰ m moves
      → length b ≡ n → length m.start ≡ n → length m.finish ≡ n → length s ≡ n → length r ≡ n
      → ((i : ℕ) → i < n → get_or m.start i 0 ≤ get_or b i 0)
      → ((i : ℕ) → i < n → get_or s i 0 ≤ min (get_or m.finish i 0) (get_or b i 0 - get_or m.start i 0))
      → ((i : ℕ) → i < n → get_or r i 0 ≡ get_or b i 0 - get_or m.start i 0 + get_or m.finish i 0 - get_or s i 0)
      → Memᴰ r bags
  step b m s r k j lb ls lf lc lr fits absorbed result =
      let changed = less (plus (less b m.start) m.finish) s in
      let caps = meet m.finish (less b m.start) in
      let lm = length_absorbed n b m.start m.finish lb ls lf in
      Memᴰ.cast
      (bag_ext n r changed lr (length_change n b m.start m.finish s lb ls lf lc)
      (λ i h. result i h ∙ sym (get_d_change n b m.start m.finish s lb ls lf lc i)))
      (closed b k m j
      (contains_intro b m.start (lb ∙ sym ls) (λ i h. fits i (subst (λ (x : ℕ). i < x) lb h)))
      changed
      (results_intro b m s
      (contains_intro caps s (lm ∙ sym lc)
      (λ i h.
      subst (λ (x : ℕ). get_or s i 0 ≤ x) (sym (get_d_absorbed n b m.start m.finish lb ls lf i))
      (absorbed i (subst (λ (x : ℕ). i < x) lm h))))))

  -- an exchange whose add is absorbed takes one occurrence, where there are two
  exchange_step : (b : Bag) (c : ℕ) → Memᴰ b bags → Memᴰ (exchange n c) moves → length b ≡ n
      → 2 ≤ get_or b c 0 → Memᴰ (less b (single n c)) bags
  exchange_step b c k j lb two =
      let one = single n c in
      let l1 = length_single n c in
      let twice = single_by_place (λ i o. o + o ≤ get_or b i 0) n c two (λ i. zero-le) in
      step b (exchange n c) one (less b one) k j lb l1 l1 l1 (length_less n b one lb l1)
      (λ i h. let t = twice i h in omega arith)
      (λ i h. let t = twice i h in omega arith)
      (λ i h. let g = get_d_less b one (lb ∙ sym l1) i in omega arith)

  -- exchanges with absorbed adds take away any bag e, one occurrence after the other, where e is below b at each of its properties
  exchange_steps : (fuel : ℕ) (b e : Bag) → sum e < fuel → length b ≡ n → length e ≡ n → Memᴰ b bags
      → ((i : ℕ) → i < n → 0 < get_or e i 0 → Memᴰ (exchange n i) moves × (get_or e i 0 < get_or b i 0))
      → Memᴰ (less b e) bags
  exchange_steps zero b e h lb le k j = absurd (not-suc-le-zero h)
  exchange_steps (suc fuel) b e h lb le k j =
      by_test (is_empty e) (λ z. Memᴰ.cast (less_empty n b e lb le z) k)
      (λ z.
      let f = is_empty_not e z in
      let c = f.0 in
      let c_in : c < n = subst (λ (x : ℕ). c < x) le f.1 in
      let here = j c c_in f.2 in
      let one = single n c in
      let l1 = length_single n c in
      Memᴰ.cast (sym (less_less n b e one lb le l1 (contains_single n e c le f.2)))
      (exchange_steps fuel (less b one) (less e one)
      (omega (arith, less_single_sum n e c le c_in f.2, h))
      (length_less n b one lb l1) (length_less n e one le l1)
      (exchange_step b c k here.0 lb (omega (arith, here.1, f.2)))
      (λ i p q.
      let ge = get_d_less e one (le ∙ sym l1) i in
      let gb = get_d_less b one (lb ∙ sym l1) i in
      let r = j i p (omega (arith, q, ge)) in
      (r.0, omega (arith, q, ge, gb, r.1)))))

-- how the absorbed adds s of one property are charged: first to the rest rule, c of them, and e to the exchange rule. Here b is
-- the count before, d are the deletes, a the adds and x what those have in common
record Charged (b d a s x rd ra c e : ℕ) : Type 0 where
  deletes : x + rd ≡ d
  adds : x + ra ≡ a
  absorbs : c + e ≡ s
  by_rest : c ≤ ra
  by_exchange : e ≤ x
  left : d + s ≤ b

-- a part and the difference are the whole
part : (x y r : ℕ) → x ≤ y → r ≡ y - x → x + r ≡ y
part x y r h e = omega arith

-- what the rest rule cannot take is at most what deletes and adds have in common
excess : (a s x ra c e : ℕ) → s ≤ a → x + ra ≡ a → c ≡ min s ra → c + e ≡ s → e ≤ x
excess a s x ra c e h p q r = omega arith

-- deletes and absorbed adds together are in the bag before
fits_left : (b d a s : ℕ) → d ≤ b → s ≤ min a (b - d) → d + s ≤ b
fits_left b d a s h k = omega arith

-- every count is charged so
charge : (b d a s x rd ra c e : ℕ) → d ≤ b → s ≤ min a (b - d) → x ≡ min d a → rd ≡ d - x → ra ≡ a - x → c ≡ min s ra → e ≡ s - c
    → Charged b d a s x rd ra c e
charge b d a s x rd ra c e h k common less_d less_a by_c by_e =
    let adds = part x a ra (subst (λ (y : ℕ). y ≤ a) (sym common) (min-le_right d a)) less_a in
    let absorbs = part c s e (subst (λ (y : ℕ). y ≤ s) (sym by_c) (min-le_left s ra)) by_e in
    record {
      deletes = part x d rd (subst (λ (y : ℕ). y ≤ d) (sym common) (min-le_left d a)) less_d;
      adds = adds;
      absorbs = absorbs;
      by_rest = subst (λ (y : ℕ). y ≤ ra) (sym by_c) (min-le_right s ra);
      by_exchange = excess a s x ra c e (le_trans k (min-le_left a (b - d))) adds by_c absorbs;
      left = fits_left b d a s h k;
    }

-- document 01's press on a bag: with deletes d and adds a, of which s are absorbed, a closed list leads from b to b - d + a - s
pub chain : (moves : List Move) (bags : List Bag) → Closed moves bags → (n : ℕ) (b d a s : Bag)
    → length b ≡ n → length d ≡ n → length a ≡ n → length s ≡ n
    → Memᴰ b bags → contains b d ≡ true → contains (meet a (less b d)) s ≡ true
    → ((i : ℕ) → i < n → 0 < get_or (meet d a) i 0 → Memᴰ (exchange n i) moves)
    → Memᴰ (rest d a) moves ⊎ ((is_empty (less d (meet d a)) ≡ true) × (is_empty (less a (meet d a)) ≡ true))
    → Memᴰ (less (plus (less b d) a) s) bags
chain moves bags closed n b d a s lb ld la ls k fits absorbed exchanges remains =
    ⊎_elim
    (λ j.
    step moves bags closed n (less b e) (rest d a) c (less (plus (less b d) a) s) exchanged j lbe lrd lra lc lr
    (λ i h. let t = at i in let g = less_e i in omega arith)
    (λ i h. let t = at i in let g = less_e i in le-min t.by_rest (omega arith))
    (λ i h. let t = at i in let g = less_e i in result i ∙ omega arith))
    (λ j.
    Memᴰ.cast
    (bag_ext n (less (plus (less b d) a) s) (less b e) lr lbe
    (λ i h.
    let t = at i in
    let g = less_e i in
    let zd = is_empty_at rd j.0 i in
    let za = is_empty_at ra j.1 i in
    result i ∙ omega arith))
    exchanged)
    remains
  where
    x : Bag
    x = meet d a

    rd : Bag
    rd = less d x

    ra : Bag
    ra = less a x

    c : Bag
    c = meet s ra

    e : Bag
    e = less s c

    lx : length x ≡ n
    lx = length_meet n d a ld la

    lrd : length rd ≡ n
    lrd = length_less n d x ld lx

    lra : length ra ≡ n
    lra = length_less n a x la lx

    lc : length c ≡ n
    lc = length_meet n s ra ls lra

    le : length e ≡ n
    le = length_less n s c ls lc

    lbe : length (less b e) ≡ n
    lbe = length_less n b e lb le

    lr : length (less (plus (less b d) a) s) ≡ n
    lr = length_change n b d a s lb ld la ls

    at : (i : ℕ)
        → Charged (get_or b i 0) (get_or d i 0) (get_or a i 0) (get_or s i 0) (get_or x i 0) (get_or rd i 0) (get_or ra i 0) (get_or c i 0) (get_or e i 0)
    at i =
        charge (get_or b i 0) (get_or d i 0) (get_or a i 0) (get_or s i 0) (get_or x i 0) (get_or rd i 0) (get_or ra i 0) (get_or c i 0) (get_or e i 0)
        (contains_at b d fits i)
        (subst (λ (y : ℕ). get_or s i 0 ≤ y) (get_d_absorbed n b d a lb ld la i) (contains_at (meet a (less b d)) s absorbed i))
        (get_d_meet d a (ld ∙ sym la) i)
        (get_d_less d x (ld ∙ sym lx) i)
        (get_d_less a x (la ∙ sym lx) i)
        (get_d_meet s ra (ls ∙ sym lra) i)
        (get_d_less s c (ls ∙ sym lc) i)

    less_e : (i : ℕ) → get_or (less b e) i 0 ≡ get_or b i 0 - get_or e i 0
    less_e i = get_d_less b e (lb ∙ sym le) i

    result : (i : ℕ) → get_or (less (plus (less b d) a) s) i 0 ≡ get_or b i 0 - get_or d i 0 + get_or a i 0 - get_or s i 0
    result = get_d_change n b d a s lb ld la ls

    exchanged : Memᴰ (less b e) bags
    exchanged =
        exchange_steps moves bags closed n (suc (sum e)) b e (le_refl (suc (sum e))) lb le k
        (λ i h p. let t = at i in (exchanges i h (omega arith), omega arith))
