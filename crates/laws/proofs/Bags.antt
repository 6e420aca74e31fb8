-- Bags, for any number of properties: their operations property by property, containment as an order; and what lists of them have.
use Prim.Native.Nat.{ℕ, zero, suc, ◌+◌, ◌-◌, ◌≤◌, ◌<◌, min, zero-le, suc-le-suc}
use native.Mathlib.Nat.{suc_inj, suc-ne-zero, le_refl}
use native.Mathlib.Omega.{arith}
use mathlib.Core.Path.{◌≡◌, refl, sym, ap, ◌∙◌, subst}
use mathlib.Core.Bool.{Bool, true, false, cond}
use mathlib.Core.List.{List, [], ◌∷◌, zip_with, Memᴰ}
use mathlib.Core.List.Memᴰ
use lib.Dec.{leb, eqb, ltb}
use lib.ListN.{length, get_or, length-map, get_or-eq_default}
use lib.Seq.{ext_get_or}
use borrow.Author.Tests.{eqb-true, eqb-false, eq-eqb, ne_eqb, leb-true, le-leb, ltb-true, ltb-false, lt-ltb}
use Rattle.laws.specs.Lists.{all, up_to, sum, same}
use Rattle.laws.specs.Bags.{Bag, plus, less, meet, contains, is_empty, single, support, restrict, listed}
use Rattle.laws.proofs.Tests.{never, and_left, and_right, and_intro, by_test, same_test, cond_true, cond_false}
use Rattle.laws.proofs.Mapped.{get_d_map}
use Rattle.laws.proofs.Lists.{all_at, all_intro, any_at, any_intro, keep_at, keep_intro, mem_get_d, place_of, length_up_to, up_to_at, up_to_intro}
use Rattle.laws.proofs.Lists.{get_d_up_to, same_eq, same_refl}

-- ---- an operation that goes property by property

-- it keeps the length
pub length_zip_with : (f : ℕ → ℕ → ℕ) (n : ℕ) (a b : Bag) → length a ≡ n → length b ≡ n → length (zip_with f a b) ≡ n
unfolding zip_with
length_zip_with f n [] b p q = p
length_zip_with f n (x ∷ a) [] p q = q
length_zip_with f zero (x ∷ a) (y ∷ b) p q = absurd (suc-ne-zero (length a) p)
length_zip_with f (suc n) (x ∷ a) (y ∷ b) p q = ap suc (length_zip_with f n a b (suc_inj p) (suc_inj q))

-- each count is made from the two counts at its place
pub get_d_zip_with : (f : ℕ → ℕ → ℕ) → f 0 0 ≡ 0 → (a b : Bag) → length a ≡ length b → (i : ℕ)
    → get_or (zip_with f a b) i 0 ≡ f (get_or a i 0) (get_or b i 0)
unfolding zip_with
get_d_zip_with f z [] [] p i = sym z
get_d_zip_with f z [] (y ∷ b) p i = absurd (suc-ne-zero (length b) (sym p))
get_d_zip_with f z (x ∷ a) [] p i = absurd (suc-ne-zero (length a) p)
get_d_zip_with f z (x ∷ a) (y ∷ b) p zero = refl
get_d_zip_with f z (x ∷ a) (y ∷ b) p (suc i) = get_d_zip_with f z a b (suc_inj p) i

-- sum, difference and intersection are such operations
plus_zip : (a b : Bag) → plus a b ≡ zip_with ◌+◌ a b
unfolding plus zip_with
plus_zip [] b = refl
plus_zip (x ∷ a) [] = refl
plus_zip (x ∷ a) (y ∷ b) = ap (λ (l : Bag). (x + y) ∷ l) (plus_zip a b)

less_zip : (a b : Bag) → less a b ≡ zip_with ◌-◌ a b
unfolding less zip_with
less_zip [] b = refl
less_zip (x ∷ a) [] = refl
less_zip (x ∷ a) (y ∷ b) = ap (λ (l : Bag). (x - y) ∷ l) (less_zip a b)

meet_zip : (a b : Bag) → meet a b ≡ zip_with min a b
unfolding meet zip_with
meet_zip [] b = refl
meet_zip (x ∷ a) [] = refl
meet_zip (x ∷ a) (y ∷ b) = ap (λ (l : Bag). min x y ∷ l) (meet_zip a b)

-- so they keep the length
pub length_plus : (n : ℕ) (a b : Bag) → length a ≡ n → length b ≡ n → length (plus a b) ≡ n
length_plus n a b p q = ap length (plus_zip a b) ∙ length_zip_with ◌+◌ n a b p q

pub length_less : (n : ℕ) (a b : Bag) → length a ≡ n → length b ≡ n → length (less a b) ≡ n
length_less n a b p q = ap length (less_zip a b) ∙ length_zip_with ◌-◌ n a b p q

pub length_meet : (n : ℕ) (a b : Bag) → length a ≡ n → length b ≡ n → length (meet a b) ≡ n
length_meet n a b p q = ap length (meet_zip a b) ∙ length_zip_with min n a b p q

-- their counts
pub get_d_plus : (a b : Bag) → length a ≡ length b → (i : ℕ) → get_or (plus a b) i 0 ≡ get_or a i 0 + get_or b i 0
get_d_plus a b p i = ap (λ (l : Bag). get_or l i 0) (plus_zip a b) ∙ get_d_zip_with ◌+◌ refl a b p i

pub get_d_less : (a b : Bag) → length a ≡ length b → (i : ℕ) → get_or (less a b) i 0 ≡ get_or a i 0 - get_or b i 0
get_d_less a b p i = ap (λ (l : Bag). get_or l i 0) (less_zip a b) ∙ get_d_zip_with ◌-◌ refl a b p i

pub get_d_meet : (a b : Bag) → length a ≡ length b → (i : ℕ) → get_or (meet a b) i 0 ≡ min (get_or a i 0) (get_or b i 0)
get_d_meet a b p i = ap (λ (l : Bag). get_or l i 0) (meet_zip a b) ∙ get_d_zip_with min refl a b p i

-- a change of a bag: d taken away, a put in, s of that absorbed
pub length_change : (n : ℕ) (b d a s : Bag) → length b ≡ n → length d ≡ n → length a ≡ n → length s ≡ n
    → length (less (plus (less b d) a) s) ≡ n
length_change n b d a s p q r t = length_less n (plus (less b d) a) s (length_plus n (less b d) a (length_less n b d p q) r) t

pub get_d_change : (n : ℕ) (b d a s : Bag) → length b ≡ n → length d ≡ n → length a ≡ n → length s ≡ n
    → (i : ℕ) → get_or (less (plus (less b d) a) s) i 0 ≡ get_or b i 0 - get_or d i 0 + get_or a i 0 - get_or s i 0
get_d_change n b d a s p q r t i =
    let l = length_less n b d p q in
    get_d_less (plus (less b d) a) s (length_plus n (less b d) a l r ∙ sym t) i
    ∙ ap (λ (x : ℕ). x - get_or s i 0) (get_d_plus (less b d) a (l ∙ sym r) i)
    ∙ ap (λ (x : ℕ). x + get_or a i 0 - get_or s i 0) (get_d_less b d (p ∙ sym q) i)

-- how much of it can be absorbed
pub length_absorbed : (n : ℕ) (b d a : Bag) → length b ≡ n → length d ≡ n → length a ≡ n → length (meet a (less b d)) ≡ n
length_absorbed n b d a p q r = length_meet n a (less b d) r (length_less n b d p q)

pub get_d_absorbed : (n : ℕ) (b d a : Bag) → length b ≡ n → length d ≡ n → length a ≡ n
    → (i : ℕ) → get_or (meet a (less b d)) i 0 ≡ min (get_or a i 0) (get_or b i 0 - get_or d i 0)
get_d_absorbed n b d a p q r i =
    get_d_meet a (less b d) (r ∙ sym (length_less n b d p q)) i ∙ ap (min (get_or a i 0)) (get_d_less b d (p ∙ sym q) i)

-- bags of one length with the same counts are the same
pub bag_ext : (n : ℕ) (a b : Bag) → length a ≡ n → length b ≡ n → ((i : ℕ) → i < n → get_or a i 0 ≡ get_or b i 0) → a ≡ b
bag_ext n a b p q h = ext_get_or 0 a b (p ∙ sym q) (λ i k. h i (subst (λ (m : ℕ). i < m) p k))

-- ---- containment

-- a bag contains only bags of its own length, and has no smaller count
pub contains_length : (b a : Bag) → contains b a ≡ true → length b ≡ length a
unfolding contains
contains_length [] [] e = refl
contains_length [] (y ∷ a) e = never (sym e)
contains_length (x ∷ b) [] e = never (sym e)
contains_length (x ∷ b) (y ∷ a) e = ap suc (contains_length b a (and_right (leb y x) (contains b a) e))

pub contains_at : (b a : Bag) → contains b a ≡ true → (i : ℕ) → get_or a i 0 ≤ get_or b i 0
unfolding contains
contains_at [] [] e i = le_refl 0
contains_at [] (y ∷ a) e i = never (sym e)
contains_at (x ∷ b) [] e i = never (sym e)
contains_at (x ∷ b) (y ∷ a) e zero = leb-true y x (and_left (leb y x) (contains b a) e)
contains_at (x ∷ b) (y ∷ a) e (suc i) = contains_at b a (and_right (leb y x) (contains b a) e) i

pub contains_intro : (b a : Bag) → length b ≡ length a → ((i : ℕ) → i < length b → get_or a i 0 ≤ get_or b i 0) → contains b a ≡ true
unfolding contains
contains_intro [] [] p h = refl
contains_intro [] (y ∷ a) p h = absurd (suc-ne-zero (length a) (sym p))
contains_intro (x ∷ b) [] p h = absurd (suc-ne-zero (length b) p)
contains_intro (x ∷ b) (y ∷ a) p h =
    and_intro (leb y x) (contains b a) (le-leb y x (h 0 (suc-le-suc zero-le)))
    (contains_intro b a (suc_inj p) (λ i k. h (suc i) (suc-le-suc k)))

-- containment is an order
pub contains_refl : (a : Bag) → contains a a ≡ true
contains_refl a = contains_intro a a refl (λ i h. le_refl (get_or a i 0))

pub contains_trans : (c b a : Bag) → contains c b ≡ true → contains b a ≡ true → contains c a ≡ true
contains_trans c b a p q =
    contains_intro c a (contains_length c b p ∙ contains_length b a q)
    (λ i h. omega (arith, contains_at c b p i, contains_at b a q i))

pub contains_antisym : (a b : Bag) → contains a b ≡ true → contains b a ≡ true → a ≡ b
contains_antisym a b p q =
    bag_ext (length a) a b refl (contains_length b a q) (λ i h. omega (arith, contains_at a b p i, contains_at b a q i))

-- a bag taken away in two parts
pub less_less : (n : ℕ) (b e o : Bag) → length b ≡ n → length e ≡ n → length o ≡ n → contains e o ≡ true
    → less (less b o) (less e o) ≡ less b e
less_less n b e o p q r k =
    let lb = length_less n b o p r in
    let le = length_less n e o q r in
    bag_ext n (less (less b o) (less e o)) (less b e) (length_less n (less b o) (less e o) lb le) (length_less n b e p q)
    (λ i h.
    let under = contains_at e o k i in
    omega (
      arith,
      get_d_less (less b o) (less e o) (lb ∙ sym le) i,
      get_d_less b o (p ∙ sym r) i,
      get_d_less e o (q ∙ sym r) i,
      get_d_less b e (p ∙ sym q) i,
    ))

-- a bag has at least as many occurrences in all as one that it contains, and more where the two differ
pub contains_sum : (b a : Bag) → contains b a ≡ true → sum a ≤ sum b
unfolding contains sum
contains_sum [] [] e = le_refl 0
contains_sum [] (y ∷ a) e = never (sym e)
contains_sum (x ∷ b) [] e = never (sym e)
contains_sum (x ∷ b) (y ∷ a) e =
    omega (arith, leb-true y x (and_left (leb y x) (contains b a) e), contains_sum b a (and_right (leb y x) (contains b a) e))

pub contains_same_sum : (b a : Bag) → contains b a ≡ true → sum b ≤ sum a → b ≡ a
unfolding contains sum
contains_same_sum [] [] e h = refl
contains_same_sum [] (y ∷ a) e h = never (sym e)
contains_same_sum (x ∷ b) [] e h = never (sym e)
contains_same_sum (x ∷ b) (y ∷ a) e h =
    let p = leb-true y x (and_left (leb y x) (contains b a) e) in
    let q = contains_sum b a (and_right (leb y x) (contains b a) e) in
    ap (λ (n : ℕ). n ∷ b) (first p q) ∙ ap (λ (l : Bag). y ∷ l) (contains_same_sum b a (and_right (leb y x) (contains b a) e) (rest p q))
  where
    first : y ≤ x → sum a ≤ sum b → x ≡ y
    first p q = omega arith

    rest : y ≤ x → sum a ≤ sum b → sum b ≤ sum a
    rest p q = omega arith

pub contains_sum_less : (b a : Bag) → contains b a ≡ true → (b ≡ a → ⊥) → sum a < sum b
contains_sum_less b a p d =
    by_test (ltb (sum a) (sum b)) (ltb-true (sum a) (sum b)) (λ f. absurd (d (contains_same_sum b a p (ltb-false (sum a) (sum b) f))))

-- ---- a bag on a list

-- the test for a bag on a list is membership
pub listed_at : (bags : List Bag) (b : Bag) → listed bags b ≡ true → Memᴰ b bags
unfolding listed
listed_at bags b e = let r = any_at (same b) bags e in Memᴰ.cast (same_eq b r.0 r.2) r.1

pub listed_intro : (bags : List Bag) (b : Bag) → Memᴰ b bags → listed bags b ≡ true
unfolding listed
listed_intro bags b k = any_intro (same b) bags b k (same_refl b)

pub listed_not : (bags : List Bag) (b : Bag) → listed bags b ≡ false → Memᴰ b bags → ⊥
listed_not bags b e k = never (sym (listed_intro bags b k) ∙ e)

-- ---- an empty bag, a bag of one occurrence, the properties of a bag

-- an empty bag is one whose counts are all 0
pub is_empty_at : (b : Bag) → is_empty b ≡ true → (i : ℕ) → get_or b i 0 ≡ 0
unfolding is_empty
is_empty_at b e i =
    by_test (ltb i (length b))
    (λ p. sym (eqb-true 0 (get_or b i 0) (all_at (eqb 0) b e (get_or b i 0) (mem_get_d b i 0 (ltb-true i (length b) p)))))
    (λ q. get_or-eq_default b 0 (ltb-false i (length b) q))

pub is_empty_intro : (b : Bag) → ((i : ℕ) → i < length b → get_or b i 0 ≡ 0) → is_empty b ≡ true
unfolding is_empty
is_empty_intro b h =
    all_intro (eqb 0) b (λ x k. let r = place_of b x 0 k in eq-eqb 0 x (sym (sym r.2 ∙ h r.0 r.1)))

-- to take an empty bag away changes nothing
pub less_empty : (n : ℕ) (b e : Bag) → length b ≡ n → length e ≡ n → is_empty e ≡ true → less b e ≡ b
less_empty n b e p q z =
    bag_ext n (less b e) b (length_less n b e p q) p (λ i h. omega (arith, get_d_less b e (p ∙ sym q) i, is_empty_at e z i))

-- a bag that is not empty has a property
pub is_empty_not : (b : Bag) → is_empty b ≡ false → (i : ℕ) × (i < length b) × (0 < get_or b i 0)
unfolding is_empty all
is_empty_not [] e = never e
is_empty_not (zero ∷ b) e = let r = is_empty_not b e in (suc r.0, suc-le-suc r.1, r.2)
is_empty_not (suc x ∷ b) e = (0, suc-le-suc zero-le, suc-le-suc zero-le)

-- the count at a place of a mapped list

-- the bag of one occurrence: its length, and its count at its property and elsewhere
pub length_single : (n c : ℕ) → length (single n c) ≡ n
unfolding single
length_single n c = length-map (up_to n) (λ d. cond (eqb c d) 1 0) ∙ length_up_to n

pub get_d_single : (n c i : ℕ) → i < n → get_or (single n c) i 0 ≡ cond (eqb c i) 1 0
unfolding single
get_d_single n c i h =
    get_d_map (λ d. cond (eqb c d) 1 0) (up_to n) i 0 0 (subst (λ (m : ℕ). i < m) (sym (length_up_to n)) h)
    ∙ ap (λ (d : ℕ). cond (eqb c d) 1 0) (get_d_up_to n i 0 h)

pub single_here : (n c : ℕ) → c < n → get_or (single n c) c 0 ≡ 1
single_here n c h = get_d_single n c c h ∙ cond_true (eqb c c) 1 0 (eq-eqb c c refl)

pub single_elsewhere : (n c i : ℕ) → i < n → (c ≡ i → ⊥) → get_or (single n c) i 0 ≡ 0
single_elsewhere n c i h d = get_d_single n c i h ∙ cond_false (eqb c i) 1 0 (ne_eqb c i d)

-- what holds of one occurrence at the property, and of none elsewhere, holds of every count
pub single_by_place : (Q : ℕ → ℕ → Type 0) (n c : ℕ) → Q c 1 → ((i : ℕ) → Q i 0) → (i : ℕ) → i < n → Q i (get_or (single n c) i 0)
single_by_place Q n c here elsewhere i h =
    by_test (eqb c i)
    (λ e.
    let p = eqb-true c i e in
    subst (Q i) (sym (subst (λ (x : ℕ). get_or (single n x) i 0 ≡ 1) (sym p) (single_here n i h))) (subst (λ (x : ℕ). Q x 1) p here))
    (λ e. subst (Q i) (sym (single_elsewhere n c i h (eqb-false c i e))) (elsewhere i))

-- a bag without one of its occurrences has fewer in all
pub less_single_sum : (n : ℕ) (b : Bag) (c : ℕ) → length b ≡ n → c < n → 0 < get_or b c 0 → sum (less b (single n c)) < sum b
less_single_sum n b c p h k =
    let one = single n c in
    let l = length_single n c in
    contains_sum_less b (less b one)
    (contains_intro b (less b one) (p ∙ sym (length_less n b one p l)) (λ i j. omega (arith, get_d_less b one (p ∙ sym l) i)))
    (λ e. omega (arith, k, ap (λ (x : Bag). get_or x c 0) e, get_d_less b one (p ∙ sym l) c, single_here n c h))

-- a bag contains one occurrence of each of its properties
pub contains_single : (n : ℕ) (b : Bag) (c : ℕ) → length b ≡ n → 0 < get_or b c 0 → contains b (single n c) ≡ true
contains_single n b c p k =
    contains_intro b (single n c) (p ∙ sym (length_single n c))
    (λ i h. single_by_place (λ i o. o ≤ get_or b i 0) n c k (λ i. zero-le) i (subst (λ (m : ℕ). i < m) p h))

-- the distinct properties are those with a count above 0
pub support_at_lem : (b : Bag) (c : ℕ) → Memᴰ c (support b) → (c < length b) × (0 < get_or b c 0)
unfolding support
support_at_lem b c k =
    let r = keep_at (λ c. ltb 0 (get_or b c 0)) (up_to (length b)) c k in (up_to_at (length b) c r.0, ltb-true 0 (get_or b c 0) r.1)

pub support_intro : (b : Bag) (c : ℕ) → c < length b → 0 < get_or b c 0 → Memᴰ c (support b)
unfolding support
support_intro b c h k = keep_intro (λ c. ltb 0 (get_or b c 0)) (up_to (length b)) c (up_to_intro (length b) c h) (lt-ltb 0 (get_or b c 0) k)

-- ---- the counts of some properties

-- one count for each property given
pub length_restrict : (cs : List ℕ) (b : Bag) → length (restrict cs b) ≡ length cs
unfolding restrict
length_restrict cs b = length-map cs (λ c. get_or b c 0)

pub get_d_restrict : (cs : List ℕ) (b : Bag) (i : ℕ) → i < length cs → get_or (restrict cs b) i 0 ≡ get_or b (get_or cs i 0) 0
unfolding restrict
get_d_restrict cs b i h = get_d_map (λ c. get_or b c 0) cs i 0 0 h

-- the operations on some of the properties
pub restrict_plus : (cs : List ℕ) (a b : Bag) → length a ≡ length b → restrict cs (plus a b) ≡ plus (restrict cs a) (restrict cs b)
unfolding restrict plus
restrict_plus [] a b p = refl
restrict_plus (c ∷ cs) a b p = λ i. get_d_plus a b p c i ∷ restrict_plus cs a b p i

pub restrict_less : (cs : List ℕ) (a b : Bag) → length a ≡ length b → restrict cs (less a b) ≡ less (restrict cs a) (restrict cs b)
unfolding restrict less
restrict_less [] a b p = refl
restrict_less (c ∷ cs) a b p = λ i. get_d_less a b p c i ∷ restrict_less cs a b p i

pub restrict_meet : (cs : List ℕ) (a b : Bag) → length a ≡ length b → restrict cs (meet a b) ≡ meet (restrict cs a) (restrict cs b)
unfolding restrict meet
restrict_meet [] a b p = refl
restrict_meet (c ∷ cs) a b p = λ i. get_d_meet a b p c i ∷ restrict_meet cs a b p i

pub restrict_contains : (cs : List ℕ) (b a : Bag) → contains b a ≡ true → contains (restrict cs b) (restrict cs a) ≡ true
restrict_contains cs b a e =
    contains_intro (restrict cs b) (restrict cs a) (length_restrict cs b ∙ sym (length_restrict cs a))
    (λ i h.
    let k : i < length cs = subst (λ (n : ℕ). i < n) (length_restrict cs b) h in
    omega (arith, contains_at b a e (get_or cs i 0), get_d_restrict cs b i k, get_d_restrict cs a i k))

pub restrict_is_empty : (cs : List ℕ) (b : Bag) → is_empty b ≡ true → is_empty (restrict cs b) ≡ true
restrict_is_empty cs b e =
    is_empty_intro (restrict cs b)
    (λ i h. get_d_restrict cs b i (subst (λ (n : ℕ). i < n) (length_restrict cs b) h) ∙ is_empty_at b e (get_or cs i 0))

-- one occurrence of one of the properties, of which none stands twice
pub restrict_single : (cs : List ℕ) (size i : ℕ) → i < length cs → ((c : ℕ) → Memᴰ c cs → c < size)
    → ((j k : ℕ) → j < length cs → k < length cs → get_or cs j 0 ≡ get_or cs k 0 → j ≡ k)
    → restrict cs (single size (get_or cs i 0)) ≡ single (length cs) i
restrict_single cs size i h below once =
    bag_ext (length cs) (restrict cs (single size (get_or cs i 0))) (single (length cs) i)
    (length_restrict cs (single size (get_or cs i 0))) (length_single (length cs) i)
    (λ j k.
    get_d_restrict cs (single size (get_or cs i 0)) j k
    ∙ get_d_single size (get_or cs i 0) (get_or cs j 0) (below (get_or cs j 0) (mem_get_d cs j 0 k))
    ∙ ap (λ (t : Bool). cond t 1 0) (agree j k)
    ∙ sym (get_d_single (length cs) i j k))
  where
    agree : (j : ℕ) → j < length cs → eqb (get_or cs i 0) (get_or cs j 0) ≡ eqb i j
    agree j k =
        same_test (eqb (get_or cs i 0) (get_or cs j 0)) (eqb i j)
        (λ e. eq-eqb i j (once i j h k (eqb-true (get_or cs i 0) (get_or cs j 0) e)))
        (λ e. eq-eqb (get_or cs i 0) (get_or cs j 0) (ap (λ (c : ℕ). get_or cs c 0) (eqb-true i j e)))
