-- Facts counted by the object at a position: the number of a predicate's facts is the sum of the objects' counts for one of its properties.
use Prim.Native.Nat.{ℕ, zero, suc, ◌+◌, ◌*◌, ◌<◌}
use native.Mathlib.Nat.{zero-add, not-suc-le-zero, le_of_suc-le-suc}
use native.Mathlib.Omega.{arith}
use mathlib.Core.Path.{◌≡◌, refl, sym, ap, ◌∙◌, subst}
use mathlib.Core.Bool.{Bool, true, false, cond, ◌&&◌, ◌||◌}
use mathlib.Core.List.{List, [], ◌∷◌, ◌++◌, map}
use lib.Dec.{eqb, ltb}
use lib.ListN.{length, get_or, take, length-append, length-map, get_or-append}
use lib.Seq.{get_or-append-add}
use borrow.Author.Tests.{eqb-true, ltb-true}
use Rattle.laws.specs.Lists.{all, count, up_to, sum, member, any, distinct, stands_at}
use Rattle.laws.specs.Bags.{restrict}
use Rattle.laws.proofs.Tests.{never, and_left, and_right}
use Rattle.laws.proofs.Lists.{all_at, count_ext, count_none, mem_get_d, length_up_to, get_d_up_to, member_intro}
use Rattle.laws.proofs.Mapped.{get_d_map}
use Rattle.laws.proofs.Sums.{sum_one_more, sum_ext, sum_zero, sum_same, count_up_to, count_members, stands_at_get_d}
use Rattle.model.specs.Card.{Atom, Task}
use Rattle.model.specs.Writer.{known}
use Rattle.model.specs.Strips.{State}
use Rattle.model.specs.Transitions
use Rattle.model.specs.Transitions.{Property, properties_from, occurs, bag_of}
use Rattle.model.specs.Spaces.{condition}
use Rattle.model.specs.Lines.{count_of, property_number, of_predicate}
use Rattle.model.specs.Truth.{count_in}
use Rattle.model.proofs.Order.{known_arity, known_arguments}

-- the properties of one predicate
own : ℕ → ℕ → List Property
own p arity = map (λ i. record { predicate = p; position = i }) (up_to arity)

length_own : (p arity : ℕ) → length (own p arity) ≡ arity
unfolding own
length_own p arity = length-map (up_to arity) _ ∙ length_up_to arity

own_at : (p arity i : ℕ) (d : Property) → i < arity → get_or (own p arity) i d ≡ record { predicate = p; position = i }
unfolding own
own_at p arity i d h =
    get_d_map (λ i. record { predicate = p; position = i }) (up_to arity) i 0 d (subst (λ (n : ℕ). i < n) (sym (length_up_to arity)) h)
    ∙ ap {B = Property} (λ j. record { predicate = p; position = j }) (get_d_up_to arity i 0 h)

-- a property's number is its place
pub property_at : (start p i : ℕ) (arities : List ℕ) (d : Property) → p < length arities → i < get_or arities p 0
    → get_or (properties_from start arities) (sum (take p arities) + i) d ≡ record { predicate = start + p; position = i }
unfolding properties_from sum own
property_at start p i [] d hp hi = absurd (not-suc-le-zero hp)
property_at start zero i (a ∷ arities) d hp hi =
    ap (λ (k : ℕ). get_or (own start a ++ properties_from (suc start) arities) k d) (zero-add i)
    ∙ get_or-append (own start a) (properties_from (suc start) arities) d i (subst (λ (n : ℕ). i < n) (sym (length_own start a)) hi)
    ∙ own_at start a i d hi
    ∙ ap {B = Property} (λ q. record { predicate = q; position = i }) (omega arith)
property_at start (suc p) i (a ∷ arities) d hp hi =
    ap (λ (k : ℕ). get_or (own start a ++ properties_from (suc start) arities) k d) (place (length_own start a))
    ∙ get_or-append-add (own start a) (properties_from (suc start) arities) (sum (take p arities) + i) d
    ∙ property_at (suc start) p i arities d (le_of_suc-le-suc hp) hi
    ∙ ap {B = Property} (λ q. record { predicate = q; position = i }) (omega arith)
  where
    place : length (own start a) ≡ a → a + sum (take p arities) + i ≡ length (own start a) + (sum (take p arities) + i)
    place e = omega arith

pub property_below : (start p i : ℕ) (arities : List ℕ) → p < length arities → i < get_or arities p 0
    → sum (take p arities) + i < length (properties_from start arities)
unfolding properties_from sum own
property_below start p i [] hp hi = absurd (not-suc-le-zero hp)
property_below start zero i (a ∷ arities) hp hi =
    let e = length-append (own start a) (properties_from (suc start) arities) in
    let f = length_own start a in
    omega arith
property_below start (suc p) i (a ∷ arities) hp hi =
    let e = length-append (own start a) (properties_from (suc start) arities) in
    let f = length_own start a in
    let h = property_below (suc start) p i arities (le_of_suc-le-suc hp) hi in
    omega arith

-- the count of an object for the property of predicate p at position i
pub count_in_says : (t : Task) (s : State) (p i o : ℕ) → p < length t.arities → i < get_or t.arities p 0
    → count_in t s o (property_number t p i) ≡ count (λ a. eqb p a.predicate && stands_at o i a.arguments) s
unfolding count_in bag_of property_number Transitions.properties occurs
count_in_says t s p i o hp hi =
    get_d_map (λ c. count (λ a. occurs o a c) s) (properties_from 0 t.arities) (sum (take p t.arities) + i)
    (record { predicate = 0; position = 0 })
    0
    (property_below 0 p i t.arities hp hi)
    ∙ ap
    (λ (c : Property). count (λ a. occurs o a c) s)
    (property_at 0 p i t.arities (record { predicate = 0; position = 0 }) hp hi
    ∙ ap {B = Property} (λ q. record { predicate = q; position = i }) (zero-add p))

-- a known fact has one object at each position
objects_of_fact : (t : Task) (p i : ℕ) (a : Atom) → i < get_or t.arities p 0 → known t.arities t.objects a ≡ true
    → count (λ o. eqb p a.predicate && stands_at o i a.arguments) (up_to t.objects) ≡ cond (eqb p a.predicate) 1 0
objects_of_fact t p i a hi k = go (eqb p a.predicate) refl
  where
    go : (b : Bool) → eqb p a.predicate ≡ b
        → count (λ o. b && stands_at o i a.arguments) (up_to t.objects) ≡ cond b 1 0
    go true e =
        let inside : i < length a.arguments =
        subst (λ (n : ℕ). i < n)
        (ap (λ (q : ℕ). get_or t.arities q 0) (eqb-true p a.predicate e) ∙ sym (known_arity t.arities t.objects a k))
        hi in
        count_ext (λ o. stands_at o i a.arguments) (λ o. eqb o (get_or a.arguments i 0)) (up_to t.objects)
        (λ o m. stands_at_get_d o i a.arguments inside)
        ∙ count_up_to t.objects (get_or a.arguments i 0)
        (ltb-true (get_or a.arguments i 0) t.objects
        (all_at (λ x. ltb x t.objects) a.arguments (known_arguments t.arities t.objects a k) (get_or a.arguments i 0)
        (mem_get_d a.arguments i 0 inside)))
    go false e = count_none (λ o. false) (up_to t.objects) (λ o m. refl)

-- facts counted by the object at a position
pub facts_by_object : (t : Task) (p i : ℕ) (s : State) → i < get_or t.arities p 0 → all (known t.arities t.objects) s ≡ true
    → of_predicate p s
    ≡ sum (map (λ o. count (λ a. eqb p a.predicate && stands_at o i a.arguments) s) (up_to t.objects))
unfolding of_predicate count all
facts_by_object t p i [] hi k = sym (sum_zero (up_to t.objects))
facts_by_object t p i (a ∷ s) hi k =
    step (eqb p a.predicate) (facts_by_object t p i s hi (and_right (known t.arities t.objects a) _ k))
    (objects_of_fact t p i a hi (and_left (known t.arities t.objects a) _ k))
    ∙ sym
    (sum_one_more (λ o. eqb p a.predicate && stands_at o i a.arguments)
    (λ o. count (λ b. eqb p b.predicate && stands_at o i b.arguments) s)
    (up_to t.objects))
  where
    step : (b : Bool)
        → of_predicate p s ≡ sum (map (λ o. count (λ b. eqb p b.predicate && stands_at o i b.arguments) s) (up_to t.objects))
        → count (λ o. eqb p a.predicate && stands_at o i a.arguments) (up_to t.objects) ≡ cond b 1 0
        → cond b (suc (of_predicate p s)) (of_predicate p s)
        ≡ count (λ o. eqb p a.predicate && stands_at o i a.arguments) (up_to t.objects)
        + sum (map (λ o. count (λ b. eqb p b.predicate && stands_at o i b.arguments) s) (up_to t.objects))
    step true e f = omega arith
    step false e f = omega arith

-- where members have one count and the others none, the number of facts is that count times the number of members
pub total_by_members : (t : Task) (p i each : ℕ) (s : State) (members : List ℕ) → p < length t.arities
    → i < get_or t.arities p 0 → all (known t.arities t.objects) s ≡ true → distinct members ≡ true
    → ((o : ℕ) → member o members ≡ true → o < t.objects)
    → ((o : ℕ) → member o members ≡ true → count_in t s o (property_number t p i) ≡ each)
    → ((o : ℕ) → member o members ≡ false → count_in t s o (property_number t p i) ≡ 0)
    → of_predicate p s ≡ each * length members
total_by_members t p i each s members hp hi k d below inside outside =
    facts_by_object t p i s hi k
    ∙ sum_ext (λ o. count (λ a. eqb p a.predicate && stands_at o i a.arguments) s) (λ o. cond (member o members) each 0) (up_to t.objects)
    (λ o m. sym (count_in_says t s p i o hp hi) ∙ counted o (member o members) refl)
    ∙ sum_same (λ o. member o members) each (up_to t.objects)
    ∙ ap (λ (n : ℕ). each * n) (count_members t.objects members d (λ o m. below o (member_intro o members m)))
  where
    counted : (o : ℕ) (b : Bool) → member o members ≡ b → count_in t s o (property_number t p i) ≡ cond b each 0
    counted o true e = inside o e
    counted o false e = outside o e

-- the count of a listed property among counts made property by property
count_of_map : (f : ℕ → ℕ) (ds : List ℕ) (c : ℕ) → member c ds ≡ true → count_of ds c (map f ds) ≡ f c
unfolding count_of member any
count_of_map f [] c m = never (sym m)
count_of_map f (d ∷ ds) c m = go (eqb c d) refl (count_of_map f ds c) m
  where
    go : (b : Bool) → eqb c d ≡ b → (any (eqb c) ds ≡ true → count_of ds c (map f ds) ≡ f c) → (b || any (eqb c) ds) ≡ true
        → cond b (f d) (count_of ds c (map f ds)) ≡ f c
    go true e later h = ap f (sym (eqb-true c d e))
    go false e later h = later h

-- a condition's count for a property of its space is the object's count
pub count_of_condition : (t : Task) (properties : List ℕ) (s : State) (o c : ℕ) → member c properties ≡ true
    → count_of properties c (condition t properties s o) ≡ count_in t s o c
unfolding condition restrict count_in
count_of_condition t properties s o c m =
    count_of_map (λ d. get_or (bag_of (Transitions.properties t) s o) d 0) properties c m
