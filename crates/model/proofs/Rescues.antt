-- The rescue of mixed spaces, document 02, No. 5: that there are rounds enough, and what is left of the space.
--
-- rescue_rounds: as many rounds as a mixed space has properties are enough. A mixed space has a hidden attribute among its properties, so
-- that each round drops a property, and with further rounds the same comes out.
-- rescue_only_mixed: a space of another kind has no rescue. rescue_one: a mixed space has at most one.
-- rescue_within: what is rescued is of kind H. It has a property at least, its properties are properties of the mixed space, none of them
-- is a hidden attribute of it, and its members are members of the mixed space.
use Prim.Native.Nat.{ℕ, zero, suc, ◌≤◌, ◌<◌, zero-le, suc-le-suc}
use native.Mathlib.Nat.{le_refl}
use native.Mathlib.Omega.{arith}
use mathlib.Core.Path.{◌≡◌, refl, sym, ap, ◌∙◌, subst}
use mathlib.Core.Bool.{Bool, true, false, cond, not, ◌&&◌, ◌||◌}
use mathlib.Core.Logic.{⊎_elim}
use mathlib.Core.List.Memᴰ
use mathlib.Core.List.{List, [], ◌∷◌, ◌++◌, map, Memᴰ}
use lib.Dec.{leb, eqb, ltb}
use lib.ListN.{length, get_or}
use borrow.Author.Tests.{ltb-false}
use Rattle.laws.specs.Lists.{any, keep, up_to, member}
use Rattle.laws.specs.Bags.{Bag, is_empty, strictly_contains, listed, restrict}
use Rattle.laws.proofs.Tests.{never, or_false_left, not-true, to_not_false, by_test}
use Rattle.laws.proofs.Lists.{any_at, any_none, keep_at, keep_intro, up_to_at, up_to_intro, mem_get_d, place_of, member_intro, member_not}
use Rattle.laws.proofs.Bags.{contains_length, contains_at, bag_ext, length_restrict}
use Rattle.laws.proofs.Comparisons.{strictly_at}
use Rattle.model.specs.Card.{Task}
use Rattle.model.specs.Transitions.{properties, bag_of}
use Rattle.model.specs.Spaces.{Space, Kind, static, attribute, property, mixed, wide, rescued, condition, kind_of}
use Rattle.model.specs.Extension.{Move, Outcome, Search, Extension, most_conditions, first_inside, larger_at, hidden_by}
use Rattle.model.specs.Extension.{ending, appending, starting, test, unless_ended, offer, explore, extend_from, extend}
use Rattle.model.specs.Analysis.{Analysis, moves_of, initial_conditions, kind_for, hidden_for, analyse_property_space, analyse_as, analyse}
use Rattle.model.specs.Rescue.{without_hidden, narrowed, lost, rescued_as, rescue, if_mixed, rescues}
use Rattle.model.proofs.JoinedLists.{adjoin_all_from}
use Rattle.model.proofs.ListsPerStart.{onward_has, offer_takes, explore_keeps, explore_all, results_sized}

-- ---- a result that is mixed has a larger count at some place

-- where a bag strictly contains one of a list, the first such is on the list
first_inside_lem : (b : Bag) (bags : List Bag) → any (strictly_contains b) bags ≡ true
    → Memᴰ (first_inside b bags) bags × (strictly_contains b (first_inside b bags) ≡ true)
unfolding first_inside any
first_inside_lem b [] e = never (sym e)
first_inside_lem b (c ∷ bags) e = go (strictly_contains b c) refl (first_inside_lem b bags) e
  where
    go : (here : Bool) → strictly_contains b c ≡ here
        → (any (strictly_contains b) bags ≡ true → Memᴰ (first_inside b bags) bags × (strictly_contains b (first_inside b bags) ≡ true))
        → (here || any (strictly_contains b) bags) ≡ true
        → (let first = cond here c (first_inside b bags) in Memᴰ first (c ∷ bags) × (strictly_contains b first ≡ true))
    go true p later f = (Memᴰ.head refl, p)
    go false p later f = (Memᴰ.tail (later f).0, (later f).1)

larger_below : (b c : Bag) (i : ℕ) → Memᴰ i (larger_at b c) → i < length b
unfolding larger_at
larger_below b c i m = up_to_at (length b) i (keep_at (λ j. ltb (get_or c j 0) (get_or b j 0)) (up_to (length b)) i m).0

larger_somewhere : (b c : Bag) → strictly_contains b c ≡ true → (i : ℕ) × Memᴰ i (larger_at b c)
unfolding larger_at
larger_somewhere b c e =
    let inside = strictly_at b c e in
    let larger : ℕ → Bool = λ i. ltb (get_or c i 0) (get_or b i 0) in
    by_test (any larger (up_to (length b)))
    (λ p.
    let found = any_at larger (up_to (length b)) p in
    let i = found.0 in
    (i, keep_intro larger (up_to (length b)) i found.1 found.2))
    (λ p.
    absurd
    (inside.1
    (bag_ext (length b) b c refl (sym (contains_length b c inside.0))
    (λ i h.
    omega (
      arith,
      contains_at b c inside.0 i,
      ltb-false (get_or c i 0) (get_or b i 0) (any_none larger (up_to (length b)) p i (up_to_intro (length b) i h)),
    )))))

-- ---- a mixed space has a hidden attribute among its properties

-- There is a place, and all are below n.
pub record Names (n : ℕ) (places : List ℕ) : Type 0 where
  pub some : (i : ℕ) × Memᴰ i places
  pub below : (i : ℕ) → Memᴰ i places → i < n

-- an outcome that is mixed names such places
abbrev pub NamesBelow : ℕ → Outcome → Type 0
NamesBelow n Outcome.neither = Unit {0}
NamesBelow n (Outcome.mixed places) = Names n places
NamesBelow n Outcome.wide = Unit {0}

module _ (n : ℕ) where
  -- every bag on the own list has n counts
  abbrev Sized : Search → Type 0
  Sized s = (x : Bag) → Memᴰ x s.own → length x ≡ n

  hides : (s : Search) (b : Bag) → Sized s → any (strictly_contains b) s.own ≡ true → NamesBelow n (Outcome.mixed (hidden_by s.own b))
  unfolding hidden_by
  hides s b sized e =
      let c = first_inside b s.own in
      let inside = first_inside_lem b s.own e in
      record {
        some = larger_somewhere b c inside.1;
        below = λ i m. omega (arith, larger_below b c i m, sized c inside.0, contains_length b c (strictly_at b c inside.1).0);
      }

  offer_names : (s : Search) (b : Bag) → (Sized s → NamesBelow n s.outcome) → Sized (offer s b) → NamesBelow n (offer s b).outcome
  unfolding offer unless_ended test
  offer_names s b before after = go s.outcome
    where
      sized : Sized s
      sized x k = after x (onward_has s (offer s b) (offer_takes s b).0 x k)

      tested : (l m w : Bool) → any (strictly_contains b) s.own ≡ m
          → NamesBelow n (cond l s (cond m (ending s (Outcome.mixed (hidden_by s.own b))) (cond w (ending s Outcome.wide) (appending s b)))).outcome
      tested true m w e = before sized
      tested false true w e = hides s b sized e
      tested false false true e = tt
      tested false false false e = tt

      go : (o : Outcome) → NamesBelow n (unless_ended o (test s b) s).outcome
      go Outcome.neither =
          tested (listed s.own b) (any (strictly_contains b) s.own) (not (listed s.known b) && leb most_conditions s.tally) refl
      go (Outcome.mixed places) = before sized
      go Outcome.wide = before sized

  module _ (moves : List Move) (moves_sized : (m : Move) → Memᴰ m moves → (length m.start ≡ n) × (length m.finish ≡ n)) where
    explore_sized : (s : Search) → Sized s → Sized (explore moves s)
    explore_sized = explore_all moves (λ x. length x ≡ n) (λ x m k c p. results_sized n x m p (moves_sized m k).0 (moves_sized m k).1)

    extend_from_names : (known : List Bag) (tally : ℕ) (bags : List Bag) (lists : List (List Bag)) → ((b : Bag) → Memᴰ b bags → length b ≡ n)
        → NamesBelow n (extend_from moves known tally bags lists).outcome
    unfolding extend_from unless_ended
    extend_from_names known tally [] lists h = tt
    extend_from_names known tally (b ∷ bags) lists h =
        let first = starting b known tally in
        let s = explore moves first in
        let sized = explore_sized first (λ x k. ap length (Memᴰ.eq_of_singleton k) ∙ h b (Memᴰ.head refl)) in
        let names = explore_keeps (λ x. Sized x → NamesBelow n x.outcome) offer_names moves first (λ p. tt) sized in
        go s.outcome names (extend_from moves s.known s.tally bags (lists ++ (s.own ∷ [])))
        (extend_from_names s.known s.tally bags (lists ++ (s.own ∷ [])) (λ c k. h c (Memᴰ.tail k)))
      where
        go : (o : Outcome) → NamesBelow n o → (later : Extension) → NamesBelow n later.outcome
            → NamesBelow n (unless_ended o later (record { outcome = o; lists = lists })).outcome
        go Outcome.neither names later rest = rest
        go (Outcome.mixed places) names later rest = names
        go Outcome.wide names later rest = names

-- an extension over bags of n counts
pub extension_names : (n : ℕ) (moves : List Move) (initial : List Bag)
    → ((m : Move) → Memᴰ m moves → (length m.start ≡ n) × (length m.finish ≡ n))
    → ((b : Bag) → Memᴰ b initial → length b ≡ n) → NamesBelow n (extend moves initial).outcome
unfolding extend
extension_names n moves initial sized = extend_from_names n moves sized initial (length initial) initial []

-- the rules and the opening conditions of a space have one count for each of its properties
moves_of_sized : (s : Space) (m : Move) → Memᴰ m (moves_of s)
    → (length m.start ≡ length s.properties) × (length m.finish ≡ length s.properties)
unfolding moves_of
moves_of_sized s m k =
    let ps = s.properties in
    let (r, there, is) = Memᴰ.of_map (λ r. record { start = restrict ps r.start; finish = restrict ps r.finish }) s.rules k in
    subst (λ (x : Move). (length x.start ≡ length ps) × (length x.finish ≡ length ps)) is
    (length_restrict ps r.start, length_restrict ps r.finish)

initial_sized : (t : Task) (s : Space) (b : Bag) → Memᴰ b (initial_conditions t s) → length b ≡ length s.properties
unfolding initial_conditions condition
initial_sized t s b k =
    let ps = s.properties in
    ⊎_elim (λ j. absurd (Memᴰ.not-nil j))
    (λ j.
    let (o, there, is) = Memᴰ.of_map (condition t ps t.facts) s.members j in
    ap length (sym is) ∙ length_restrict ps (bag_of (properties t) t.facts o))
    (adjoin_all_from [] (map (condition t ps t.facts) s.members) b k)

-- a hidden attribute is among the properties
abbrev pub Hides : List ℕ → List ℕ → Type 0
Hides hidden properties = (c : ℕ) × Memᴰ c hidden × Memᴰ c properties

pub mixed_hides : (t : Task) (s : Space) → (analyse_property_space t s).kind ≡ mixed → Hides (analyse_property_space t s).hidden s.properties
unfolding analyse_property_space hidden_for kind_for
mixed_hides t s e =
    let initial = initial_conditions t s in
    go (extend (moves_of s) initial).outcome
    (extension_names (length s.properties) (moves_of s) initial (moves_of_sized s) (initial_sized t s)) e
  where
    go : (o : Outcome) → NamesBelow (length s.properties) o → kind_for o ≡ mixed → Hides (hidden_for s.properties o) s.properties
    go Outcome.neither names f = let z : ◌≡◌ {A = ℕ} 0 1 = cc in absurd (omega arith)
    go (Outcome.mixed places) names f =
        let (i, there) = names.some in
        (get_or s.properties i 0, Memᴰ.map (λ j. get_or s.properties j 0) there, mem_get_d s.properties i 0 (names.below i there))
    go Outcome.wide names f = let z : ◌≡◌ {A = ℕ} 0 1 = cc in absurd (omega arith)

-- ---- rounds enough

-- a list of which not all is kept gets shorter
kept_few : (test : ℕ → Bool) (ns : List ℕ) → length (keep test ns) ≤ length ns
unfolding keep
kept_few test [] = le_refl 0
kept_few test (n ∷ ns) = go (test n) (kept_few test ns)
  where
    go : (b : Bool) → length (keep test ns) ≤ length ns → length (cond b (n ∷ keep test ns) (keep test ns)) ≤ suc (length ns)
    go true h = suc-le-suc h
    go false h = omega arith

kept_fewer : (test : ℕ → Bool) (ns : List ℕ) (c : ℕ) → Memᴰ c ns → test c ≡ false → length (keep test ns) < length ns
unfolding keep
kept_fewer test [] c k e = absurd (Memᴰ.not-nil k)
kept_fewer test (n ∷ ns) c k e = go (test n) refl (λ j. kept_fewer test ns c j e)
  where
    go : (b : Bool) → test n ≡ b → (Memᴰ c ns → length (keep test ns) < length ns)
        → length (cond b (n ∷ keep test ns) (keep test ns)) < suc (length ns)
    go true f later = suc-le-suc (⊎_elim (λ p. never (sym f ∙ sym (ap test p) ∙ e)) later (Memᴰ.cases_cons k))
    go false f later = suc-le-suc (kept_few test ns)

-- each round drops a property
dropped : (hidden properties : List ℕ) → Hides hidden properties → length (without_hidden hidden properties) < length properties
unfolding without_hidden
dropped hidden properties (c, there, own) =
    kept_fewer (λ d. not (member d hidden)) properties c own (to_not_false (member c hidden) (member_intro c hidden there))

-- what is left of a space without its hidden attributes
abbrev pub left_of : Task → Space → List ℕ → Space
left_of t s hidden = narrowed t s (without_hidden hidden s.properties)

-- the next round counts only where what is left is mixed
again_if_mixed : (kind : Kind) (a : Analysis) {xs ys : List Analysis} → (kind ≡ mixed → xs ≡ ys) → rescued_as kind a xs ≡ rescued_as kind a ys
unfolding rescued_as
again_if_mixed static a h = refl
again_if_mixed attribute a h = refl
again_if_mixed property a h = refl
again_if_mixed mixed a h = h refl
again_if_mixed wide a h = refl
again_if_mixed rescued a h = refl

rounds_enough : (t : Task) (some more : ℕ) (s : Space) (hidden : List ℕ) → Hides hidden s.properties
    → length s.properties ≤ some → length s.properties ≤ more → rescue t more s hidden ≡ rescue t some s hidden
unfolding rescue narrowed
rounds_enough t zero more s hidden (c, there, own) h k = absurd (omega (arith, h, (place_of s.properties c 0 own).1))
rounds_enough t (suc some) zero s hidden (c, there, own) h k = absurd (omega (arith, k, (place_of s.properties c 0 own).1))
rounds_enough t (suc some) (suc more) s hidden one h k =
    let left = left_of t s hidden in
    let a = analyse_property_space t left in
    let fewer = dropped hidden s.properties one in
    ap (cond (lost left) [])
    (again_if_mixed a.kind a
    (λ e. rounds_enough t some more left a.hidden (mixed_hides t left e) (omega (arith, h, fewer)) (omega (arith, k, fewer))))

pub rescue_rounds : (t : Task) (s : Space) (rounds : ℕ) → length s.properties ≤ rounds
    → (let a = analyse_property_space t s in
    a.kind ≡ mixed → rescue t rounds s a.hidden ≡ rescue t (length s.properties) s a.hidden)
rescue_rounds t s rounds h e =
    let n = length s.properties in rounds_enough t n rounds s (analyse_property_space t s).hidden (mixed_hides t s e) (le_refl n) h

-- so the listing has all rounds
if_mixed_lem : {A : Type 0} (kind : Kind) {xs ys : List A} → (kind ≡ mixed → xs ≡ ys) → if_mixed kind xs ≡ if_mixed kind ys
unfolding if_mixed
if_mixed_lem static h = refl
if_mixed_lem attribute h = refl
if_mixed_lem property h = refl
if_mixed_lem mixed h = h refl
if_mixed_lem wide h = refl
if_mixed_lem rescued h = refl

pub rescues_rounds : (t : Task) (s : Space) (rounds : ℕ) → length s.properties ≤ rounds
    → (let a = analyse t s in rescues t a ≡ if_mixed a.kind (rescue t rounds s a.hidden))
unfolding analyse_property_space analyse analyse_as rescues if_mixed
rescues_rounds t s rounds h = go (kind_of s.rules)
  where
    by_property : (let a = analyse_property_space t s in rescues t a ≡ if_mixed a.kind (rescue t rounds s a.hidden))
    by_property = if_mixed_lem (analyse_property_space t s).kind (λ e. sym (rescue_rounds t s rounds h e))

    go : (kind : Kind) → (let a = analyse_as kind t s in rescues t a ≡ if_mixed a.kind (rescue t rounds s a.hidden))
    go static = refl
    go attribute = refl
    go property = by_property
    go mixed = by_property
    go wide = by_property
    go rescued = by_property

-- ---- one rescue at most, and of mixed spaces alone

pub rescue_only_mixed : (t : Task) (a : Analysis) → (a.kind ≡ mixed → ⊥) → rescues t a ≡ []
unfolding rescues if_mixed
rescue_only_mixed t a other = go a.kind other
  where
    go : (kind : Kind) → (kind ≡ mixed → ⊥) → if_mixed kind (rescue t (length a.space.properties) a.space a.hidden) ≡ []
    go static h = refl
    go attribute h = refl
    go property h = refl
    go mixed h = absurd (h refl)
    go wide h = refl
    go rescued h = refl

found_one : (kind : Kind) (a : Analysis) (again : List Analysis) → length again ≤ 1 → length (rescued_as kind a again) ≤ 1
unfolding rescued_as
found_one static a again h = zero-le
found_one attribute a again h = zero-le
found_one property a again h = le_refl 1
found_one mixed a again h = h
found_one wide a again h = zero-le
found_one rescued a again h = zero-le

pub rescue_one : (t : Task) (rounds : ℕ) (s : Space) (hidden : List ℕ) → length (rescue t rounds s hidden) ≤ 1
unfolding rescue
rescue_one t zero s hidden = zero-le
rescue_one t (suc rounds) s hidden =
    let left = left_of t s hidden in
    let a = analyse_property_space t left in
    let again = rescue t rounds left a.hidden in
    go (lost left) (rescued_as a.kind a again) (found_one a.kind a again (rescue_one t rounds left a.hidden))
  where
    go : (b : Bool) (found : List Analysis) → length found ≤ 1 → length (cond b [] found) ≤ 1
    go true found h = zero-le
    go false found h = h

-- ---- what is rescued lies within the mixed space

pub record RescuedFrom (s : Space) (hidden : List ℕ) (b : Analysis) : Type 0 where
  pub kind_is : b.kind ≡ rescued
  pub some_left : 0 < length b.space.properties
  pub properties_among : (c : ℕ) → Memᴰ c b.space.properties → Memᴰ c s.properties
  pub none_hidden : (c : ℕ) → Memᴰ c b.space.properties → Memᴰ c hidden → ⊥
  pub members_among : (o : ℕ) → Memᴰ o b.space.members → Memᴰ o s.members

-- a space that is not lost has a property
not_lost : (s : Space) → lost s ≡ false → 0 < length s.properties
unfolding lost
not_lost s e =
    positive (length s.properties)
    (or_false_left (eqb 0 (length s.properties)) (any (λ m. is_empty m.start || is_empty m.finish) (moves_of s)) e)
  where
    positive : (n : ℕ) → eqb 0 n ≡ false → 0 < n
    positive zero f = never f
    positive (suc n) f = suc-le-suc zero-le

-- what is rescued is what is left, or within it; and what is within what is left is within the space
module _ (t : Task) (s : Space) (hidden : List ℕ) (b : Analysis) where
  left_property : (c : ℕ) → Memᴰ c (left_of t s hidden).properties → Memᴰ c s.properties × (Memᴰ c hidden → ⊥)
  unfolding narrowed without_hidden
  left_property c k =
      let kept = keep_at (λ d. not (member d hidden)) s.properties c k in
      (kept.0, member_not c hidden (not-true (member c hidden) kept.1))

  left_member : (o : ℕ) → Memᴰ o (left_of t s hidden).members → Memᴰ o s.members
  unfolding narrowed
  left_member o k =
      (keep_at (λ x. not (is_empty (condition t (without_hidden hidden s.properties) t.facts x))) s.members o k).0

  within_left : b.kind ≡ rescued → 0 < length b.space.properties
      → ((c : ℕ) → Memᴰ c b.space.properties → Memᴰ c (left_of t s hidden).properties)
      → ((o : ℕ) → Memᴰ o b.space.members → Memᴰ o (left_of t s hidden).members) → RescuedFrom s hidden b
  within_left kind some properties members =
      record {
        kind_is = kind;
        some_left = some;
        properties_among = λ c k. (left_property c (properties c k)).0;
        none_hidden = λ c k. (left_property c (properties c k)).1;
        members_among = λ o k. left_member o (members o k);
      }

pub rescue_within : (t : Task) (rounds : ℕ) (s : Space) (hidden : List ℕ) (b : Analysis) → Memᴰ b (rescue t rounds s hidden)
    → RescuedFrom s hidden b
unfolding rescue rescued_as analyse_property_space
rescue_within t zero s hidden b k = absurd (Memᴰ.not-nil k)
rescue_within t (suc rounds) s hidden b k =
    let left = left_of t s hidden in
    let a = analyse_property_space t left in
    go (lost left) refl a.kind (rescue t rounds left a.hidden) (rescue_within t rounds left a.hidden b) k
  where
    go : (let a = analyse_property_space t (left_of t s hidden) in
        (l : Bool) → lost (left_of t s hidden) ≡ l → (kind : Kind) (again : List Analysis)
        → (Memᴰ b again → RescuedFrom (left_of t s hidden) a.hidden b) → Memᴰ b (cond l [] (rescued_as kind a again))
        → RescuedFrom s hidden b)
    go true e kind again later j = absurd (Memᴰ.not-nil j)
    go false e static again later j = absurd (Memᴰ.not-nil j)
    go false e attribute again later j = absurd (Memᴰ.not-nil j)
    go false e property again later j =
        subst (RescuedFrom s hidden) (sym (Memᴰ.eq_of_singleton j))
        (within_left t s hidden _ refl (not_lost (left_of t s hidden) e) (λ c i. i) (λ o i. i))
    go false e mixed again later j =
        let r = later j in within_left t s hidden b r.kind_is r.some_left r.properties_among r.members_among
    go false e wide again later j = absurd (Memᴰ.not-nil j)
    go false e rescued again later j = absurd (Memᴰ.not-nil j)

-- the same of the listing: only a mixed space is rescued, and what is rescued lies within it
pub rescues_within : (t : Task) (a b : Analysis) → Memᴰ b (rescues t a) → (a.kind ≡ mixed) × RescuedFrom a.space a.hidden b
unfolding rescues if_mixed
rescues_within t a b k = go a.kind k
  where
    go : (kind : Kind) → Memᴰ b (if_mixed kind (rescue t (length a.space.properties) a.space a.hidden))
        → (kind ≡ mixed) × RescuedFrom a.space a.hidden b
    go static j = absurd (Memᴰ.not-nil j)
    go attribute j = absurd (Memᴰ.not-nil j)
    go property j = absurd (Memᴰ.not-nil j)
    go mixed j = (refl, rescue_within t (length a.space.properties) a.space a.hidden b j)
    go wide j = absurd (Memᴰ.not-nil j)
    go rescued j = absurd (Memᴰ.not-nil j)
