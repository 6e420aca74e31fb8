-- Document 01, "Spaces": "All start and finish properties of one rule share a space; spaces are the smallest such grouping,
-- numbered by lowest property." A grouping gives each property the label of its group, which is the group's lowest property.
use Prim.Native.Nat.{ℕ, ◌≤◌, ◌<◌, min}
use native.Mathlib.Nat.{le_refl, le_trans}
use native.Mathlib.Omega.{arith}
use mathlib.Core.Path.{◌≡◌, refl, sym, ap, ◌∙◌, subst}
use mathlib.Core.Bool.{Bool, true, false, cond, ◌||◌}
use mathlib.Core.Logic.{◌⊎◌, inl, inr, ⊎_elim}
use mathlib.Core.List.Memᴰ
use mathlib.Core.List.{List, [], ◌∷◌, map, foldl, flat_map, Memᴰ}
use lib.Dec.{eqb}
use lib.ListN.{length, get_or, length-map}
use borrow.Author.Tests.{eqb-true, eq-eqb}
use Rattle.laws.specs.Lists.{up_to}
use Rattle.laws.specs.Bags.{Bag, plus, less, meet, is_empty, single, support}
use Rattle.laws.proofs.Tests.{or_cases, or_left, or_right, cond_true, cond_false, by_test}
use Rattle.laws.proofs.Lists.{length_up_to, get_d_up_to, flat_map_at}
use Rattle.laws.proofs.Folds.{foldl_keeps, foldl_reaches}
use Rattle.laws.proofs.Mapped.{get_d_map}
use Rattle.laws.proofs.Closure.{min_cases}
use Rattle.laws.proofs.Bags.{length_plus, length_less, length_meet, length_single, support_at_lem}
use Rattle.model.specs.Card.{Atom, Task}
use Rattle.model.specs.Transitions.{Property, Transition, properties, bag_of, exchanges, remaining, rules_of, parameter_rules, transitions}
use Rattle.model.specs.Spaces.{moved, unite, unite_all, grouping}

-- the label of a property's group
abbrev pub label : List ℕ → ℕ → ℕ
label groups c = get_or groups c 0

-- the label that replaces l when the groups of g and h become one
merged : ℕ → ℕ → ℕ → ℕ
merged g h l = cond (eqb l g || eqb l h) (min g h) l

-- a label of the two is replaced by the lower of them, and any other stays
merged_joined : (g h l : ℕ) → (l ≡ g) ⊎ (l ≡ h) → merged g h l ≡ min g h
unfolding merged
merged_joined g h l e =
    cond_true (eqb l g || eqb l h) (min g h) l
    (⊎_elim (λ p. or_left (eqb l g) (eqb l h) (eq-eqb l g p)) (λ p. or_right (eqb l g) (eqb l h) (eq-eqb l h p)) e)

merged_cases : (g h l : ℕ) → ((l ≡ g) ⊎ (l ≡ h)) ⊎ (merged g h l ≡ l)
unfolding merged
merged_cases g h l =
    by_test (eqb l g || eqb l h)
    (λ e. inl (⊎_elim (λ p. inl (eqb-true l g p)) (λ p. inr (eqb-true l h p)) (or_cases (eqb l g) (eqb l h) e)))
    (λ e. inr (cond_false (eqb l g || eqb l h) (min g h) l e))

-- what holds of the two labels and of the present one holds of the new one
merged_holds : (Holds : ℕ → Type 0) (g h l : ℕ) → Holds g → Holds h → Holds l → Holds (merged g h l)
merged_holds Holds g h l pg ph pl =
    ⊎_elim
    (λ e.
    subst Holds (sym (merged_joined g h l e))
    (⊎_elim (λ q. subst Holds (sym q) pg) (λ q. subst Holds (sym q) ph) (min_cases g h)))
    (λ e. subst Holds (sym e) pl)
    (merged_cases g h l)

-- a function that does not tell the two labels apart does not tell the new label from the old
merged_same : (f : ℕ → ℕ) (g h l : ℕ) → f g ≡ f h → f (merged g h l) ≡ f l
merged_same f g h l e =
    ⊎_elim
    (λ p.
    ap f (merged_joined g h l p)
    ∙ ⊎_elim (λ q. ap f q) (λ q. ap f q ∙ sym e) (min_cases g h)
    ∙ ⊎_elim (λ q. ap f (sym q)) (λ q. e ∙ ap f (sym q)) p)
    (λ p. ap f p)
    (merged_cases g h l)

-- no label rises, and a new label stays
merged_at_most : (g h l : ℕ) → merged g h l ≤ l
merged_at_most g h l =
    ⊎_elim
    (λ e. subst (λ (n : ℕ). n ≤ l) (sym (merged_joined g h l e)) (⊎_elim (λ q. omega arith) (λ q. omega arith) e))
    (λ e. omega arith)
    (merged_cases g h l)

merged_again : (g h l : ℕ) → merged g h (merged g h l) ≡ merged g h l
merged_again g h l =
    ⊎_elim (λ e. ap (merged g h) (merged_joined g h l e) ∙ merged_joined g h (min g h) (min_cases g h) ∙ sym (merged_joined g h l e))
    (λ e. ap (merged g h) e)
    (merged_cases g h l)

-- the labels after two properties are brought together
label_unite : (c : ℕ) (groups : List ℕ) (d x : ℕ) → x < length groups
    → label (unite c groups d) x ≡ merged (label groups c) (label groups d) (label groups x)
unfolding unite merged
label_unite c groups d x h = get_d_map _ groups x 0 0 h

pub length_unite : (c : ℕ) (groups : List ℕ) (d : ℕ) → length (unite c groups d) ≡ length groups
unfolding unite
length_unite c groups d = length-map groups _

-- what bringing any two properties of a list together keeps, bringing all of them together keeps
pub unite_all_keeps : (Holds : List ℕ → Type 0) (cs : List ℕ)
    → ((groups : List ℕ) (c d : ℕ) → Memᴰ c cs → Memᴰ d cs → Holds groups → Holds (unite c groups d))
    → (groups : List ℕ) → Holds groups → Holds (unite_all groups cs)
unfolding unite_all
unite_all_keeps Holds [] keeps groups h = h
unite_all_keeps Holds (c ∷ cs) keeps groups h =
    foldl_keeps Holds (unite c) cs (λ now d m. keeps now c d (Memᴰ.head refl) (Memᴰ.tail m)) groups h

-- what bringing any two properties of one rule together keeps, the grouping keeps
grouping_keeps : (Holds : List ℕ → Type 0) (size : ℕ) (rules : List Transition)
    → ((groups : List ℕ) (r : Transition) → Memᴰ r rules → (c d : ℕ) → Memᴰ c (moved r) → Memᴰ d (moved r)
    → Holds groups → Holds (unite c groups d))
    → Holds (up_to size) → Holds (grouping size rules)
unfolding grouping
grouping_keeps Holds size rules keeps =
    foldl_keeps Holds (λ groups r. unite_all groups (moved r)) rules
    (λ groups r m. unite_all_keeps Holds (moved r) (λ now c d. keeps now r m c d) groups) (up_to size)

-- groups are labelled for as many properties as there are
pub length_grouping : (size : ℕ) (rules : List Transition) → length (grouping size rules) ≡ size
length_grouping size rules =
    grouping_keeps (λ groups. length groups ≡ size) size rules (λ groups r m c d j k e. length_unite c groups d ∙ e) (length_up_to size)

-- Another grouping g has each property's label in that property's group.
record Coarser (g : ℕ → ℕ) (size : ℕ) (groups : List ℕ) : Type 0 where
  sized : length groups ≡ size
  with_label : (x : ℕ) → x < size → g (label groups x) ≡ g x

unite_coarser : (g : ℕ → ℕ) (size : ℕ) (groups : List ℕ) (a b : ℕ) → a < size → b < size → g a ≡ g b → Coarser g size groups
    → Coarser g size (unite a groups b)
unite_coarser g size groups a b ha hb e h = record { sized = length_unite a groups b ∙ h.sized; with_label = with_label }
  where
    with_label : (x : ℕ) → x < size → g (label (unite a groups b) x) ≡ g x
    with_label x hx =
        ap g (label_unite a groups b x (subst (λ (n : ℕ). x < n) (sym h.sized) hx))
        ∙ merged_same g (label groups a) (label groups b) (label groups x) (h.with_label a ha ∙ e ∙ sym (h.with_label b hb))
        ∙ h.with_label x hx

-- Each label is the lowest property of its group: no property of the group is below it, and it is one of them.
pub record Lowest (size : ℕ) (groups : List ℕ) : Type 0 where
  pub sized : length groups ≡ size
  pub at_most : (x : ℕ) → x < size → label groups x ≤ x
  pub own : (x : ℕ) → x < size → label groups (label groups x) ≡ label groups x

pub label_known : (size : ℕ) (groups : List ℕ) → Lowest size groups → (x : ℕ) → x < size → label groups x < size
label_known size groups h x hx = let low = h.at_most x hx in omega arith

unite_lowest : (size : ℕ) (groups : List ℕ) (a b : ℕ) → a < size → b < size → Lowest size groups → Lowest size (unite a groups b)
unite_lowest size groups a b ha hb h =
    record {
      sized = length_unite a groups b ∙ h.sized;
      at_most = λ x hx. subst (λ (n : ℕ). n ≤ x) (sym (now x hx)) (low x hx);
      own = own;
    }
  where
    new : ℕ → ℕ
    new x = merged (label groups a) (label groups b) (label groups x)

    now : (x : ℕ) → x < size → label (unite a groups b) x ≡ new x
    now x hx = label_unite a groups b x (subst (λ (n : ℕ). x < n) (sym h.sized) hx)

    low : (x : ℕ) → x < size → new x ≤ x
    low x hx = le_trans (merged_at_most (label groups a) (label groups b) (label groups x)) (h.at_most x hx)

    own : (x : ℕ) → x < size → label (unite a groups b) (label (unite a groups b) x) ≡ label (unite a groups b) x
    own x hx =
        let below : new x ≤ x = low x hx in
        ap (label (unite a groups b)) (now x hx)
        ∙ now (new x) (omega arith)
        ∙ ap (merged (label groups a) (label groups b))
        (merged_holds (λ l. label groups l ≡ l) (label groups a) (label groups b) (label groups x) (h.own a ha) (h.own b hb) (h.own x hx))
        ∙ merged_again (label groups a) (label groups b) (label groups x)
        ∙ sym (now x hx)

-- Two properties have one label.
record Joined (size c d : ℕ) (groups : List ℕ) : Type 0 where
  sized : length groups ≡ size
  joined : label groups c ≡ label groups d

-- properties with one label keep one
stays_joined : (size c d : ℕ) → c < size → d < size → (groups : List ℕ) (a b : ℕ) → Joined size c d groups → Joined size c d (unite a groups b)
stays_joined size c d hc hd groups a b h =
    record {
      sized = length_unite a groups b ∙ h.sized;
      joined =
          label_unite a groups b c (subst (λ (n : ℕ). c < n) (sym h.sized) hc)
          ∙ ap (merged (label groups a) (label groups b)) h.joined
          ∙ sym (label_unite a groups b d (subst (λ (n : ℕ). d < n) (sym h.sized) hd));
    }

-- two properties that are brought together have one label
now_joined : (size c d : ℕ) → c < size → d < size → (groups : List ℕ) → length groups ≡ size → Joined size c d (unite c groups d)
now_joined size c d hc hd groups sized =
    record {
      sized = length_unite c groups d ∙ sized;
      joined =
          label_unite c groups d c (subst (λ (n : ℕ). c < n) (sym sized) hc)
          ∙ merged_joined (label groups c) (label groups d) (label groups c) (inl refl)
          ∙ sym (merged_joined (label groups c) (label groups d) (label groups d) (inr refl))
          ∙ sym (label_unite c groups d d (subst (λ (n : ℕ). d < n) (sym sized) hd));
    }

-- all properties of a list get one label
unite_all_joins : (size : ℕ) (cs : List ℕ) → ((c : ℕ) → Memᴰ c cs → c < size) → (groups : List ℕ) → length groups ≡ size
    → (c d : ℕ) → Memᴰ c cs → Memᴰ d cs → Joined size c d (unite_all groups cs)
unfolding unite_all
unite_all_joins size [] below groups sized c d j k = absurd (Memᴰ.not-nil j)
unite_all_joins size (a ∷ cs) below groups sized c d j k =
    record { sized = (first c j).sized; joined = sym (first c j).joined ∙ (first d k).joined }
  where
    all_sized : length (foldl (unite a) groups cs) ≡ size
    all_sized = foldl_keeps (λ now. length now ≡ size) (unite a) cs (λ now y l e. length_unite a now y ∙ e) groups sized

    first : (x : ℕ) → Memᴰ x (a ∷ cs) → Joined size a x (foldl (unite a) groups cs)
    first x m =
        let ha = below a (Memᴰ.head refl) in
        ⊎_elim (λ p. record { sized = all_sized; joined = ap (label (foldl (unite a) groups cs)) (sym p) })
        (λ i.
        foldl_reaches (λ now. length now ≡ size) (Joined size a x) (unite a) cs
        (λ now y l e. length_unite a now y ∙ e)
        (λ now y l e. stays_joined size a x ha (below x m) now a y)
        x i
        (now_joined size a x ha (below x m))
        groups sized)
        (Memᴰ.cases_cons m)

-- Rules whose start and finish properties are among the first `size`.
module _ (size : ℕ) (rules : List Transition)
    (known : (r : Transition) → Memᴰ r rules → (c : ℕ) → Memᴰ c (moved r) → c < size) where
  -- "All start and finish properties of one rule share a space"
  pub grouping_joins : (r : Transition) → Memᴰ r rules → (c d : ℕ) → Memᴰ c (moved r) → Memᴰ d (moved r)
      → label (grouping size rules) c ≡ label (grouping size rules) d
  unfolding grouping
  grouping_joins r m c d j k =
      (foldl_reaches (λ groups. length groups ≡ size) (Joined size c d) (λ groups q. unite_all groups (moved q)) rules
      (λ groups q l. unite_all_keeps (λ now. length now ≡ size) (moved q) (λ now a b i₁ i₂ e. length_unite a now b ∙ e) groups)
      (λ groups q l e.
      unite_all_keeps (Joined size c d) (moved q)
      (λ now a b i₁ i₂. stays_joined size c d (known r m c j) (known r m d k) now a b)
      groups)
      r m
      (λ groups e. unite_all_joins size (moved r) (known r m) groups e c d j k)
      (up_to size) (length_up_to size)
      ).joined

  -- "spaces are the smallest such grouping": whatever puts the start and finish properties of each rule into one group
  -- puts any two properties of one label into one group
  pub grouping_smallest : (g : ℕ → ℕ)
      → ((r : Transition) → Memᴰ r rules → (c d : ℕ) → Memᴰ c (moved r) → Memᴰ d (moved r) → g c ≡ g d)
      → (c d : ℕ) → c < size → d < size → label (grouping size rules) c ≡ label (grouping size rules) d → g c ≡ g d
  grouping_smallest g same c d hc hd e =
      sym (coarser.with_label c hc) ∙ ap g e ∙ coarser.with_label d hd
    where
      coarser : Coarser g size (grouping size rules)
      coarser =
          grouping_keeps (Coarser g size) size rules
          (λ groups r m a b j k. unite_coarser g size groups a b (known r m a j) (known r m b k) (same r m a b j k))
          (record { sized = length_up_to size; with_label = λ x h. ap g (get_d_up_to size x 0 h) })

  -- "numbered by lowest property": a label is the lowest property of its group
  pub grouping_lowest : Lowest size (grouping size rules)
  grouping_lowest =
      grouping_keeps (Lowest size) size rules
      (λ groups r m a b j k. unite_lowest size groups a b (known r m a j) (known r m b k))
      (record {
        sized = length_up_to size;
        at_most = λ x h. subst (λ (n : ℕ). n ≤ x) (sym (get_d_up_to size x 0 h)) (le_refl x);
        own = λ x h. ap (label (up_to size)) (get_d_up_to size x 0 h);
      })

-- The bags of a rule are over n properties.
pub record Sized (n : ℕ) (r : Transition) : Type 0 where
  pub enablers : length r.enablers ≡ n
  pub start : length r.start ≡ n
  pub finish : length r.finish ≡ n

pub exchanges_sized : (p x : Bag) (r : Transition) → Memᴰ r (exchanges p x) → Sized (length p) r
unfolding exchanges
exchanges_sized p x r m =
    let q = Memᴰ.of_map _ (support x) m in
    subst (Sized (length p)) q.2
    (record {
      enablers = length_less (length p) p (single (length p) q.0) refl (length_single (length p) q.0);
      start = length_single (length p) q.0;
      finish = length_single (length p) q.0;
    })

pub remaining_sized : (p start finish : Bag) → length start ≡ length p → length finish ≡ length p
    → (r : Transition) → Memᴰ r (remaining p start finish) → Sized (length p) r
unfolding remaining
remaining_sized p start finish es ef r = go (is_empty start)
  where
    go : (b : Bool)
        → Memᴰ r
        (cond b (map (λ c. record { enablers = less p start; start = start; finish = single (length p) c }) (support finish))
        (record { enablers = less p start; start = start; finish = finish } ∷ []))
        → Sized (length p) r
    go true m =
        let q = Memᴰ.of_map _ (support finish) m in
        subst (Sized (length p)) q.2
        (record { enablers = length_less (length p) p start refl es; start = es; finish = length_single (length p) q.0 })
    go false m =
        subst (Sized (length p)) (sym (Memᴰ.eq_of_singleton m))
        (record { enablers = length_less (length p) p start refl es; start = es; finish = ef })

pub rules_of_sized : (p d a : Bag) → length d ≡ length p → length a ≡ length p
    → (r : Transition) → Memᴰ r (rules_of p d a) → Sized (length p) r
unfolding rules_of
rules_of_sized p d a ed ea r m =
    let common : length (meet d a) ≡ length p = length_meet (length p) d a ed ea in
    ⊎_elim (exchanges_sized p (meet d a) r)
    (remaining_sized p (less d (meet d a)) (less a (meet d a))
    (length_less (length p) d (meet d a) ed common) (length_less (length p) a (meet d a) ea common) r)
    (Memᴰ.append_cases (exchanges p (meet d a)) m)

pub length_bag_of : (cs : List Property) (atoms : List Atom) (x : ℕ) → length (bag_of cs atoms x) ≡ length cs
unfolding bag_of
length_bag_of cs atoms x = length-map cs _

-- every bag of a rule is over all properties
pub transitions_sized : (t : Task) (r : Transition) → Memᴰ r (transitions t) → Sized (length (properties t)) r
unfolding transitions parameter_rules
transitions_sized t r m =
    let q = flat_map_at (λ s. flat_map (parameter_rules t s) (up_to s.parameters)) t.schemas r m in
    let s = q.0 in
    let k = flat_map_at (parameter_rules t s) (up_to s.parameters) r q.2 in
    let bag : List Atom → Bag = λ atoms. bag_of (properties t) atoms k.0 in
    let size : (atoms : List Atom) → length (bag atoms) ≡ length (properties t) = λ atoms. length_bag_of (properties t) atoms k.0 in
    subst (λ (n : ℕ). Sized n r) (size s.preconditions)
    (rules_of_sized (bag s.preconditions) (bag s.deletes) (bag s.adds)
    (size s.deletes ∙ sym (size s.preconditions)) (size s.adds ∙ sym (size s.preconditions)) r k.2)

-- the start and finish properties of a rule are properties of the task
pub moved_known : (t : Task) (r : Transition) → Memᴰ r (transitions t) → (c : ℕ) → Memᴰ c (moved r) → c < length (properties t)
unfolding moved
moved_known t r m c k =
    let sized = transitions_sized t r m in
    subst (λ (n : ℕ). c < n) (length_plus (length (properties t)) r.start r.finish sized.start sized.finish)
    (support_at_lem (plus r.start r.finish) c k).0
