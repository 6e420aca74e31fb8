-- Document 01, "Spaces": an attribute space gains "every object that is a member of the space of each enabler of one of its own
-- increasing rules (empty start), until none is added to any A space". The rounds end there, and with no more members than that asks for.
use Prim.Native.Nat.{ℕ, zero, suc, ◌<◌}
use mathlib.Core.Path.{◌≡◌, refl, sym, ap, ◌∙◌, subst}
use mathlib.Core.Bool.{Bool, true, not, ◌&&◌, ◌||◌}
use mathlib.Core.Logic.{⊎_elim}
use mathlib.Core.List.{List, [], ◌∷◌, map, map-map, Memᴰ}
use lib.Dec.{eqb}
use lib.ListN.{length, get_or, length-map}
use Rattle.laws.specs.Lists.{any, all, keep, up_to, member}
use Rattle.laws.specs.Bags.{is_empty, support}
use Rattle.laws.proofs.Tests.{and_left, and_right, and_intro, or_cases, or_left, or_right}
use Rattle.laws.proofs.Lists.{all_at, all_intro, any_at, keep_at, up_to_at, member_at}
use Rattle.laws.proofs.Mapped.{map_ext, any_map, any_ext, all_ext, keep_ext}
use Rattle.laws.proofs.Numbers.{member_keep_up_to}
use Rattle.laws.proofs.Closure.{repeat, repeat_closes}
use Rattle.model.specs.Card.{Task}
use Rattle.model.specs.Transitions.{Transition, properties, transitions}
use Rattle.model.specs.Spaces.{Space, grouping, moves, condition, initial_space, initial_spaces, has_member, admits, gain, round, rounds, spaces}

-- the label of each property's group, and the labels: the lowest property of each group
unfoldable pub groups : Task → List ℕ
groups t = grouping (length (properties t)) (transitions t)

unfoldable pub labels : Task → List ℕ
labels t = keep (λ c. eqb (get_or (groups t) c 0) c) (up_to (length (groups t)))

-- the properties and the rules of the space of a label
unfoldable pub properties_at : Task → ℕ → List ℕ
properties_at t l = keep (λ d. eqb (get_or (groups t) d 0) l) (up_to (length (groups t)))

unfoldable pub rules_at : Task → ℕ → List Transition
rules_at t l = keep (moves (properties_at t l)) (transitions t)

-- the object's initial condition in the space of a label is nonempty
unfoldable pub opens : Task → ℕ → ℕ → Bool
opens t o l = not (is_empty (condition t (properties_at t l) t.facts o))

-- the space of a label, and the spaces, when an object is a member of the space of a label where a test on the two passes
unfoldable pub space_with : Task → (ℕ → ℕ → Bool) → ℕ → Space
space_with t joins l =
    record { properties = properties_at t l; rules = rules_at t l; members = keep (λ o. joins o l) (up_to t.objects) }

unfoldable pub spaces_with : Task → (ℕ → ℕ → Bool) → List Space
spaces_with t joins = map (space_with t joins) (labels t)

-- tests that agree on objects and labels give the same spaces
spaces_with_ext : (t : Task) (f g : ℕ → ℕ → Bool)
    → ((o l : ℕ) → o < t.objects → Memᴰ l (labels t) → f o l ≡ g o l) → spaces_with t f ≡ spaces_with t g
unfolding spaces_with space_with
spaces_with_ext t f g h =
    map_ext (space_with t f) (space_with t g) (labels t)
    (λ l m i.
    record {
      properties = properties_at t l;
      rules = rules_at t l;
      members = keep_ext (λ o. f o l) (λ o. g o l) (up_to t.objects) (λ o k. h o l (up_to_at t.objects o k) m) i;
    })

-- One object alone: a rule admits an object that is in the spaces of labels that pass a test, and a round adds a label for it.
unfoldable pub admitted : Task → (ℕ → Bool) → Transition → Bool
admitted t f r = is_empty r.start && all (λ c. any (λ l. member c (properties_at t l) && f l) (labels t)) (support r.enablers)

unfoldable pub step : Task → (ℕ → Bool) → ℕ → Bool
step t f l = f l || any (admitted t f) (rules_at t l)

pub step_adds : (t : Task) (f : ℕ → Bool) (l : ℕ) → f l ≡ true → step t f l ≡ true
unfolding step
step_adds t f l = or_left (f l) (any (admitted t f) (rules_at t l))

-- what is admitted, and so what is added, depends on the labels alone
admitted_own : (t : Task) (f g : ℕ → Bool) → ((l : ℕ) → Memᴰ l (labels t) → f l ≡ g l)
    → (r : Transition) → admitted t f r ≡ admitted t g r
unfolding admitted
admitted_own t f g h r =
    ap (λ (b : Bool). is_empty r.start && b)
    (all_ext _ _ (support r.enablers)
    (λ c m. any_ext _ _ (labels t) (λ l k. ap (λ (b : Bool). member c (properties_at t l) && b) (h l k))))

step_own : (t : Task) (f g : ℕ → Bool) → ((l : ℕ) → Memᴰ l (labels t) → f l ≡ g l)
    → (l : ℕ) → Memᴰ l (labels t) → step t f l ≡ step t g l
unfolding step
step_own t f g h l m =
    λ i. h l m i || any_ext (admitted t f) (admitted t g) (rules_at t l) (λ r k. admitted_own t f g h r) i

-- a rule admits an object to the spaces as it does the object alone
has_member_alone : (t : Task) (joins : ℕ → ℕ → Bool) (o c : ℕ) → o < t.objects
    → has_member (spaces_with t joins) o c ≡ any (λ l. member c (properties_at t l) && joins o l) (labels t)
unfolding has_member spaces_with space_with
has_member_alone t joins o c h =
    any_map (λ s. member c s.properties && member o s.members) (space_with t joins) (labels t)
    ∙ any_ext _ _ (labels t)
    (λ l m. ap (λ (b : Bool). member c (properties_at t l) && b) (member_keep_up_to (λ x. joins x l) t.objects o h))

admits_alone : (t : Task) (joins : ℕ → ℕ → Bool) (o : ℕ) (r : Transition) → o < t.objects
    → admits (spaces_with t joins) o r ≡ admitted t (joins o) r
unfolding admits admitted
admits_alone t joins o r h =
    ap (λ (b : Bool). is_empty r.start && b)
    (all_ext (has_member (spaces_with t joins) o) _ (support r.enablers) (λ c m. has_member_alone t joins o c h))

-- a round takes each object's step
round_alone : (t : Task) (joins : ℕ → ℕ → Bool) → round t (spaces_with t joins) ≡ spaces_with t (λ o. step t (joins o))
unfolding round gain spaces_with space_with step
round_alone t joins =
    map-map (gain t (spaces_with t joins)) (space_with t joins) (labels t)
    ∙ spaces_with_ext t
    (λ o l. member o (keep (λ x. joins x l) (up_to t.objects)) || any (admits (spaces_with t joins) o) (rules_at t l))
    (λ o. step t (joins o))
    (λ o l h m i.
    member_keep_up_to (λ x. joins x l) t.objects o h i
    || any_ext (admits (spaces_with t joins) o) (admitted t (joins o)) (rules_at t l) (λ r n. admits_alone t joins o r h) i)

rounds_alone : (t : Task) (n : ℕ) (joins : ℕ → ℕ → Bool)
    → rounds t n (spaces_with t joins) ≡ spaces_with t (λ o. repeat (step t) n (joins o))
unfolding rounds repeat
rounds_alone t zero joins = refl
rounds_alone t (suc n) joins = ap (rounds t n) (round_alone t joins) ∙ rounds_alone t n (λ o. step t (joins o))

-- an object is a member of the space of a label in the end
unfoldable pub belongs : Task → ℕ → ℕ → Bool
belongs t o = repeat (step t) (length (labels t)) (opens t o)

-- the spaces, label by label: as they open, and in the end
initial_alone : (t : Task) → initial_spaces t ≡ spaces_with t (opens t)
unfolding initial_spaces initial_space spaces_with space_with labels properties_at rules_at opens groups
initial_alone t = refl

length_spaces_with : (t : Task) (joins : ℕ → ℕ → Bool) → length (spaces_with t joins) ≡ length (labels t)
unfolding spaces_with
length_spaces_with t joins = length-map (labels t) (space_with t joins)

pub spaces_alone : (t : Task) → spaces t ≡ spaces_with t (belongs t)
unfolding spaces belongs
spaces_alone t =
    ap (λ (opening : List Space). rounds t (length opening) opening) (initial_alone t)
    ∙ ap (λ (n : ℕ). rounds t n (spaces_with t (opens t))) (length_spaces_with t (opens t))
    ∙ rounds_alone t (length (labels t)) (opens t)

-- a step adds nothing in the end
belongs_stable : (t : Task) (o l : ℕ) → Memᴰ l (labels t) → step t (belongs t o) l ≡ belongs t o l
unfolding belongs
belongs_stable t o = repeat_closes (labels t) (step t) (step_adds t) (step_own t) (opens t o)

-- "until none is added to any A space": a further round adds no member
pub closing_fixed : (t : Task) → round t (spaces t) ≡ spaces t
closing_fixed t =
    ap (round t) (spaces_alone t)
    ∙ round_alone t (belongs t)
    ∙ spaces_with_ext t (λ o. step t (belongs t o)) (belongs t) (λ o l h. belongs_stable t o l)
    ∙ sym (spaces_alone t)

-- The spaces of one list have the properties and rules of those of another, in the same order, and no other members.
pub data Within : List Space → List Space → Type 0 where
  none_within : Within [] []
  one_within : {s s' : Space} {ss ss' : List Space} → s.properties ≡ s'.properties → s.rules ≡ s'.rules
      → ((o : ℕ) → member o s.members ≡ true → member o s'.members ≡ true) → Within ss ss' → Within (s ∷ ss) (s' ∷ ss')

-- No object that a rule of one of some spaces admits is outside that space, as the members of the spaces `later` are.
abbrev pub Closed : Task → List Space → List Space → Type 0
Closed t later part =
    (s : Space) → Memᴰ s part → (r : Transition) → Memᴰ r s.rules → (o : ℕ) → o < t.objects → admits later o r ≡ true
    → member o s.members ≡ true

-- more members admit more
within_has_member : {now later : List Space} → Within now later → (o c : ℕ) → has_member now o c ≡ true → has_member later o c ≡ true
unfolding has_member any
within_has_member none_within o c e = e
within_has_member (one_within {s = s} {s' = s'} {ss = ss} {ss' = ss'} p q more rest) o c e =
    ⊎_elim
    (λ k.
    or_left (member c s'.properties && member o s'.members) (has_member ss' o c)
    (and_intro (member c s'.properties) (member o s'.members)
    (ap (member c) (sym p) ∙ and_left (member c s.properties) (member o s.members) k)
    (more o (and_right (member c s.properties) (member o s.members) k))))
    (λ k.
    or_right (member c s'.properties && member o s'.members) (has_member ss' o c) (within_has_member rest o c k))
    (or_cases (member c s.properties && member o s.members) (has_member ss o c) e)

within_admits : {now later : List Space} → Within now later → (o : ℕ) (r : Transition) → admits now o r ≡ true → admits later o r ≡ true
unfolding admits
within_admits {now} {later} h o r e =
    let enabled = support r.enablers in
    and_intro (is_empty r.start) (all (has_member later o) enabled)
    (and_left (is_empty r.start) (all (has_member now o) enabled) e)
    (all_intro (has_member later o) enabled
    (λ c m.
    within_has_member h o c
    (all_at (has_member now o) enabled (and_right (is_empty r.start) (all (has_member now o) enabled) e) c m)))

-- what spaces gain by a round stays within a closed list that they are within
gain_within : (t : Task) (now later : List Space) → Within now later → {part rest : List Space} → Within part rest
    → Closed t later rest → Within (map (gain t now) part) rest
unfolding gain
gain_within t now later h none_within closed = none_within
gain_within t now later h (one_within {s = s} {s' = s'} p q more rest) closed =
    one_within p q gained (gain_within t now later h rest (λ u m. closed u (Memᴰ.tail m)))
  where
    stays : ℕ → Bool
    stays o = member o s.members || any (admits now o) s.rules

    gained : (o : ℕ) → member o (keep stays (up_to t.objects)) ≡ true → member o s'.members ≡ true
    gained o e =
        let passed = keep_at stays (up_to t.objects) o (member_at o (keep stays (up_to t.objects)) e) in
        ⊎_elim (more o)
        (λ k.
        let rule = any_at (admits now o) s.rules k in
        closed s' (Memᴰ.head refl) rule.0 (subst (Memᴰ rule.0) q rule.1) o
        (up_to_at t.objects o passed.0) (within_admits h o rule.0 rule.2))
        (or_cases (member o s.members) (any (admits now o) s.rules) passed.1)

within_rounds : (t : Task) (n : ℕ) (now later : List Space) → Closed t later later → Within now later → Within (rounds t n now) later
unfolding rounds round
within_rounds t zero now later closed h = h
within_rounds t (suc n) now later closed h = within_rounds t n (round t now) later closed (gain_within t now later h h closed)

-- no more members than that asks for: any closed list with the initial members has all members of the spaces
pub closing_least : (t : Task) (later : List Space) → Within (initial_spaces t) later → Closed t later later → Within (spaces t) later
unfolding spaces
closing_least t later h closed = within_rounds t (length (initial_spaces t)) (initial_spaces t) later closed h
