-- The spaces that a listing has lines of: those of the task, and what is left of the mixed ones (document 02, No. 5). Nobody enters any of
-- them from outside, and where its kind gives conditions, P or H, these are its own lists joined.
use Prim.Native.Nat.{ℕ, zero, suc}
use mathlib.Core.Path.{◌≡◌, refl, sym, ap, ◌∙◌, subst}
use mathlib.Core.Bool.{true}
use mathlib.Core.Logic.{◌⊎◌, inl, inr, ⊎_elim}
use mathlib.Core.List.Memᴰ
use mathlib.Core.List.{List, [], ◌∷◌, ◌++◌, flat_map, Memᴰ}
use mathlib.Core.List.{append-nil}
use lib.ListN.{length}
use Rattle.laws.specs.Bags.{Bag}
use Rattle.laws.proofs.Tests.{never, by_test, cond_true, cond_false}
use Rattle.model.specs.Card.{Task}
use Rattle.model.specs.Spaces.{Space, Kind, static, attribute, property, mixed, wide, rescued, spaces}
use Rattle.model.specs.Extension.{Outcome, joined}
use Rattle.model.specs.Analysis.{Analysis, analysis, analyse, analyse_property_space, kind_for, conditions_for}
use Rattle.model.specs.Rescue.{without_hidden, narrowed, lost, rescued_as, rescue, if_mixed, rescues}
use Rattle.model.specs.Truth.{gives_conditions}
use Rattle.model.proofs.Parts.{Part, TwoSided, Enclosed, space_part, property_two_sided, narrowed_part, left_two_sided}
use Rattle.model.proofs.Parts.{space_enclosed, two_sided_enclosed}
use Rattle.model.proofs.ListedSpace.{extension_of, listed_as_property, conditions_listed, gives_as_property, mixed_without_conditions}
use Rattle.model.proofs.ListedSpace.{of_each_space}

-- A part whose extension ended neither way, so that its own lists are complete; its rules have both sides.
pub record Extended (t : Task) (u : Space) : Type 0 where
  pub part : Part t u
  pub two_sided : TwoSided u
  pub ended : (extension_of t u).outcome ≡ Outcome.neither

-- Its own lists joined are listed.
pub record ListsOwn (t : Task) (a : Analysis) : Type 0 where
  pub extended : Extended t a.space
  pub conditions_are : a.conditions ≡ joined (extension_of t a.space).lists

-- a space listed as P is such a part
pub property_extended : (t : Task) (u : Space) → Memᴰ u (spaces t) → (analyse t u).kind ≡ property → Extended t u
property_extended t u m e =
    let listed = listed_as_property t u e in
    record { part = space_part t u m; two_sided = property_two_sided t u m listed.rules_kind; ended = listed.ended }

-- ---- the rescue of a part

-- What is left is listed as H, with its own lists joined.
pub record Rescued (t : Task) (a : Analysis) : Type 0 where
  pub kind_is : a.kind ≡ rescued
  pub lists_own : ListsOwn t a

-- a rescue finds nothing, or one such analysis
pub data Found (t : Task) (found : List Analysis) : Type 0 where
  nothing : found ≡ [] → Found t found
  one : (b : Analysis) → found ≡ b ∷ [] → Rescued t b → Found t found

-- by how the extension of what is left ended
left_found : {t : Task} {left : Space} {again : List Analysis} → Part t left → TwoSided left → Found t again
    → (o : Outcome) → (extension_of t left).outcome ≡ o → Found t (rescued_as (kind_for o) (analyse_property_space t left) again)
unfolding kind_for rescued_as analyse_property_space conditions_for
left_found {t} {left} p two later Outcome.neither e =
    one (record { space = left; kind = rescued; conditions = (analyse_property_space t left).conditions; hidden = [] }) refl
    record {
      kind_is = refl;
      lists_own = record {
        extended = record { part = p; two_sided = two; ended = e };
        conditions_are = ap (λ (o : Outcome). conditions_for o (extension_of t left).lists) e;
      };
    }
left_found p two later (Outcome.mixed places) e = later
left_found p two later Outcome.wide e = nothing refl

pub rescue_found : {t : Task} {u : Space} → Part t u → (rounds : ℕ) (hidden : List ℕ) → Found t (rescue t rounds u hidden)
unfolding rescue analyse_property_space
rescue_found {u = u} p zero hidden = nothing refl
rescue_found {t = t} {u = u} p (suc rounds) hidden =
    let left = narrowed t u (without_hidden hidden u.properties) in
    let left_part = narrowed_part p hidden in
    let again = rescue_found {u = left} left_part rounds (analyse_property_space t left).hidden in
    by_test (lost left)
    (λ e. nothing (cond_true (lost left) [] _ e))
    (λ e.
    subst (Found t) (sym (cond_false (lost left) [] _ e))
    (left_found left_part (left_two_sided left e) again (extension_of t left).outcome refl))

-- A mixed space of the task, which has no conditions itself, and what is left of it.
pub record RescuedInto (t : Task) (a : Analysis) : Type 0 where
  pub left : Analysis
  pub rescues_are : rescues t a ≡ left ∷ []
  pub left_rescued : Rescued t left
  pub was_mixed : a.kind ≡ mixed
  pub no_conditions : a.conditions ≡ []

-- a space of the task is rescued so, or not at all
module _ (t : Task) (a : Analysis) (m : Memᴰ a (analysis t)) where
  abbrev rescue_of_lem : List Analysis
  rescue_of_lem = rescue t (length a.space.properties) a.space a.hidden

  -- the rescue counts only where the space is mixed
  rescues_by : (k : Kind) → a.kind ≡ k → rescues t a ≡ if_mixed k rescue_of_lem
  unfolding rescues
  rescues_by k e = ap (λ (x : Kind). if_mixed x rescue_of_lem) e

  if_mixed_lem : a.kind ≡ mixed → Found t rescue_of_lem → (rescues t a ≡ []) ⊎ RescuedInto t a
  unfolding if_mixed
  if_mixed_lem e (nothing none) = inl (rescues_by mixed e ∙ none)
  if_mixed_lem e (one b is r) =
      inr
      record {
        left = b;
        rescues_are = rescues_by mixed e ∙ is;
        left_rescued = r;
        was_mixed = e;
        no_conditions = of_each_space t (λ u x. x.kind ≡ mixed → x.conditions ≡ []) (λ u k. mixed_without_conditions t u) a m e;
      }

  by_kind : (k : Kind) → a.kind ≡ k → (rescues t a ≡ []) ⊎ RescuedInto t a
  unfolding if_mixed
  by_kind static e = inl (rescues_by static e)
  by_kind attribute e = inl (rescues_by attribute e)
  by_kind property e = inl (rescues_by property e)
  by_kind mixed e =
      if_mixed_lem e (rescue_found (of_each_space t (λ u x. Part t u) (space_part t) a m) (length a.space.properties) a.hidden)
  by_kind wide e = inl (rescues_by wide e)
  by_kind rescued e = inl (rescues_by rescued e)

  pub rescued_or_not : (rescues t a ≡ []) ⊎ RescuedInto t a
  rescued_or_not = by_kind a.kind refl

-- ---- the spaces of a listing

-- An analysis that a listing has lines of: that of a space of the task, or of what is left of a mixed one.
pub data InListing (t : Task) (a : Analysis) : Type 0 where
  of_task : Memᴰ a (analysis t) → InListing t a
  of_rescue : Rescued t a → InListing t a

-- nobody enters its space from outside
pub listing_enclosed : {t : Task} {a : Analysis} → InListing t a → Enclosed t a.space
listing_enclosed {t} {a} (of_task m) = of_each_space t (λ u x. Enclosed t u) (space_enclosed t) a m
listing_enclosed (of_rescue r) = let e = r.lists_own.extended in two_sided_enclosed e.part e.two_sided

-- where its kind gives conditions, P or H, they are its own lists joined
pub lists_own : {t : Task} {a : Analysis} → InListing t a → gives_conditions a.kind ≡ true → ListsOwn t a
lists_own {t} {a} (of_task m) e =
    let own =
    of_each_space t
    (λ u x. gives_conditions x.kind ≡ true → Extended t u × (x.conditions ≡ joined (extension_of t u).lists))
    (λ u k gives.
    let kind = gives_as_property t u gives in (property_extended t u k kind, (listed_as_property t u kind).conditions_are))
    a m e in
    record { extended = own.0; conditions_are = own.1 }
lists_own (of_rescue r) e = r.lists_own

-- and it gives them where there is one
pub with_condition : {t : Task} {a : Analysis} → InListing t a → (b : Bag) → Memᴰ b a.conditions → gives_conditions a.kind ≡ true
unfolding gives_conditions
with_condition {t} {a} (of_task m) b k =
    ap gives_conditions (of_each_space t (λ u x. Memᴰ b x.conditions → x.kind ≡ property) (λ u i. conditions_listed t u b) a m k)
with_condition (of_rescue r) b k = ap gives_conditions r.kind_is

-- ---- what a section has lines of: a space of the task and what is left of it

module _ (t : Task) (a : Analysis) (m : Memᴰ a (analysis t)) (b : Analysis) (k : Memᴰ b (a ∷ rescues t a)) where
  pub section_listing : InListing t b
  section_listing = ⊎_elim (λ e. of_task (subst (λ (x : Analysis). Memᴰ x (analysis t)) (sym e) m)) later (Memᴰ.cases_cons k)
    where
      later : Memᴰ b (rescues t a) → InListing t b
      later j =
          ⊎_elim (λ none. absurd (Memᴰ.not-nil (subst (Memᴰ b) none j)))
          (λ into.
          of_rescue (subst (Rescued t) (sym (Memᴰ.eq_of_singleton (subst (Memᴰ b) into.rescues_are j))) into.left_rescued))
          (rescued_or_not t a m)

  -- at most one of them gives conditions, so that all that are given are its own
  pub section_conditions : gives_conditions b.kind ≡ true → flat_map (λ (x : Analysis). x.conditions) (a ∷ rescues t a) ≡ b.conditions
  unfolding flat_map gives_conditions
  section_conditions gives = ⊎_elim alone with_rescue (rescued_or_not t a m)
    where
      alone : rescues t a ≡ [] → a.conditions ++ flat_map (λ (x : Analysis). x.conditions) (rescues t a) ≡ b.conditions
      alone none =
          let same : b ≡ a = Memᴰ.eq_of_singleton (subst (λ (rest : List Analysis). Memᴰ b (a ∷ rest)) none k) in
          ap (λ (rest : List Analysis). a.conditions ++ flat_map (λ (x : Analysis). x.conditions) rest) none
          ∙ append-nil a.conditions
          ∙ ap (λ (x : Analysis). x.conditions) (sym same)

      with_rescue : RescuedInto t a → a.conditions ++ flat_map (λ (x : Analysis). x.conditions) (rescues t a) ≡ b.conditions
      with_rescue into =
          let not_mixed : b ≡ a → b ≡ into.left =
          λ e. never (sym gives ∙ ap (λ (x : Analysis). gives_conditions x.kind) e ∙ ap gives_conditions into.was_mixed) in
          let same : b ≡ into.left =
          ⊎_elim not_mixed (λ j. Memᴰ.eq_of_singleton (subst (Memᴰ b) into.rescues_are j)) (Memᴰ.cases_cons k) in
          ap (λ (bags : List Bag). bags ++ flat_map (λ (x : Analysis). x.conditions) (rescues t a)) into.no_conditions
          ∙ ap (λ (rest : List Analysis). flat_map (λ (x : Analysis). x.conditions) rest) into.rescues_are
          ∙ append-nil into.left.conditions
          ∙ ap (λ (x : Analysis). x.conditions) (sym same)
