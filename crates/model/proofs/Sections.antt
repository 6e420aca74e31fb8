-- The lines of a section: which lines stand in the section of a space, and which in the closing section.
use Prim.Native.Nat.{ℕ, suc, ◌+◌, ◌<◌}
use native.Mathlib.Nat.{zero-add}
use mathlib.Core.Path.{◌≡◌, refl, sym, ap, ◌∙◌, subst}
use mathlib.Core.Bool.{true, false}
use mathlib.Core.Logic.{⊎_elim}
use mathlib.Core.List.Memᴰ
use mathlib.Core.List.{List, [], ◌∷◌, ◌++◌, map, flat_map, Memᴰ}
use mathlib.Core.List.{append-nil}
use lib.Dec.{leb, eqb}
use lib.ListN.{length, get_or}
use borrow.Author.Tests.{eq-eqb}
use Rattle.laws.specs.Lists.{all, keep, from, up_to}
use Rattle.laws.specs.Bags.{Bag, strictly_within, support}
use Rattle.laws.proofs.Tests.{never}
use Rattle.laws.proofs.Lists.{keep_at, flat_map_at, flat_map_intro, up_to_at, mem_get_d}
use Rattle.model.specs.Card.{Task, Schema}
use Rattle.model.specs.Strips.{schema_at}
use Rattle.model.specs.Transitions
use Rattle.model.specs.Transitions.{bag_of}
use Rattle.model.specs.Spaces.{Space, Kind, property, has_member, spaces}
use Rattle.model.specs.Analysis.{Analysis, analysis}
use Rattle.model.specs.Rescue.{rescues}
use Rattle.model.specs.Lines.{Line, space, state, limit, membership, exclusion, nesting, total, ceiling, types, count_of}
use Rattle.model.specs.Lines.{largest, arity_of, limits, minimal, excluded, exclusions, surrounding, nestings, space_lines, section_lines}
use Rattle.model.specs.Lines.{space_sections, totals, of_predicate, ceilings, types_of, type_lines, closing_lines, sections}
use Rattle.model.specs.Truth.{◌is_on◌, ◌is_section_of◌, gives_conditions, states_of}
use Rattle.model.proofs.ListedSpace.{spaces_of_analysis}
use Rattle.model.proofs.ListedParts.{InListing, with_condition, section_listing, section_conditions}
use Rattle.model.proofs.ClosingLines.{TotalLine, total_of_property, Capped, types_line, types_present, ClosingLine, is_total, is_ceiling, is_types}
use Rattle.model.proofs.ClosingLines.{closing_line}

-- a line of the section of a space
data SpaceLine (t : Task) (n : ℕ) (a : Analysis) (line : Line) : Type 0 where
  is_space : line ≡ space n a.kind a.space.properties a.space.members → SpaceLine t n a line
  is_state : (b : Bag) → Memᴰ b a.conditions → line ≡ state b → SpaceLine t n a line
  is_limit : Memᴰ line (limits t a.space.properties a.conditions) → SpaceLine t n a line
  is_membership : (i : ℕ) → Memᴰ i (minimal a.conditions) → line ≡ membership i → SpaceLine t n a line
  is_exclusion : Memᴰ line (exclusions a.conditions (minimal a.conditions)) → SpaceLine t n a line
  is_nesting : Memᴰ line (nestings a.conditions) → SpaceLine t n a line

space_line : (t : Task) (n : ℕ) (a : Analysis) (line : Line) → Memᴰ line (space_lines t n a) → SpaceLine t n a line
unfolding space_lines
space_line t n a line m =
    ⊎_elim is_space
    (λ whole.
    ⊎_elim
    (λ rest.
    ⊎_elim
    (λ front.
    ⊎_elim
    (λ first.
    ⊎_elim
    (λ states. let r = Memᴰ.of_map state a.conditions states in is_state r.0 r.1 (sym r.2))
    is_limit
    (Memᴰ.append_cases (map state a.conditions) first))
    (λ last. let r = Memᴰ.of_map membership (minimal a.conditions) last in is_membership r.0 r.1 (sym r.2))
    (Memᴰ.append_cases (map state a.conditions ++ limits t a.space.properties a.conditions) front))
    is_exclusion
    (Memᴰ.append_cases
    (map state a.conditions ++ limits t a.space.properties a.conditions ++ map membership (minimal a.conditions))
    rest))
    is_nesting
    (Memᴰ.append_cases
    (map state a.conditions ++ limits t a.space.properties a.conditions ++ map membership (minimal a.conditions)
    ++ exclusions a.conditions (minimal a.conditions))
    whole))
    (Memᴰ.cases_cons m)

-- an M line gives a property of the space and the largest of its counts
pub limit_line : (t : Task) (properties : List ℕ) (bags : List Bag) (line : Line) → Memᴰ line (limits t properties bags)
    → (c : ℕ) × Memᴰ c properties × (line ≡ limit c (largest (map (count_of properties c) bags)))
unfolding limits
limit_line t properties [] line m = absurd (Memᴰ.not-nil m)
limit_line t properties (b ∷ bags) line m =
    let r =
    Memᴰ.of_map (λ c. limit c (largest (map (count_of properties c) (b ∷ bags))))
    (keep _ properties)
    m in
    (r.0, (keep_at _ properties r.0 r.1).0, sym r.2)

-- and it stands only where a condition is listed
limit_needs : (t : Task) (properties : List ℕ) (bags : List Bag) (line : Line) → Memᴰ line (limits t properties bags)
    → (b : Bag) × Memᴰ b bags
unfolding limits
limit_needs t properties [] line m = absurd (Memᴰ.not-nil m)
limit_needs t properties (b ∷ bags) line m = (b, Memᴰ.head refl)

-- an X line gives two of the conditions that no condition contains both of
pub exclusion_line : (bags : List Bag) (indices : List ℕ) (line : Line) → Memᴰ line (exclusions bags indices)
    → (i : ℕ) × (j : ℕ) × (excluded bags i j ≡ true) × (line ≡ exclusion i j) × Memᴰ i indices × Memᴰ j indices
unfolding exclusions
exclusion_line bags [] line m = absurd (Memᴰ.not-nil m)
exclusion_line bags (i ∷ later) line m =
    ⊎_elim
    (λ now.
    let r = Memᴰ.of_map (exclusion i) (keep (excluded bags i) later) now in
    let k = keep_at (excluded bags i) later r.0 r.1 in
    (i, r.0, k.1, sym r.2, Memᴰ.head refl, Memᴰ.tail k.0))
    (λ rest. let r = exclusion_line bags later line rest in (r.0, r.1, r.2, r.3, Memᴰ.tail r.4, Memᴰ.tail r.5))
    (Memᴰ.append_cases (map (exclusion i) (keep (excluded bags i) later)) m)

-- an E line gives two conditions, the first strictly within the second
pub nesting_line : (bags : List Bag) (line : Line) → Memᴰ line (nestings bags)
    → (i : ℕ) × (j : ℕ) × (i < length bags) × (j < length bags) × (strictly_within (get_or bags i []) (get_or bags j []) ≡ true)
    × (line ≡ nesting i j)
unfolding nestings surrounding
nesting_line bags line m =
    let r = flat_map_at (λ i. map (nesting i) (surrounding bags i)) (up_to (length bags)) line m in
    let s = Memᴰ.of_map (nesting r.0) (surrounding bags r.0) r.2 in
    let k = keep_at (λ j. strictly_within (get_or bags r.0 []) (get_or bags j [])) (up_to (length bags)) s.0 s.1 in
    (r.0, s.0, up_to_at (length bags) r.0 r.1, up_to_at (length bags) s.0 k.0, k.1, sym s.2)

-- ---- the conditions that lines give

states_append : (xs ys : List Line) → states_of (xs ++ ys) ≡ states_of xs ++ states_of ys
unfolding states_of
states_append [] ys = refl
states_append (space n kind properties members ∷ xs) ys = states_append xs ys
states_append (state counts ∷ xs) ys = ap {B = List Bag} (λ l. counts ∷ l) (states_append xs ys)
states_append (limit c most ∷ xs) ys = states_append xs ys
states_append (membership i ∷ xs) ys = states_append xs ys
states_append (exclusion i j ∷ xs) ys = states_append xs ys
states_append (nesting i j ∷ xs) ys = states_append xs ys
states_append (total p n ∷ xs) ys = states_append xs ys
states_append (ceiling p n ∷ xs) ys = states_append xs ys
states_append (types n k objects ∷ xs) ys = states_append xs ys

states_of_states : (bags : List Bag) → states_of (map state bags) ≡ bags
unfolding states_of
states_of_states [] = refl
states_of_states (b ∷ bags) = ap {B = List Bag} (λ l. b ∷ l) (states_of_states bags)

-- a list of lines of another letter gives no conditions
no_states : (f : ℕ → Line) → ((i : ℕ) (lines : List Line) → states_of (f i ∷ lines) ≡ states_of lines) → (ns : List ℕ)
    → states_of (map f ns) ≡ []
unfolding states_of
no_states f h [] = refl
no_states f h (n ∷ ns) = h n (map f ns) ∙ no_states f h ns

no_limit_states : (t : Task) (properties : List ℕ) (bags : List Bag) → states_of (limits t properties bags) ≡ []
unfolding states_of limits
no_limit_states t properties [] = refl
no_limit_states t properties (b ∷ bags) =
    no_states (λ c. limit c (largest (map (count_of properties c) (b ∷ bags)))) (λ i lines. refl)
    (keep (λ c. leb 2 (arity_of t c)) properties)

no_exclusion_states : (bags : List Bag) (indices : List ℕ) → states_of (exclusions bags indices) ≡ []
unfolding states_of exclusions
no_exclusion_states bags [] = refl
no_exclusion_states bags (i ∷ later) =
    states_append (map (exclusion i) (keep (excluded bags i) later)) (exclusions bags later)
    ∙ ap (λ (l : List Bag). l ++ states_of (exclusions bags later)) (no_states (exclusion i) (λ j lines. refl) (keep (excluded bags i) later))
    ∙ no_exclusion_states bags later

no_nesting_states : (bags : List Bag) → states_of (nestings bags) ≡ []
unfolding states_of nestings flat_map
no_nesting_states bags = go (up_to (length bags))
  where
    go : (indices : List ℕ) → states_of (flat_map (λ i. map (nesting i) (surrounding bags i)) indices) ≡ []
    go [] = refl
    go (i ∷ indices) =
        states_append (map (nesting i) (surrounding bags i)) (flat_map (λ k. map (nesting k) (surrounding bags k)) indices)
        ∙ ap (λ (l : List Bag). l ++ states_of (flat_map (λ k. map (nesting k) (surrounding bags k)) indices))
        (no_states (nesting i) (λ j lines. refl) (surrounding bags i))
        ∙ go indices

-- the conditions that the lines of a space give are its T lines
states_of_space : (t : Task) (n : ℕ) (a : Analysis) → states_of (space_lines t n a) ≡ a.conditions
unfolding space_lines states_of
states_of_space t n a =
    let bags = a.conditions in
    let most = limits t a.space.properties bags in
    let pairs = exclusions bags (minimal bags) in
    states_append (map state bags ++ most ++ map membership (minimal bags) ++ pairs) (nestings bags)
    ∙ ap (λ (l : List Bag). l ++ states_of (nestings bags)) (states_append (map state bags ++ most ++ map membership (minimal bags)) pairs)
    ∙ ap (λ (l : List Bag). l ++ states_of pairs ++ states_of (nestings bags)) (states_append (map state bags ++ most) (map membership (minimal bags)))
    ∙ ap (λ (l : List Bag). l ++ states_of (map membership (minimal bags)) ++ states_of pairs ++ states_of (nestings bags))
    (states_append (map state bags) most)
    ∙ simp (states_of_states, no_limit_states, no_states membership (λ i lines. refl), no_exclusion_states, no_nesting_states, append-nil)

states_of_all : (t : Task) (n : ℕ) (analyses : List Analysis)
    → states_of (flat_map (space_lines t n) analyses) ≡ flat_map (λ (a : Analysis). a.conditions) analyses
unfolding flat_map states_of
states_of_all t n [] = refl
states_of_all t n (a ∷ analyses) =
    states_append (space_lines t n a) (flat_map (space_lines t n) analyses)
    ∙ ap (λ (bags : List Bag). bags ++ states_of (flat_map (space_lines t n) analyses)) (states_of_space t n a)
    ∙ ap (λ (bags : List Bag). a.conditions ++ bags) (states_of_all t n analyses)

-- ---- sections

-- The lines of an analysis are in a section, under the number of its space; and if its kind gives conditions, it gives those of the section.
pub record ListedIn (t : Task) (lines : List Line) (n : ℕ) (a : Analysis) : Type 0 where
  pub in_listing : InListing t a
  pub has_line : (line : Line) → line is_on space_lines t n a → line is_on lines
  pub states_are : gives_conditions a.kind ≡ true → states_of lines ≡ a.conditions

-- so are those of a space of the task and of what is left of it
listed_in : (t : Task) (n : ℕ) (a : Analysis) → Memᴰ a (analysis t) → (b : Analysis) → Memᴰ b (a ∷ rescues t a)
    → ListedIn t (section_lines t n a) n b
unfolding section_lines
listed_in t n a m b k =
    record {
      in_listing = section_listing t a m b k;
      has_line = λ line on. flat_map_intro (space_lines t n) (a ∷ rescues t a) b line k on;
      states_are = λ gives. states_of_all t n (a ∷ rescues t a) ∙ section_conditions t a m b k gives;
    }

-- an analysis with a condition gives the conditions of its section
states_with_condition : {t : Task} {lines : List Line} {n : ℕ} {a : Analysis} → ListedIn t lines n a → (b : Bag) → Memᴰ b a.conditions
    → states_of lines ≡ a.conditions
states_with_condition l b k = l.states_are (with_condition l.in_listing b k)

-- a section is that of a space, or the closing one
pub data Section (t : Task) (lines : List Line) : Type 0 where
  of_space : (n : ℕ) (a : Analysis) → Memᴰ a (analysis t) → lines ≡ section_lines t n a → Section t lines
  closing : lines ≡ closing_lines t (analysis t) → Section t lines

space_section : (t : Task) (n : ℕ) (analyses : List Analysis) (lines : List Line) → Memᴰ lines (space_sections t n analyses)
    → (i : ℕ) × (a : Analysis) × Memᴰ a analyses × (lines ≡ section_lines t i a)
unfolding space_sections
space_section t n [] lines m = absurd (Memᴰ.not-nil m)
space_section t n (a ∷ analyses) lines m =
    ⊎_elim (λ e. (n, a, Memᴰ.head refl, e))
    (λ k. let r = space_section t (suc n) analyses lines k in (r.0, r.1, Memᴰ.tail r.2, r.3))
    (Memᴰ.cases_cons m)

pub section_of_lem : (t : Task) (lines : List Line) → lines is_section_of t → Section t lines
unfolding sections
section_of_lem t lines m =
    ⊎_elim (λ k. let r = space_section t 0 (analysis t) lines k in of_space r.0 r.1 r.2 r.3)
    (λ k. closing (Memᴰ.eq_of_singleton k))
    (Memᴰ.append_cases (space_sections t 0 (analysis t)) m)

-- lines of different letters are different
letter : Line → ℕ
letter (space n kind properties members) = 0
letter (state counts) = 1
letter (limit c most) = 2
letter (membership i) = 3
letter (exclusion i j) = 4
letter (nesting i j) = 5
letter (total p n) = 6
letter (ceiling p n) = 7
letter (types n k objects) = 8

clash : {A : Type 0} (x y : Line) → x ≡ y → eqb (letter x) (letter y) ≡ false → A
clash x y e f = never (sym (eq-eqb (letter x) (letter y) (ap letter e)) ∙ f)

limit_only : {A : Type 0} (t : Task) (properties : List ℕ) (bags : List Bag) (line : Line)
    → Memᴰ line (limits t properties bags) → eqb (letter line) 2 ≡ false → A
unfolding letter
limit_only t properties bags line m e =
    let r = limit_line t properties bags line m in clash line (limit r.0 _) r.2 e

exclusion_only : {A : Type 0} (bags : List Bag) (indices : List ℕ) (line : Line) → Memᴰ line (exclusions bags indices)
    → eqb (letter line) 4 ≡ false → A
unfolding letter
exclusion_only bags indices line m e =
    let r = exclusion_line bags indices line m in clash line (exclusion r.0 r.1) r.3 e

nesting_only : {A : Type 0} (bags : List Bag) (line : Line) → Memᴰ line (nestings bags) → eqb (letter line) 5 ≡ false → A
unfolding letter
nesting_only bags line m e = let r = nesting_line bags line m in clash line (nesting r.0 r.1) r.5 e

blank : Schema
blank = record { parameters = 0; preconditions = []; deletes = []; adds = [] }

types_only : {A : Type 0} (t : Task) (line : Line)
    → Memᴰ line (type_lines t (spaces t) 0 t.schemas) → eqb (letter line) 8 ≡ false → A
unfolding letter types_of blank
types_only t line m e = clash line (types _ _ _) (types_line t (spaces t) 0 t.schemas blank line m).4 e

-- the lines of a space have the letters S, T, M, D, X, E, and those of the closing section F, C, R
space_letter : (t : Task) (n : ℕ) (a : Analysis) (line : Line) → SpaceLine t n a line → leb (letter line) 5 ≡ true
unfolding letter
space_letter t n a line (is_space e) = ap (λ (l : Line). leb (letter l) 5) e
space_letter t n a line (is_state b m e) = ap (λ (l : Line). leb (letter l) 5) e
space_letter t n a line (is_limit m) =
    ap (λ (l : Line). leb (letter l) 5) (limit_line t a.space.properties a.conditions line m).2
space_letter t n a line (is_membership i m e) = ap (λ (l : Line). leb (letter l) 5) e
space_letter t n a line (is_exclusion m) =
    ap (λ (l : Line). leb (letter l) 5) (exclusion_line a.conditions (minimal a.conditions) line m).3
space_letter t n a line (is_nesting m) = ap (λ (l : Line). leb (letter l) 5) (nesting_line a.conditions line m).5

closing_letter : (t : Task) (line : Line) → ClosingLine t line → leb (letter line) 5 ≡ false
unfolding letter types_of
closing_letter t line (is_total p n l e) = ap (λ (l : Line). leb (letter l) 5) e
closing_letter t line (is_ceiling p l e) = ap (λ (l : Line). leb (letter l) 5) e
closing_letter t line (is_types m) =
    ap (λ (l : Line). leb (letter l) 5) (types_line t (spaces t) 0 t.schemas blank line m).4

-- a line of a space, in the section that it stands in
record OfSpace (t : Task) (lines : List Line) (line : Line) : Type 0 where
  pub number : ℕ
  pub of : Analysis
  pub of_listed : ListedIn t lines number of
  pub stands : SpaceLine t number of line

-- a line of a section of a space is one of that space, or of what is left of it
section_line : (t : Task) (n : ℕ) (a : Analysis) → Memᴰ a (analysis t) → (line : Line) → line is_on section_lines t n a
    → OfSpace t (section_lines t n a) line
unfolding section_lines
section_line t n a l line m =
    let r = flat_map_at (space_lines t n) (a ∷ rescues t a) line m in
    record { number = n; of = r.0; of_listed = listed_in t n a l r.0 r.1; stands = space_line t n r.0 line r.2 }

of_a_space : (t : Task) (lines : List Line) (line : Line) → lines is_section_of t → line is_on lines → leb (letter line) 5 ≡ true
    → OfSpace t lines line
of_a_space t lines line s m h = go (section_of_lem t lines s)
  where
    go : Section t lines → OfSpace t lines line
    go (of_space i a l e) =
        subst (λ (x : List Line). OfSpace t x line) (sym e) (section_line t i a l line (subst (λ (x : List Line). Memᴰ line x) e m))
    go (closing e) =
        never (sym h ∙ closing_letter t line (closing_line t line (subst (λ (x : List Line). Memᴰ line x) e m)))

of_the_closing : (t : Task) (lines : List Line) (line : Line) → lines is_section_of t → line is_on lines
    → leb (letter line) 5 ≡ false → ClosingLine t line
of_the_closing t lines line s m h = go (section_of_lem t lines s)
  where
    go : Section t lines → ClosingLine t line
    go (of_space i a l e) =
        let r = section_line t i a l line (subst (λ (x : List Line). Memᴰ line x) e m) in
        never (sym (space_letter t r.number r.of line r.stands) ∙ h)
    go (closing e) = closing_line t line (subst (λ (x : List Line). Memᴰ line x) e m)

-- an S line stands in the section of its space
pub record OnSpace (t : Task) (lines : List Line) (n : ℕ) (kind : Kind) (properties members : List ℕ) : Type 0 where
  pub of : Analysis
  pub of_listed : ListedIn t lines n of
  pub kind_is : kind ≡ of.kind
  pub properties_are : properties ≡ of.space.properties
  pub members_are : members ≡ of.space.members

pub on_space : (t : Task) (lines : List Line) (n : ℕ) (kind : Kind) (properties members : List ℕ) → lines is_section_of t
    → space n kind properties members is_on lines → OnSpace t lines n kind properties members
unfolding letter
on_space t lines n kind properties members s m = go (of_a_space t lines (space n kind properties members) s m refl)
  where
    found : (i : ℕ) (a : Analysis) → ListedIn t lines i a → SpaceLine t i a (space n kind properties members)
        → OnSpace t lines n kind properties members
    found i a l (is_space p) =
        let number_is : i ≡ n = cc in
        record {
          of = a;
          of_listed = subst (λ (k : ℕ). ListedIn t lines k a) number_is l;
          kind_is = cc;
          properties_are = cc;
          members_are = cc;
        }
    found i a l (is_state b k p) = clash (space n kind properties members) (state b) p refl
    found i a l (is_limit k) = limit_only t _ _ (space n kind properties members) k refl
    found i a l (is_membership j k p) = clash (space n kind properties members) (membership j) p refl
    found i a l (is_exclusion k) = exclusion_only _ _ (space n kind properties members) k refl
    found i a l (is_nesting k) = nesting_only _ (space n kind properties members) k refl

    go : OfSpace t lines (space n kind properties members) → OnSpace t lines n kind properties members
    go r = found r.number r.of r.of_listed r.stands

-- an M line stands in the section of a space with its property; its most is the largest count over the conditions
pub record OnLimit (t : Task) (c most : ℕ) : Type 0 where
  pub of : Analysis
  pub of_listed : InListing t of
  pub in_space : Memᴰ c of.space.properties
  pub largest_is : most ≡ largest (map (count_of of.space.properties c) of.conditions)
  pub some_condition : (b : Bag) × Memᴰ b of.conditions

pub on_limit : (t : Task) (lines : List Line) (c most : ℕ) → lines is_section_of t → limit c most is_on lines → OnLimit t c most
unfolding letter
on_limit t lines c most s m = go (of_a_space t lines (limit c most) s m refl)
  where
    found : (i : ℕ) (a : Analysis) → InListing t a → SpaceLine t i a (limit c most) → OnLimit t c most
    found i a l (is_space p) = clash (limit c most) (space _ _ _ _) p refl
    found i a l (is_state b k p) = clash (limit c most) (state b) p refl
    found i a l (is_limit k) =
        let r = limit_line t a.space.properties a.conditions (limit c most) k in
        let same_property : c ≡ r.0 = cc in
        record {
          of = a;
          of_listed = l;
          in_space = subst (λ (d : ℕ). Memᴰ d a.space.properties) (sym same_property) r.1;
          largest_is = most_is r.0 r.2;
          some_condition = limit_needs t a.space.properties a.conditions (limit c most) k;
        }
      where
        most_is : (d : ℕ) → limit c most ≡ limit d (largest (map (count_of a.space.properties d) a.conditions))
            → most ≡ largest (map (count_of a.space.properties c) a.conditions)
        most_is d e =
            let first : most ≡ largest (map (count_of a.space.properties d) a.conditions) = cc in
            let second : d ≡ c = cc in
            first ∙ ap (λ (x : ℕ). largest (map (count_of a.space.properties x) a.conditions)) second
    found i a l (is_membership j k p) = clash (limit c most) (membership j) p refl
    found i a l (is_exclusion k) = exclusion_only _ _ (limit c most) k refl
    found i a l (is_nesting k) = nesting_only _ (limit c most) k refl

    go : OfSpace t lines (limit c most) → OnLimit t c most
    go r = found r.number r.of r.of_listed.in_listing r.stands

-- and it stands only where a condition is listed
exclusion_needs : (bags : List Bag) (line : Line) → Memᴰ line (exclusions bags (minimal bags)) → (b : Bag) × Memᴰ b bags
unfolding exclusions minimal keep up_to from
exclusion_needs [] line m = absurd (Memᴰ.not-nil m)
exclusion_needs (b ∷ bags) line m = (b, Memᴰ.head refl)

-- an X line in a section: no condition of the section contains both
pub on_exclusion : (t : Task) (lines : List Line) (i j : ℕ) → lines is_section_of t → exclusion i j is_on lines
    → excluded (states_of lines) i j ≡ true
unfolding letter
on_exclusion t lines i j s m = go (of_a_space t lines (exclusion i j) s m refl)
  where
    found : (n : ℕ) (a : Analysis) → SpaceLine t n a (exclusion i j)
        → (excluded a.conditions i j ≡ true) × ((b : Bag) × Memᴰ b a.conditions)
    found n a (is_space p) = clash (exclusion i j) (space _ _ _ _) p refl
    found n a (is_state b k p) = clash (exclusion i j) (state b) p refl
    found n a (is_limit k) = limit_only t _ _ (exclusion i j) k refl
    found n a (is_membership x k p) = clash (exclusion i j) (membership x) p refl
    found n a (is_exclusion k) =
        let r = exclusion_line a.conditions (minimal a.conditions) (exclusion i j) k in
        let first : i ≡ r.0 = cc in
        let second : j ≡ r.1 = cc in (
          ap (λ (x : ℕ). excluded a.conditions x j) first ∙ ap (excluded a.conditions r.0) second ∙ r.2,
          exclusion_needs a.conditions (exclusion i j) k,
        )
    found n a (is_nesting k) = nesting_only _ (exclusion i j) k refl

    go : OfSpace t lines (exclusion i j) → excluded (states_of lines) i j ≡ true
    go r =
        let e = found r.number r.of r.stands in
        ap (λ (bags : List Bag). excluded bags i j) (states_with_condition r.of_listed e.1.0 e.1.1) ∙ e.0

pub on_total : (t : Task) (lines : List Line) (p n : ℕ) → lines is_section_of t → total p n is_on lines → TotalLine t p n
unfolding letter
on_total t lines p n s m = found (of_the_closing t lines (total p n) s m refl)
  where
    found : ClosingLine t (total p n) → TotalLine t p n
    found (is_total q k l e) =
        let first : q ≡ p = cc in
        let second : k ≡ n = cc in
        subst (λ (x : ℕ). TotalLine t x n) first (subst (λ (y : ℕ). TotalLine t q y) second l)
    found (is_ceiling q h e) = clash (total p n) (ceiling q _) e refl
    found (is_types k) = types_only t (total p n) k refl

-- and it comes from a space of the task that is listed as P, so not from what is left of a mixed one
pub total_from_property : (t : Task) (lines : List Line) (p n : ℕ) → lines is_section_of t → total p n is_on lines
    → (r : TotalLine t p n) × (r.of.kind ≡ property)
total_from_property t lines p n s m = let r = on_total t lines p n s m in (r, total_of_property r)

pub on_ceiling : (t : Task) (lines : List Line) (p n : ℕ) → lines is_section_of t → ceiling p n is_on lines
    → Capped t p × (n ≡ of_predicate p t.facts)
unfolding letter
on_ceiling t lines p n s m = found (of_the_closing t lines (ceiling p n) s m refl)
  where
    found : ClosingLine t (ceiling p n) → Capped t p × (n ≡ of_predicate p t.facts)
    found (is_total q k l e) = clash (ceiling p n) (total q k) e refl
    found (is_ceiling q h e) =
        let first : q ≡ p = cc in
        let second : n ≡ of_predicate q t.facts = cc in
        (subst (λ (x : ℕ). Capped t x) first h, second ∙ ap (λ (x : ℕ). of_predicate x t.facts) first)
    found (is_types k) = types_only t (ceiling p n) k refl

-- an R line: the objects in every space of the task that has a precondition property of the parameter
unfoldable pub typed : Task → ℕ → ℕ → List ℕ
typed t n k =
    keep
    (λ o. all (has_member (spaces t) o) (support (bag_of (Transitions.properties t) (schema_at t n).preconditions k)))
    (up_to t.objects)

pub on_types : (t : Task) (lines : List Line) (n k : ℕ) (objects : List ℕ) → lines is_section_of t → types n k objects is_on lines
    → (objects ≡ typed t n k) × (k < (schema_at t n).parameters)
unfolding letter typed types_of schema_at blank
on_types t lines n k objects s m = found (of_the_closing t lines (types n k objects) s m refl)
  where
    found : ClosingLine t (types n k objects) → (objects ≡ typed t n k) × (k < (schema_at t n).parameters)
    found (is_total q x l e) = clash (types n k objects) (total q x) e refl
    found (is_ceiling q h e) = clash (types n k objects) (ceiling q _) e refl
    found (is_types x) =
        let r = types_line t (spaces t) 0 t.schemas blank (types n k objects) x in
        inverted r.0 r.1 r.3 r.4
      where
        inverted : (i j : ℕ) → j < (get_or t.schemas i blank).parameters
            → types n k objects ≡ types_of t (spaces t) (0 + i) (get_or t.schemas i blank) j
            → (objects ≡ typed t n k) × (k < (schema_at t n).parameters)
        inverted i j h e =
            let schema_is : 0 + i ≡ n = cc in
            let parameter_is : j ≡ k = cc in
            let objects_are : objects ≡ typed t i j = cc in
            let same_schema = sym (zero-add i) ∙ schema_is in (
              objects_are ∙ ap (λ (x : ℕ). typed t x j) same_schema ∙ ap (typed t n) parameter_is,
              subst (λ (x : ℕ). k < (schema_at t x).parameters) same_schema
                  (subst (λ (x : ℕ). x < (schema_at t i).parameters) parameter_is h),
            )

-- each parameter of each schema has an R line
pub types_on : (t : Task) (n k : ℕ) → n < length t.schemas → k < (schema_at t n).parameters
    → (lines : List Line) × (objects : List ℕ) × (lines is_section_of t) × (types n k objects is_on lines)
unfolding schema_at types_of sections closing_lines typed blank
types_on t n k hn hk = (
  closing_lines t (analysis t),
  typed t n k,
  Memᴰ.append_right (space_sections t 0 (analysis t)) (Memᴰ.head refl),
  Memᴰ.append_right
      (flat_map (totals t (analysis t)) (up_to (length t.arities)) ++ flat_map (ceilings t) (up_to (length t.arities)))
      (subst
      (λ (among : List Space). Memᴰ (types_of t (spaces t) n (get_or t.schemas n blank) k) (type_lines t among 0 t.schemas))
      (sym (spaces_of_analysis t))
      (subst (λ (x : ℕ). Memᴰ (types_of t (spaces t) x (get_or t.schemas n blank) k) (type_lines t (spaces t) 0 t.schemas))
      (zero-add n)
      (types_present t (spaces t) 0 t.schemas blank n k hn hk))),
)

pub state_on : (t : Task) (n : ℕ) (a : Analysis) (b : Bag) → Memᴰ b a.conditions → state b is_on space_lines t n a
unfolding space_lines
state_on t n a b m =
    Memᴰ.tail
    (Memᴰ.append_left (nestings a.conditions)
    (Memᴰ.append_left (exclusions a.conditions (minimal a.conditions))
    (Memᴰ.append_left (map membership (minimal a.conditions))
    (Memᴰ.append_left (limits t a.space.properties a.conditions) (Memᴰ.map state m)))))

pub membership_on : (t : Task) (n : ℕ) (a : Analysis) (i : ℕ) → Memᴰ i (minimal a.conditions)
    → membership i is_on space_lines t n a
unfolding space_lines
membership_on t n a i m =
    Memᴰ.tail
    (Memᴰ.append_left (nestings a.conditions)
    (Memᴰ.append_left (exclusions a.conditions (minimal a.conditions))
    (Memᴰ.append_right (map state a.conditions ++ limits t a.space.properties a.conditions) (Memᴰ.map membership m))))

-- an E line in a section: two of its conditions, the first strictly within the second
pub on_nesting : (t : Task) (lines : List Line) (i j : ℕ) → lines is_section_of t → nesting i j is_on lines
    → (i < length (states_of lines)) × (j < length (states_of lines))
    × (strictly_within (get_or (states_of lines) i []) (get_or (states_of lines) j []) ≡ true)
unfolding letter
on_nesting t lines i j s m = go (of_a_space t lines (nesting i j) s m refl)
  where
    Nested : List Bag → Type 0
    Nested bags = (i < length bags) × (j < length bags) × (strictly_within (get_or bags i []) (get_or bags j []) ≡ true)

    found : (n : ℕ) (a : Analysis) → SpaceLine t n a (nesting i j) → Nested a.conditions
    found n a (is_space p) = clash (nesting i j) (space _ _ _ _) p refl
    found n a (is_state b k p) = clash (nesting i j) (state b) p refl
    found n a (is_limit k) = limit_only t _ _ (nesting i j) k refl
    found n a (is_membership x k p) = clash (nesting i j) (membership x) p refl
    found n a (is_exclusion k) = exclusion_only _ _ (nesting i j) k refl
    found n a (is_nesting k) =
        let r = nesting_line a.conditions (nesting i j) k in
        let first : r.0 ≡ i = cc in
        let second : r.1 ≡ j = cc in
        let bags = a.conditions in (
          subst (λ (x : ℕ). x < length bags) first r.2,
          subst (λ (x : ℕ). x < length bags) second r.3,
          subst (λ (x : ℕ). strictly_within (get_or bags x []) (get_or bags j []) ≡ true) first
              (subst (λ (x : ℕ). strictly_within (get_or bags r.0 []) (get_or bags x []) ≡ true) second r.4),
        )

    go : OfSpace t lines (nesting i j) → Nested (states_of lines)
    go r =
        let nested = found r.number r.of r.stands in
        let some = mem_get_d r.of.conditions i [] nested.0 in
        subst Nested (sym (states_with_condition r.of_listed (get_or r.of.conditions i []) some)) nested
