-- Document 01, "Spaces": which properties share a space, what kind a space is, and which objects are its members.
use Rattle.std.specs.Prelude.{ℕ, zero, suc, min, Bool, cond, not, ◌&&◌, ◌||◌, eqb, length, get_or}
use mathlib.Core.List.{List, [], ◌∷◌, map, foldl}
use Rattle.laws.specs.Lists.{any, all, keep, up_to, member}
use Rattle.laws.specs.Bags.{Bag, plus, is_empty, support, restrict}
use Rattle.model.specs.Card.{Atom, Task}
use Rattle.model.specs.Transitions
use Rattle.model.specs.Transitions.{Transition, properties, bag_of, transitions}

-- the start and finish properties of a rule
unfoldable pub moved : Transition → List ℕ
moved r = support (plus r.start r.finish)

-- A grouping gives each property, by number, the lowest property of its group.
-- Two properties are brought into one group: whoever has the higher of their two lowest properties gets the lower one
unfoldable pub unite : ℕ → List ℕ → ℕ → List ℕ
unite c groups d =
    let g = get_or groups c 0 in
    let h = get_or groups d 0 in
    map (λ l. cond (eqb l g || eqb l h) (min g h) l) groups

-- the properties of a list share a group: each is brought together with the first
unfoldable pub unite_all : List ℕ → List ℕ → List ℕ
unite_all groups [] = groups
unite_all groups (c ∷ cs) = foldl (unite c) groups cs

-- all start and finish properties of one rule share a group, and no more is shared than that asks for
unfoldable pub grouping : ℕ → List Transition → List ℕ
grouping size rules = foldl (λ groups r. unite_all groups (moved r)) (up_to size) rules

-- A space: its properties ascending, the rules that move them, and its members ascending.
pub record Space : Type 0 where
  pub properties : List ℕ
  pub rules : List Transition
  pub members : List ℕ

-- the rule has a start or finish property among these. Of a space it then has no other: they share a space
unfoldable pub moves : List ℕ → Transition → Bool
moves properties r = any (λ c. member c properties) (moved r)

-- an object's condition in a space when these facts hold: its bag over the space's properties
unfoldable pub condition : Task → List ℕ → List Atom → ℕ → Bag
condition t properties facts o = restrict properties (bag_of (Transitions.properties t) facts o)

-- the space of the group whose lowest property is c, with the members that open in it: a nonempty initial condition
unfoldable pub initial_space : Task → List ℕ → List Transition → ℕ → Space
initial_space t groups rules c =
    let own = keep (λ d. eqb (get_or groups d 0) c) (up_to (length groups)) in
    record {
      properties = own;
      rules = keep (moves own) rules;
      members = keep (λ o. not (is_empty (condition t own t.facts o))) (up_to t.objects);
    }

-- the spaces, numbered by lowest property
unfoldable pub initial_spaces : Task → List Space
initial_spaces t =
    let rules = transitions t in
    let groups = grouping (length (properties t)) rules in
    map (initial_space t groups rules) (keep (λ c. eqb (get_or groups c 0) c) (up_to (length groups)))

-- the object is a member of the space of property c
unfoldable pub has_member : List Space → ℕ → ℕ → Bool
has_member spaces o c = any (λ s. member c s.properties && member o s.members) spaces

-- the rule is increasing (its start is empty) and the object is a member of the space of each of its enablers
unfoldable pub admits : List Space → ℕ → Transition → Bool
admits spaces o r = is_empty r.start && all (has_member spaces o) (support r.enablers)

-- one round: a space gains every object that one of its own increasing rules admits. Only attribute spaces have such rules
unfoldable pub gain : Task → List Space → Space → Space
gain t spaces s =
    record {
      properties = s.properties;
      rules = s.rules;
      members = keep (λ o. member o s.members || any (admits spaces o) s.rules) (up_to t.objects);
    }

unfoldable pub round : Task → List Space → List Space
round t spaces = map (gain t spaces) spaces

-- so many rounds
unfoldable pub rounds : Task → ℕ → List Space → List Space
rounds t zero spaces = spaces
rounds t (suc n) spaces = rounds t n (round t spaces)

-- until no round adds a member: what an object gains depends on no other object, so that as many rounds as there are spaces are enough
unfoldable pub spaces : Task → List Space
spaces t = let opening = initial_spaces t in rounds t (length opening) opening

-- The kind of a space; a property space may turn out mixed or wide as its conditions are listed, and a mixed one may be rescued.
pub data Kind : Type 0 where
  static : Kind
  attribute : Kind
  property : Kind
  mixed : Kind
  wide : Kind
  rescued : Kind  -- H: what is left of a mixed space without its hidden attributes (document 02, No. 5)

-- no rule: static. Some rule with empty start or finish: attribute. Others are property spaces
unfoldable pub kind_of : List Transition → Kind
kind_of [] = static
kind_of (r ∷ rules) = cond (any (λ r. is_empty r.start || is_empty r.finish) (r ∷ rules)) attribute property

-- opens every definition of this module, for what is proved by computation
unfoldable pub spaces_open : Unit {0}
unfolding
    moved unite unite_all grouping moves condition initial_space initial_spaces has_member admits gain round rounds spaces kind_of
spaces_open = tt
