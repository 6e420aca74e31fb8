-- Document 01, "Property rules": properties, the bags of a schema's parameters, and the transition rules (document 01: property rules).
use Rattle.std.specs.Prelude.{ℕ, suc, Bool, cond, ◌&&◌, eqb, length}
use mathlib.Core.List.{List, [], ◌∷◌, ◌++◌, map, flat_map}
use Rattle.laws.specs.Lists.{count, up_to, stands_at}
use Rattle.laws.specs.Bags.{Bag, less, meet, is_empty, single, support}
use Rattle.model.specs.Card.{Atom, Schema, Task}

-- A property: a predicate with an argument position.
pub record Property : Type 0 where
  pub predicate : ℕ
  pub position : ℕ

-- the properties of the predicates from number p on; a property's number is its place here
unfoldable pub properties_from : ℕ → List ℕ → List Property
properties_from p [] = []
properties_from p (arity ∷ arities) =
    map (λ i. record { predicate = p; position = i }) (up_to arity) ++ properties_from (suc p) arities

-- predicate by predicate, positions ascending, from 0
unfoldable pub properties : Task → List Property
properties t = properties_from 0 t.arities

-- x (a parameter or an object) has the property in this atom: it stands at that position of that predicate
unfoldable pub occurs : ℕ → Atom → Property → Bool
occurs x a c = eqb c.predicate a.predicate && stands_at x c.position a.arguments

-- the bag of x over some atoms: for each property, the number of atoms in which x has it
unfoldable pub bag_of : List Property → List Atom → ℕ → Bag
bag_of properties atoms x = map (λ c. count (λ a. occurs x a c) atoms) properties

-- A transition rule: bags over all properties.
pub record Transition : Type 0 where
  pub enablers : Bag
  pub start : Bag
  pub finish : Bag

-- for each distinct property c of X, ascending: enablers P less one c, start c, finish c
unfoldable pub exchanges : Bag → Bag → List Transition
exchanges p x =
    map
    (λ c. record { enablers = less p (single (length p) c); start = single (length p) c; finish = single (length p) c })
    (support x)

-- start and finish with enablers P less start. Both empty: no rule. Start empty: one rule per distinct finish property, ascending
unfoldable pub remaining : Bag → Bag → Bag → List Transition
remaining p start finish =
    cond
    (is_empty start)
    (map (λ c. record { enablers = less p start; start = start; finish = single (length p) c }) (support finish))
    (record { enablers = less p start; start = start; finish = finish } ∷ [])

-- the rules of one parameter with the bags P, D and A; X is the bag intersection of D and A
unfoldable pub rules_of : Bag → Bag → Bag → List Transition
rules_of p d a = let x = meet d a in exchanges p x ++ remaining p (less d x) (less a x)

unfoldable pub parameter_rules : Task → Schema → ℕ → List Transition
parameter_rules t s k =
    rules_of
    (bag_of (properties t) s.preconditions k)
    (bag_of (properties t) s.deletes k)
    (bag_of (properties t) s.adds k)

-- in schema then parameter order; identical rules are kept
unfoldable pub transitions : Task → List Transition
transitions t = flat_map (λ s. flat_map (parameter_rules t s) (up_to s.parameters)) t.schemas

-- opens every definition of this module, for what is proved by computation
unfoldable pub transitions_open : Unit {0}
unfolding properties_from properties occurs bag_of exchanges remaining rules_of parameter_rules transitions
transitions_open = tt
