-- The next predicate's properties are behind those of the predicates passed, and there are at most 60 in all.
use Rattle.std.proofs.Common.{ℕ, ◌≡◌, ◌+◌, ◌≤◌, ◌<◌, ◌-◌, List, length, get_or, replicate, arith, refl, sym, ◌∙◌}
use Rattle.std.proofs.lemmas.Grind.{common_steps}
use Rattle.card.specs.declared.ArityList.{ArityList}
use Rattle.card.specs.Represents.{arities_of}
use Rattle.card.proofs.Entries.{get_d_entries, length_arities}
use Rattle.properties.specs.Represented.{AritiesRight}
use Rattle.properties.proofs.Predicates.{sum_arities}
use Rattle.properties.proofs.ArityTable.{ArityPassed, stamped, arities_start, arities_room, arities_next, arities_end}
use Rattle.properties.proofs.arities.property_arities.Goals as goal

-- the next arity
arity_is : (l : ArityList) (p : ℕ) → p < l.count → get_or l.arities p 0 ≡ get_or (arities_of l) p 0
unfolding arities_of
arity_is l p h = sym (get_d_entries l.count 0 l.arities p h)

here : (l : ArityList) (p : ℕ) → p < l.count → p < length (arities_of l)
here l p h = omega (arith, length_arities l)

-- has room
room : (l : ArityList) (p first : ℕ) (table : List ℕ) → AritiesRight l → ArityPassed (arities_of l) p first table → p < l.count
    → first + get_or l.arities p 0 ≤ 60
room l p first table right so_far h = omega (arith, arity_is l p h, arities_room (arities_of l) (sum_arities l right) so_far (here l p h))

pub loop-p-init : goal.loop-p-init
loop-p-init c = arities_start _ (sum_arities _ c.requires)

pub overflow_add-first : goal.overflow_add-first
overflow_add-first c =
    let inside = room c.args.predicates c.loop-p.p c.loop-p.first c.loop-p.table c.requires c.loop-p.invariant c.loop-p-test.true in
    omega (arith, c.from-n.ensures)

pub slice_bounds-table-end : goal.slice_bounds-table-end
slice_bounds-table-end c =
    let inside = room c.args.predicates c.loop-p.p c.loop-p.first c.loop-p.table c.requires c.loop-p.invariant c.loop-p-test.true in
    omega (arith, c.from-n.ensures)

pub loop-p-preserved : goal.loop-p-preserved
loop-p-preserved c =
    let p = c.loop-p.p in
    let n = c.from-n.result in
    let first = c.loop-p.first in
    let table = c.loop-p.table in
    let inside = room c.args.predicates p first table c.requires c.loop-p.invariant c.loop-p-test.true in
    let behind : first + n - first ≡ n = omega arith in
    let filled : c.fill.new.self ≡ replicate n n = grind (arith, common_steps) in
    let next : ArityPassed (arities_of c.args.predicates) (p + 1) (first + n) (stamped first n n table) =
    arities_next _ (sum_arities _ c.requires) c.loop-p.invariant (here c.args.predicates p c.loop-p-test.true)
    (c.from-n.ensures ∙ arity_is c.args.predicates p c.loop-p-test.true) refl refl in
    rw (behind, filled) next

pub returns : goal.returns
returns c =
    let end = length_arities c.args.predicates in
    arities_end _ (sum_arities _ c.requires) c.loop-p.invariant (omega arith)
