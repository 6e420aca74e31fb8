-- A predicate more, and the end.
use Rattle.std.proofs.Common.{ℕ, ◌≡◌, List, length, get_or, take, arith, rules, sym, ap, ◌∙◌, subst, add-one}
use Rattle.card.proofs.Entries.{arities_within}
use Rattle.properties.specs.Represented.{Numbers}
use Rattle.properties.proofs.Firsts.{begin, next, finish}
use Rattle.properties.proofs.numbered.Goals as goal

pub loop-p-init : goal.loop-p-init
loop-p-init c = record { small = omega arith; begun = begin _ }

pub loop-p-preserved : goal.loop-p-preserved
loop-p-preserved c =
    let a = c.args.predicates in
    let l : length a.arities ≡ 20 = search rules in
    let here = c.loop-p in
    let e : c.from-count.result ≡ get_or a.arities here.p 0 = c.from-count.ensures in
    record {
      small = omega arith;
      begun = rw (e, add-one) (next a.arities here.p here.firsts here.count (omega arith) (omega arith) here.invariant.begun);
    }

pub returns : goal.returns
returns c =
    let a = c.args.predicates in
    let l : length a.arities ≡ 20 = search rules in
    let end = c.loop-p in
    let e : end.p ≡ a.count = omega arith in
    subst (λ (l : List ℕ). Numbers l (record { count = end.count; firsts = end.firsts }))
    (ap (λ (n : ℕ). take n a.arities) e ∙ sym (arities_within a (omega arith)))
    (finish a.arities end.p end.firsts end.count (omega arith) end.invariant.begun)
