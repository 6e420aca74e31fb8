-- A fact more raises the count of its predicate.
use Rattle.std.proofs.Common.{◌≡◌, ◌<◌, eqb, length, length-take-le, arith, rules, sym, ap, ◌∙◌}
use lib.Seq.{get_or-take}
use Rattle.laws.proofs.Counting.{count_map}
use Rattle.card.specs.declared.Atom.{Atom}
use Rattle.card.specs.Represents.{atom_of, facts_of, blank_atom}
use Rattle.model.specs.Lines.{of_predicate}
use Rattle.closing.proofs.Tallying.{tallies_next, tally_end}
use Rattle.closing.proofs.ceilings.fact_counts.Goals as goal

pub loop-fact-preserved : goal.loop-fact-preserved
unfolding blank_atom
loop-fact-preserved c =
    let l = c.args.list in
    let size : length l.facts ≡ 512 = search rules in
    let more : c.loop-fact.fact-index < l.count = let few = c.requires.few in omega arith in
    tallies_next c.loop-fact.invariant more
    (c.from.ensures ∙ ap (λ (a : Atom). a.predicate) (get_or-take l.count l.facts c.loop-fact.fact-index blank_atom more))

pub returns : goal.returns
unfolding of_predicate facts_of atom_of
returns c p h arities =
    let l = c.args.list in
    let size : length l.facts ≡ 512 = search rules in
    tally_end (c.loop-fact.invariant.each p h) (omega (arith, length-take-le l.count l.facts (omega (arith, c.requires.few))))
    ∙ sym (count_map (λ a. eqb p a.predicate) (atom_of arities) _)
