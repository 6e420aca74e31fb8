-- An atom counts if it is of the predicate.
use Rattle.std.proofs.Common.{◌≡◌, ◌<◌, eqb, length, get_or, take, length-take-le, arith, rules, sym, ap, ◌∙◌}
use lib.Seq.{get_or-take}
use borrow.Author.Tests.{eq-eqb, ne_eqb}
use Rattle.laws.proofs.Counting.{count_map}
use Rattle.card.specs.declared.Atom.{Atom}
use Rattle.card.specs.Represents.{atom_of, atoms_of, blank_atom}
use Rattle.model.specs.Lines.{of_predicate}
use Rattle.closing.proofs.Tallying.{tally_passes, tally_fails, tally_end}
use Rattle.closing.proofs.ceilings.count_of.Goals as goal
use Rattle.closing.proofs.ceilings.count_of.Goals.{then-a-p, else-a-p}

pub loop-a-preserved : goal.loop-a-preserved
unfolding blank_atom
loop-a-preserved c =
    let l = c.args.list in
    let size : length l.atoms ≡ 8 = search rules in
    let more : c.loop-a.a-index < l.count = omega arith in
    let here : (get_or (take l.count l.atoms) c.loop-a.a-index blank_atom).predicate ≡ (get_or l.atoms c.loop-a.a-index blank_atom).predicate =
    ap (λ (a : Atom). a.predicate) (get_or-take l.count l.atoms c.loop-a.a-index blank_atom more) in
    elim c.if-a-p.branch [
      | then-a-p w ↦ tally_passes c.loop-a.invariant more (eq-eqb _ _ (sym (sym here ∙ w.if-a-p.true))) w.n-is
      | else-a-p w ↦ tally_fails c.loop-a.invariant more (ne_eqb _ _ (λ e. w.if-a-p.false (here ∙ sym e))) w.n-is
    ]

pub returns : goal.returns
unfolding of_predicate atoms_of atom_of
returns c arities =
    let l = c.args.list in
    let size : length l.atoms ≡ 8 = search rules in
    tally_end c.loop-a.invariant (omega (arith, length-take-le l.count l.atoms (omega arith)))
    ∙ sym (count_map (λ a. eqb _ a.predicate) (atom_of arities) _)
