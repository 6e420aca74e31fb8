-- Its pieces are the list.
use Rattle.std.proofs.Common.{◌≡◌, length, sym, arith, rules}
use Rattle.std.proofs.Math.Seq.{length-take-le}
use Rattle.card.proofs.Entries.{atoms_within}
use Rattle.writer.proofs.CardBytes.{empty_list, whole_list}
use Rattle.writer.proofs.output.write_list.Goals as goal

pub returns-then-count-eq0 : goal.returns-then-count-eq0
returns-then-count-eq0 c = search empty_list

pub returns : goal.returns
returns c =
    let eight : length c.args.list.atoms ≡ 8 = search rules in
    whole_list c.args.arities.now c.args.list _ _ c.if-count-eq0.false c.requires.0 c.requires.1 _
    (sym (atoms_within c.args.arities.now c.args.list (omega arith))) (length-take-le _ _ (omega arith)) _ _ _ _
    c.write_byte-next.ensures c.write_atoms.ensures
