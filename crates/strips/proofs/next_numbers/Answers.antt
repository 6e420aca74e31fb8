-- What the action takes out goes, then what it puts in comes.
use Rattle.std.proofs.Common.{List, length, ap, arith}
use lib.ListN.{length-map}
use Rattle.model.specs.Card.{Atom}
use Rattle.model.specs.Strips.{taken_out, put_in}
use Rattle.card.specs.Represents.{schema_of}
use Rattle.state.specs.Rows.{fact_number}
use Rattle.strips.proofs.Numbers.{few_out, few_in, kept_within, kept_numbers, between_length, between_set, between_few, next_becomes}
use Rattle.strips.proofs.next_numbers.Goals as goal

pub slice_bounds-remove_all-end : goal.slice_bounds-remove_all-end
slice_bounds-remove_all-end c =
    kept_within (taken_out (schema_of c.args.arities.now c.args.schema) c.args.objects.now) c.taken_out-out.ensures (few_out _ c.requires.deletes)

pub remove_all-left-requires : goal.remove_all-left-requires
remove_all-left-requires c = c.requires.set

pub slice_bounds-insert_all-end : goal.slice_bounds-insert_all-end
slice_bounds-insert_all-end c =
    kept_within (put_in (schema_of c.args.arities.now c.args.schema) c.args.objects.now) c.put_in-new.ensures (few_in _ c.requires.adds)

pub insert_all-requires : goal.insert_all-requires
insert_all-requires c =
    let new : List Atom = put_in (schema_of c.args.arities.now c.args.schema) c.args.objects.now in
    let gone = rw (kept_numbers _ c.taken_out-out.ensures (few_out _ c.requires.deletes)) at c.remove_all-left.ensures in
    let few = few_in c.args.schema c.requires.adds in
    let fewer = between_few c.requires gone in
    let same = between_length c.requires gone in
    let size = ap length (kept_numbers new c.put_in-new.ensures (few_in _ c.requires.adds)) in
    let count = length-map new fact_number in
    let room = c.requires.room in
    (omega arith, between_set c.requires gone)

pub returns : goal.returns
returns c =
    next_becomes c.requires (rw (kept_numbers _ c.taken_out-out.ensures (few_out _ c.requires.deletes)) at c.remove_all-left.ensures)
    (rw (kept_numbers _ c.put_in-new.ensures (few_in _ c.requires.adds)) at c.insert_all.ensures)
