-- `lists` reads as the definition does.
use Rattle.model.specs.Card.{bit}
use Rattle.card.specs.Represents.{schema_of}
use Rattle.reader_bytes.proofs.Reading.{accepts, hands_on}
use Rattle.reader.proofs.SchemaParts.{preconditions_refused, deletes_refused, adds_refused, lists_read, no_list_kept, list_kept, schema_kept}
use Rattle.reader.proofs.lists.Goals as goal

pub list-requires : goal.list-requires
list-requires c = (c.requires.0, c.requires.1, no_list_kept _ c.no_atoms.ensures)

pub returns-in_err-preconditions : goal.returns-in_err-preconditions
unfolding bit
returns-in_err-preconditions c = hands_on _ _ c.from_residual.ensures.1 (preconditions_refused _ c.in_err-preconditions.ensures.says)

pub list-requires-2 : goal.list-requires-2
list-requires-2 c =
    let p = c.in_ok-preconditions.ensures in
    (p.within, c.requires.1, list_kept _ _ _ _ p)

pub returns-in_err-deletes : goal.returns-in_err-deletes
unfolding bit
returns-in_err-deletes c =
    hands_on _ _ c.from_residual-in_err-deletes.ensures.1 (deletes_refused _ c.in_ok-preconditions.ensures.says c.in_err-deletes.ensures.says)

pub list-requires-3 : goal.list-requires-3
list-requires-3 c = (c.in_ok-deletes.ensures.within, c.requires.1, list_kept _ _ _ _ c.in_ok-preconditions.ensures)

pub returns-in_err-adds : goal.returns-in_err-adds
unfolding bit
returns-in_err-adds c =
    let refused = adds_refused _ c.in_ok-preconditions.ensures.says c.in_ok-deletes.ensures.says c.in_err-adds.ensures.says in
    hands_on _ _ c.from_residual-in_err-adds.ensures.1 refused

pub returns : goal.returns
unfolding bit schema_of
returns c =
    let p = c.in_ok-preconditions.ensures in
    let d = c.in_ok-deletes.ensures in
    let a = c.in_ok-adds.ensures in
    accepts (lists_read _ p.says d.says a.says) a.within (schema_kept _ _ p.keeps d.keeps a.keeps)
