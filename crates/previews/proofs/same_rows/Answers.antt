-- Another number, or as many bytes compared.
use Rattle.std.proofs.Common.{◌∙◌, rules}
use borrow.Author.Tests.{ne_eqb}
use Rattle.previews.proofs.RowLists.{other_number, rows_compared}
use Rattle.previews.proofs.same_rows.Goals as goal

pub returns-then-given-found : goal.returns-then-given-found
returns-then-given-found c =
    let compared = rows_compared c.args.given c.args.found (search rules) (search rules) c.requires c.if-given-found.true in
    cc

pub returns-else-given-found : goal.returns-else-given-found
returns-else-given-found c = ne_eqb _ _ c.if-given-found.false ∙ other_number _ _ c.if-given-found.false
