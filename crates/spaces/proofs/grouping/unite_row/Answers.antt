-- With a start the properties changed share a group; without one nothing does.
use mathlib.Core.Path.{sym, ap, ◌∙◌}
use Rattle.model.specs.Spaces.{unite_all}
use Rattle.properties.specs.Tables.{bag_at}
use Rattle.spaces.proofs.Uniting.{united_started, united_none}
use Rattle.spaces.proofs.grouping.unite_row.Goals as goal

pub returns-then-has_start : goal.returns-then-has_start
returns-then-has_start c =
    let a = c.args in
    let started = united_started (bag_at a.size a.deletes.now a.row) (bag_at a.size a.adds.now a.row) in
    c.unite_changed.ensures ∙ ap (unite_all a.groups) (sym (started (sym c.has_start.ensures ∙ c.if-has_start.true)))

pub returns : goal.returns
unfolding unite_all
returns c =
    let a = c.args in
    let none = united_none (bag_at a.size a.deletes.now a.row) (bag_at a.size a.adds.now a.row) in
    ap (unite_all a.groups) (sym (none (sym c.has_start.ensures ∙ c.if-has_start.false)))
