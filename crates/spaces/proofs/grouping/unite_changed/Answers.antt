-- Nothing is changed, or what is changed is brought together with the first of it.
use Rattle.std.proofs.Common.{ℕ, ◌<◌, ◌*◌, Option, arith}
use Rattle.std.specs.Option.{unwrap_or}
use mathlib.Core.Path.{sym, ap, ◌∙◌}
use mathlib.Core.Bool.{not}
use mathlib.Core.List.{foldl}
use borrow.Author.Tests.{eq-eqb, ne_eqb}
use Rattle.laws.proofs.Walks.{pick_starts, pick_passes, pick_fails, pick_ends}
use Rattle.model.specs.Spaces.{unite, unite_all}
use Rattle.properties.specs.Tables.{bag_at}
use Rattle.spaces.specs.Steps.{changed_by, first_of}
use Rattle.spaces.proofs.Rows.{differs, changed_kept, first_below, none_first}
use Rattle.spaces.proofs.Uniting.{unite_all_first}
use Rattle.spaces.proofs.grouping.unite_changed.Goals as goal
use Rattle.spaces.proofs.grouping.unite_changed.Goals.{then-deletes-at, else-deletes-at}

pub returns-in_default : goal.returns-in_default
unfolding unite_all
returns-in_default c =
    let a = c.args in
    let changed = changed_by (bag_at a.size a.deletes.now a.row) (bag_at a.size a.adds.now a.row) in
    ap (unite_all a.groups) (sym (none_first changed (sym c.in_default.ensures)))

pub loop-c-init : goal.loop-c-init
loop-c-init c =
    let a = c.args in
    let first = c.in-Some.first in
    let changed = changed_by (bag_at a.size a.deletes.now a.row) (bag_at a.size a.adds.now a.row) in
    pick_starts (unite first) (unite_all a.groups changed) a.size (differs a.deletes.now a.adds.now (60 * a.row)) a.groups
    (ap (foldl (unite first) a.groups) (sym (changed_kept c.requires.has_row.0 c.requires.has_row.1))
    ∙ ap (λ (n : Option ℕ). foldl (unite (unwrap_or n a.size)) a.groups changed) c.in-Some.ensures
    ∙ sym (unite_all_first a.size a.groups changed))

pub unite-next-requires : goal.unite-next-requires
unite-next-requires c =
    let a = c.args in
    let below : c.in-Some.first < a.size =
    first_below (differs a.deletes.now a.adds.now (60 * a.row)) a.size
    (sym (ap first_of (changed_kept c.requires.has_row.0 c.requires.has_row.1)) ∙ sym c.in-Some.ensures) in
    (omega arith, omega arith)

pub loop-c-preserved : goal.loop-c-preserved
unfolding differs
loop-c-preserved c =
    let a = c.args in
    let first = c.in-Some.first in
    let all = unite_all a.groups (changed_by (bag_at a.size a.deletes.now a.row) (bag_at a.size a.adds.now a.row)) in
    let passes = differs a.deletes.now a.adds.now (60 * a.row) in
    elim c.if-deletes-at.branch [
      | then-deletes-at w ↦
          pick_passes (unite first) all a.size passes c.loop-c.c c.loop-c.united c.if-deletes-at.united c.loop-c-test.true
          (ap not (ne_eqb _ _ w.if-deletes-at.true)) (w.united-is ∙ w.unite-next.ensures) c.loop-c.invariant
      | else-deletes-at w ↦
          pick_fails (unite first) all a.size passes c.loop-c.c c.loop-c.united c.if-deletes-at.united c.loop-c-test.true
          (ap not (eq-eqb _ _ w.if-deletes-at.false)) w.united-is c.loop-c.invariant
    ]

pub returns : goal.returns
returns c =
    let a = c.args in
    pick_ends (unite c.in-Some.first) (unite_all a.groups (changed_by (bag_at a.size a.deletes.now a.row) (bag_at a.size a.adds.now a.row))) a.size
    (differs a.deletes.now a.adds.now (60 * a.row)) c.loop-c.c c.loop-c.united c.loop-c-test.false c.loop-c.invariant
