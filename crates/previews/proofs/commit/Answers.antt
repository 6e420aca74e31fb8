-- A refusal of the admission is handed on; of what may be applied the rest is done.
use Rattle.std.proofs.Common.{◌≡◌, length, ◌∙◌, rules}
use Rattle.std.proofs.lemmas.Result.{err_from_is_err_and}
use Rattle.strips.proofs.Admitting.{refused_so, granted_so}
use Rattle.previews.specs.Represents.{preview_of}
use Rattle.previews.proofs.Committing.{lent_inside, lent_alike, lent_same, commit_refused, commit_granted}
use Rattle.previews.proofs.commit.Goals as goal

pub slice_bounds-objects-end : goal.slice_bounds-objects-end
slice_bounds-objects-end c = lent_inside c.args.changes (search rules) c.lent_count.ensures

pub returns-in_err-admitted : goal.returns-in_err-admitted
returns-in_err-admitted c =
    let six : length c.args.changes.objects ≡ 6 = search rules in
    let p = err_from_is_err_and c.from_residual.result c.from_residual.ensures.1 in
    rw (p.1, p.2)
    (commit_refused _ _ _ (preview_of c.args.changes) _
    (lent_alike c.args.changes six c.lent_count.ensures _ _ _ ∙ refused_so c.in_err-admitted.ensures))

pub slice_bounds-commit_admitted-end : goal.slice_bounds-commit_admitted-end
slice_bounds-commit_admitted-end c = c.in_ok-admitted.ensures.granted.inside

pub commit_admitted-requires : goal.commit_admitted-requires
commit_admitted-requires c =
    let granted = c.in_ok-admitted.ensures.granted in
    record { ready = granted.ready; holds = granted.allowed }

pub returns : goal.returns
returns c =
    let six : length c.args.changes.objects ≡ 6 = search rules in
    let admits = c.in_ok-admitted.ensures in
    commit_granted _ _ _ (preview_of c.args.changes)
    (lent_alike c.args.changes six c.lent_count.ensures _ _ _ ∙ granted_so admits)
    (lent_same c.args.changes six c.lent_count.ensures admits.granted) c.commit_admitted.ensures
