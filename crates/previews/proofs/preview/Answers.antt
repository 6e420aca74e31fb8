-- A refusal of the admission is handed on; of what may be applied the rest is asked.
use Rattle.std.proofs.lemmas.Result.{err_from_is_err_and}
use Rattle.strips.proofs.Admitting.{refused_so, granted_so}
use Rattle.previews.proofs.Foreseeing.{asked_refused, asked_granted}
use Rattle.previews.proofs.preview.Goals as goal

pub returns-in_err-admitted : goal.returns-in_err-admitted
returns-in_err-admitted c =
    let p = err_from_is_err_and c.from_residual.result c.from_residual.ensures.1 in
    rw (p.1, p.2) (asked_refused _ _ _ _ _ (refused_so c.in_err-admitted.ensures))

pub slice_bounds-foresee-end : goal.slice_bounds-foresee-end
slice_bounds-foresee-end c = c.in_ok-admitted.ensures.granted.inside

pub foresee-requires : goal.foresee-requires
foresee-requires c =
    let granted = c.in_ok-admitted.ensures.granted in
    record { ready = granted.ready; holds = granted.allowed }

pub returns : goal.returns
returns c = asked_granted _ _ _ _ (granted_so c.in_ok-admitted.ensures) c.foresee.ensures
