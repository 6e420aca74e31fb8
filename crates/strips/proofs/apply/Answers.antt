-- A refusal of the admission is handed on; of what may be applied the next state is stored.
use Rattle.std.proofs.lemmas.Result.{err_from_is_err_and}
use Rattle.strips.proofs.Admitting.{refused_so, granted_so, press_refused, press_granted}
use Rattle.strips.proofs.apply.Goals as goal

pub returns-in_err-admitted : goal.returns-in_err-admitted
returns-in_err-admitted c =
    let p = err_from_is_err_and c.from_residual.result c.from_residual.ensures.1 in
    rw (p.1, p.2) (press_refused _ _ _ _ (refused_so c.in_err-admitted.ensures))

pub slice_bounds-store_successor-end : goal.slice_bounds-store_successor-end
slice_bounds-store_successor-end c = c.in_ok-admitted.ensures.granted.inside

pub store_successor-requires : goal.store_successor-requires
store_successor-requires c = c.in_ok-admitted.ensures.granted.ready

pub returns : goal.returns
returns c = press_granted _ _ _ _ (granted_so c.in_ok-admitted.ensures) c.store_successor.ensures
