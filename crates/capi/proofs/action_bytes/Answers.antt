-- The schema, and the six objects one by one.
use Rattle.std.proofs.Common.{◌≡◌, ℕ, List, ◌∷◌, length, ap, rules}
use Rattle.capi.proofs.Asking.{six_objects}
use Rattle.capi.proofs.action_bytes.Goals as goal

pub returns : goal.returns
returns c =
    let size : length c.args.objects ≡ 6 = search rules in
    ap (λ (l : List ℕ). c.args.schema ∷ l) (six_objects c.args.objects size)
