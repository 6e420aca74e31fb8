-- The objects of the rows that agree, one row of the range after the other.
use Rattle.std.proofs.Common.{IfSome}
use Rattle.open_actions.specs.Supports.{PlaceOf, Supported}
use Rattle.open_actions.proofs.support.rows_support.Given as goal

abbrev pub invariant-loop-i : goal.invariant-loop-i
invariant-loop-i l = record {
  placed : IfSome l.place (λ k. PlaceOf l.arity l.a l.parameter k);
  supported : Supported l.state l.i l.a l.arity l.parameter l.bound l.objects l.mask;
}
