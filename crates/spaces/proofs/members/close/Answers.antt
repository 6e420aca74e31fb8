-- A round that adds nothing is the last.
use Rattle.std.proofs.Common.{◌≡◌, rules}
use mathlib.Core.Path.{sym, ◌∙◌}
use Rattle.spaces.proofs.Gaining.{Rounds, rounds_next, rounds_end, rounds_stop}
use Rattle.spaces.proofs.members.close.Goals as goal

pub returns-then-eq : goal.returns-then-eq
returns-then-eq c =
    let a = c.args in
    let over : Rounds =
    record {
      groups = a.groups.now;
      objects = a.objects;
      size = a.size;
      count = a.count;
      preconditions = a.preconditions.now;
      deletes = a.deletes.now;
      adds = a.adds.now;
    } in
    let same : c.loop.closed ≡ c.round-next.result = search rules in
    rounds_stop over a.rounds c.loop.counter c.loop.closed (sym c.round-next.ensures ∙ sym same) c.loop.invariant

pub loop-preserved : goal.loop-preserved
loop-preserved c =
    let a = c.args in
    let over : Rounds =
    record {
      groups = a.groups.now;
      objects = a.objects;
      size = a.size;
      count = a.count;
      preconditions = a.preconditions.now;
      deletes = a.deletes.now;
      adds = a.adds.now;
    } in
    rounds_next over a.rounds c.loop.counter c.loop.closed c.round-next.result c.loop-test.true c.round-next.ensures c.loop.invariant

pub returns : goal.returns
returns c =
    let a = c.args in
    let over : Rounds =
    record {
      groups = a.groups.now;
      objects = a.objects;
      size = a.size;
      count = a.count;
      preconditions = a.preconditions.now;
      deletes = a.deletes.now;
      adds = a.adds.now;
    } in
    rounds_end over a.rounds c.loop.counter c.loop.closed c.loop-test.false c.loop.invariant
