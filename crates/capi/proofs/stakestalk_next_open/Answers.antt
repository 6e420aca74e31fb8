-- The answer's numbers are small, so they are read back as they are; the bytes are as the answer leaves them.
use Rattle.std.proofs.Common.{sym, ◌∙◌, rules}
use mir.Syntax.{w32}
use mir.Val.{SFits}
use Rattle.capi.proofs.Codes.{same_code}
use Rattle.capi.proofs.Asking.{found_small, given_told, asked_so, number_answered, bytes_answered}
use Rattle.capi.proofs.stakestalk_next_open.Goals as goal

pub next_open_code-requires : goal.next_open_code-requires
next_open_code-requires c = found_small _ _ _ _ c.next_open.ensures

pub returns-clause-value : goal.returns-clause-value
returns-clause-value c =
    let fits : SFits w32 c.args.given = search rules in
    let given = given_told c.args.given c.args.schema fits c.given_action-after.ensures in
    let says = asked_so c.args.card.now c.args.state.now c.args.count c.args.objects.now given c.next_open.ensures in
    same_code c.next_open_code.result c.next_open_code.type_inv c.next_open_code.ensures.value (sym (number_answered says))

pub returns-clause-found_after : goal.returns-clause-found_after
returns-clause-found_after c =
    let fits : SFits w32 c.args.given = search rules in
    let given = given_told c.args.given c.args.schema fits c.given_action-after.ensures in
    let says = asked_so c.args.card.now c.args.state.now c.args.count c.args.objects.now given c.next_open.ensures in
    c.next_open_code.ensures.found_after ∙ bytes_answered c.args.found.now says
