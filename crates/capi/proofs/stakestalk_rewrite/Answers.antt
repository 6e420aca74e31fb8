-- A refused card leaves the output; an accepted card's task is the table that the writer writes.
use Rattle.std.proofs.Common.{sym, ap, ◌∙◌}
use Rattle.model.specs.Calls.{Call}
use Rattle.capi.proofs.Codes.{same_code}
use Rattle.capi.proofs.Sizes.{encodes_small}
use Rattle.capi.proofs.Checking.{rewrites_refused, rewrites_accepted}
use Rattle.capi.proofs.stakestalk_rewrite.Goals as goal

pub returns-in-Refused-clause-value : goal.returns-in-Refused-clause-value
returns-in-Refused-clause-value c =
    let refused = rewrites_refused c.args.card.now c.decode-decoded.result c.decode-decoded.ensures _ c.in-Refused.is c.args.out.now in
    same_code c.refusal_code.result c.refusal_code.type_inv c.refusal_code.ensures (ap (λ (call : Call). call.answer) refused)

pub returns-in-Refused-clause-out_after : goal.returns-in-Refused-clause-out_after
returns-in-Refused-clause-out_after c =
    let refused = rewrites_refused c.args.card.now c.decode-decoded.result c.decode-decoded.ensures _ c.in-Refused.is c.args.out.now in
    sym (ap (λ (call : Call). call.buffer) refused)

pub writing_code-requires : goal.writing_code-requires
writing_code-requires c = encodes_small c.encode.ensures

pub returns-clause-value : goal.returns-clause-value
returns-clause-value c =
    let accepted = rewrites_accepted c.args.card.now c.decode-decoded.result c.decode-decoded.ensures c.in_default.is c.args.out.now in
    same_code c.writing_code.result c.writing_code.type_inv c.writing_code.ensures
    (ap (λ (call : Call). call.answer) accepted ∙ sym c.encode.ensures.answer)

pub returns-clause-out_after : goal.returns-clause-out_after
returns-clause-out_after c =
    let accepted = rewrites_accepted c.args.card.now c.decode-decoded.result c.decode-decoded.ensures c.in_default.is c.args.out.now in
    c.encode.ensures.buffer ∙ ap (λ (call : Call). call.buffer) (sym accepted)
