-- The changes are read off the bytes; the answer is small, and the buffer is as the call leaves it.
use Rattle.std.proofs.Common.{sym}
use Rattle.capi.proofs.Codes.{same_code}
use Rattle.capi.proofs.Previewing.{commits_small, given_so}
use Rattle.capi.proofs.stakestalk_commit.Goals as goal

pub committed_code-requires : goal.committed_code-requires
committed_code-requires c = commits_small _ _ _ _ c.commit.ensures

pub returns-clause-value : goal.returns-clause-value
returns-clause-value c =
    let commits = given_so c.args.card.now c.args.state.now c.args.count c.changes_from-given.ensures c.commit.ensures in
    same_code c.committed_code.result c.committed_code.type_inv c.committed_code.ensures (sym commits.answer)

pub returns-clause-state_after : goal.returns-clause-state_after
returns-clause-state_after c =
    (given_so c.args.card.now c.args.state.now c.args.count c.changes_from-given.ensures c.commit.ensures).buffer
