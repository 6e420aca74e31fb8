-- What would be done is asked, compared with what was handed in, and done if the two agree.
use Rattle.std.proofs.lemmas.Result.{err_from_is_err_and}
use Rattle.previews.specs.Represents.{preview_of}
use Rattle.previews.proofs.Foreseeing.{gone_few, come_few}
use Rattle.previews.proofs.Committing.{commit_full, changes_seen, commit_agreed}
use Rattle.previews.proofs.commit_admitted.Goals as goal

pub returns-in_err-found : goal.returns-in_err-found
unfolding preview_of
returns-in_err-found c =
    let p = err_from_is_err_and c.from_residual.result c.from_residual.ensures.1 in
    rw (p.1, p.2) (commit_full c.requires (preview_of c.args.changes) c.in_err-found.ensures)

pub agree-agreed-requires : goal.agree-agreed-requires
unfolding preview_of
agree-agreed-requires c =
    let made = changes_seen c.requires (preview_of c.args.changes) c.in_ok-found.ensures in
    (gone_few c.requires _ made, come_few c.requires _ made)

pub store_agreed-requires : goal.store_agreed-requires
store_agreed-requires c = c.requires.ready

pub returns : goal.returns
unfolding preview_of
returns c = commit_agreed c.requires (preview_of c.args.changes) c.in_ok-found.ensures c.agree-agreed.ensures c.store_agreed.ensures
