use Rattle.writer_checks.proofs.SchemaLaws.{long_list, short_list}
use Rattle.writer_checks.proofs.checking.check_list.Goals as goal

pub returns-then-list-gt8 : goal.returns-then-list-gt8
returns-then-list-gt8 c = search long_list

pub returns : goal.returns
returns c = search short_list
