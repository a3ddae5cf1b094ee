use Rattle.versions.proofs.Tables.{listed_same}
use Rattle.versions.proofs.applying.apply.Goals as goal

pub returns-in-Err-clause-err : goal.returns-in-Err-clause-err
returns-in-Err-clause-err c = listed_same _ _ c.take_back_changes.ensures.table c.requires.table (c.take_back_changes.ensures.versions _ c.args.place c.in-Err.ensures.err)
