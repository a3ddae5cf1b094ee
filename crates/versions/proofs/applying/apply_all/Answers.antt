use Rattle.versions.proofs.Tables.{listed_same}
use Rattle.versions.proofs.applying.apply_all.Goals as goal

pub returns-in-Err-clause-err : goal.returns-in-Err-clause-err
returns-in-Err-clause-err c = listed_same _ _ c.take_back_each.ensures.table c.requires.table (c.take_back_each.ensures.versions _ c.in-Err.ensures.err)
