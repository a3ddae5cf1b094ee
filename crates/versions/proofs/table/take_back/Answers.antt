use Rattle.versions.proofs.Index.{index_same}
use Rattle.versions.proofs.table.take_back.Goals as goal

pub remove_empty-requires-clause-index : goal.remove_empty-requires-clause-index
remove_empty-requires-clause-index c = index_same _ _ _ c.requires.index c.shorten.ensures.entries

pub returns-in-Err-clause-index : goal.returns-in-Err-clause-index
returns-in-Err-clause-index c = index_same _ _ _ c.requires.index c.shorten_by_search.ensures.entries
