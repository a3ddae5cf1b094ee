use Rattle.tuples.specs.Changes.{changed}
use Rattle.records.proofs.Meanings.{distinct_is}
use Rattle.records.proofs.distinct.are_changes_distinct.Goals as goal

pub returns : goal.returns
returns c = distinct_is (changed c.args.changes.now) c.are_changes_distinct.result c.are_changes_distinct.ensures
