use Rattle.tuples.specs.Changes.{conditioned}
use Rattle.records.proofs.Meanings.{distinct_is}
use Rattle.records.proofs.distinct.are_conditions_distinct.Goals as goal

pub returns : goal.returns
returns c = distinct_is (conditioned c.args.conditions.now) c.are_conditions_distinct.result c.are_conditions_distinct.ensures
