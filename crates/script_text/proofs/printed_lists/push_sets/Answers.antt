use Rattle.std.proofs.Common.{arith}
use Rattle.json_lines.proofs.Growing.{grown_as, grown_then}
use Rattle.script_text.proofs.Rows.{one_set_more}
use Rattle.script_text.proofs.printed_lists.push_sets.Goals as goal

pub loop-tuples-preserved : goal.loop-tuples-preserved
loop-tuples-preserved c = (
  grown_as (one_set_more (λ set. set.items) c.args.sets.now c.loop-tuples.tuples-index c.loop-tuples.number c.tuples-item.result c.deref.result.now c.loop-tuples-test.true c.tuples-item.is c.deref.ensures.value c.loop-tuples.invariant.1) (grown_then c.loop-tuples.invariant.0 c.push_set.ensures),
  omega arith,
)
