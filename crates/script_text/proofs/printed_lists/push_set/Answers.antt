use Rattle.json_lines.proofs.Growing.{grown_as, grown_then}
use Rattle.script_text.specs.PrintedTexts.{row_line}
use Rattle.script_text.proofs.Rows.{one_more}
use Rattle.script_text.proofs.printed_lists.push_set.Goals as goal

pub loop-tuple-preserved : goal.loop-tuple-preserved
loop-tuple-preserved c = grown_as (one_more (row_line c.args.number) c.args.tuples.now c.loop-tuple.tuple-index c.tuple-item.result c.loop-tuple-test.true c.tuple-item.is) (grown_then c.loop-tuple.invariant c.push_row.ensures)
