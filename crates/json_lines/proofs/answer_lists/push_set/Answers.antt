use Rattle.std.proofs.Common.{◌++◌}
use Rattle.serde_json.specs.Written.{comma_if, compact_text}
use Rattle.json_lines.specs.Texts.{tuple_json}
use Rattle.json_lines.proofs.Growing.{grown_as, grown_then}
use Rattle.json_lines.proofs.Listed.{none_more, one_more}
use Rattle.json_lines.proofs.answer_lists.push_set.Goals as goal

pub loop-tuple-preserved : goal.loop-tuple-preserved
loop-tuple-preserved c =
    let before = c.loop-tuple.invariant in
    record {
      text = before.text ++ (comma_if c.loop-tuple.is_later ++ compact_text (tuple_json c.tuple-item.result));
      grown = grown_then before.grown (grown_then c.push_comma.ensures c.push_tuple.ensures);
      whole = one_more tuple_json c.args.tuples.now c.loop-tuple.tuple-index c.tuple-item.result c.loop-tuple.is_later before.text _ c.loop-tuple-test.true c.tuple-item.is before.whole;
    }

pub returns : goal.returns
returns c =
    let before = c.loop-tuple.invariant in
    grown_as (none_more tuple_json c.args.tuples.now c.loop-tuple.tuple-index c.loop-tuple.is_later before.text _ c.loop-tuple-test.false before.whole) (grown_then before.grown c.push-2.ensures)
