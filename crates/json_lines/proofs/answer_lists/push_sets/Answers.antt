use Rattle.std.proofs.Common.{◌++◌, ap}
use Rattle.serde_json.specs.Written.{comma_if, compact_text}
use Rattle.json_lines.specs.Texts.{set_json, tuples_json}
use Rattle.json_lines.proofs.Growing.{grown_as, grown_then}
use Rattle.json_lines.proofs.Listed.{none_more, one_more}
use Rattle.json_lines.proofs.answer_lists.push_sets.Goals as goal

pub loop-tuples-preserved : goal.loop-tuples-preserved
loop-tuples-preserved c =
    let before = c.loop-tuples.invariant in
    record {
      text = before.text ++ (comma_if c.loop-tuples.is_later ++ compact_text (set_json c.tuples-item.result));
      grown = grown_then before.grown (grown_then c.push_comma.ensures (grown_as (ap (λ l. compact_text (tuples_json l)) c.deref.ensures.value) c.push_set.ensures));
      whole = one_more set_json c.args.sets.now c.loop-tuples.tuples-index c.tuples-item.result c.loop-tuples.is_later before.text _ c.loop-tuples-test.true c.tuples-item.is before.whole;
    }

pub returns : goal.returns
returns c =
    let before = c.loop-tuples.invariant in
    grown_as (none_more set_json c.args.sets.now c.loop-tuples.tuples-index c.loop-tuples.is_later before.text _ c.loop-tuples-test.false before.whole) (grown_then before.grown c.push-2.ensures)
