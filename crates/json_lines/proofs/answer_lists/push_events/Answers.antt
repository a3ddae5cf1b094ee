use Rattle.std.proofs.Common.{◌++◌}
use Rattle.serde_json.specs.Written.{comma_if, compact_text}
use Rattle.json_lines.specs.Texts.{event_json}
use Rattle.json_lines.proofs.Growing.{grown_as, grown_then}
use Rattle.json_lines.proofs.Listed.{none_more, one_more}
use Rattle.json_lines.proofs.answer_lists.push_events.Goals as goal

pub loop-event-preserved : goal.loop-event-preserved
loop-event-preserved c =
    let before = c.loop-event.invariant in
    record {
      text = before.text ++ (comma_if c.loop-event.is_later ++ compact_text (event_json c.event-item.result));
      grown = grown_then before.grown (grown_then c.push_comma.ensures c.push_event.ensures);
      whole = one_more event_json c.args.events.now c.loop-event.event-index c.event-item.result c.loop-event.is_later before.text _ c.loop-event-test.true c.event-item.is before.whole;
    }

pub returns : goal.returns
returns c =
    let before = c.loop-event.invariant in
    grown_as (none_more event_json c.args.events.now c.loop-event.event-index c.loop-event.is_later before.text _ c.loop-event-test.false before.whole) (grown_then before.grown c.push-2.ensures)
