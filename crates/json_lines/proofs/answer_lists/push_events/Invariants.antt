use Rattle.json_lines.specs.Listing.{Listing}
use Rattle.json_lines.specs.Texts.{event_json}
use Rattle.json_lines.proofs.answer_lists.push_events.Given as goal

abbrev pub invariant-loop-event : goal.invariant-loop-event
invariant-loop-event l = Listing event_json l.fn.events l.event-index l.is_later l.fn.out l.out
