use Rattle.std.proofs.Common.{ap}
use Rattle.json.specs.Print.{escape_byte, quoted}
use Rattle.tuples.specs.Texts.{tuple_text}
use Rattle.json_lines.proofs.Growing.{grown_as, grown_then}
use Rattle.json_lines.proofs.answer_lists.push_event.Goals as goal

pub returns : goal.returns
unfolding escape_byte
returns c =
    grown_then c.push.ensures (grown_then c.push_change.ensures (grown_then c.push-2.ensures (grown_then c.push_number.ensures
    (grown_then c.push-3.ensures (grown_then (grown_as (ap (λ t. quoted (tuple_text t)) c.changed.ensures) c.push_tuple.ensures) c.push-4.ensures)))))
