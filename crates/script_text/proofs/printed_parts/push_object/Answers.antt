use Rattle.json_lines.proofs.Growing.{grown_as, grown_then}
use Rattle.script_text.proofs.printed_parts.push_object.Goals as goal

pub returns : goal.returns
returns c = grown_then (grown_as c.as_bytes.ensures.value c.push.ensures) (grown_then c.push-2.ensures (grown_as c.as_bytes-2.ensures.value c.push-3.ensures))
