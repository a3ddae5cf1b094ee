use Rattle.json_lines.proofs.Growing.{grown_as, grown_then}
use Rattle.script_text.proofs.printed_parts.push_told.Goals as goal

pub returns : goal.returns
returns c = grown_then (grown_then c.push.ensures (grown_then c.push-2.ensures (grown_as c.encode.ensures c.push-3.ensures))) c.push-4.ensures
