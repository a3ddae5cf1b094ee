use Rattle.json_lines.proofs.Growing.{grown_then}
use Rattle.script_text.proofs.printed_lists.push_version.Goals as goal

pub returns : goal.returns
returns c = grown_then (grown_then c.push_number.ensures (grown_then c.push.ensures c.push_change.ensures)) c.push-2.ensures
