use Rattle.json_lines.proofs.Growing.{grown_then}
use Rattle.script_text.proofs.printed_parts.push_id.Goals as goal

pub returns : goal.returns
returns c = grown_then c.push_number.ensures (grown_then c.push.ensures c.push_number-2.ensures)
