use Rattle.json_lines.proofs.Growing.{grown_then}
use Rattle.json_lines.proofs.strings.push_quoted.Goals as goal

pub returns : goal.returns
returns c = grown_then c.push.ensures (grown_then c.push_escaped.ensures c.push-2.ensures)
