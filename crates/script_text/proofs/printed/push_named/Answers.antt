use Rattle.json_lines.proofs.Growing.{grown_then}
use Rattle.script_text.proofs.printed.push_named.Goals as goal

pub returns : goal.returns
returns c = grown_then (grown_then c.push.ensures c.push-2.ensures) c.push-3.ensures
