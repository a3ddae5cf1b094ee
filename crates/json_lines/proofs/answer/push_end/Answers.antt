use Rattle.json_lines.proofs.Growing.{grown_then}
use Rattle.json_lines.proofs.answer.push_end.Goals as goal

pub returns : goal.returns
returns c = grown_then c.push_zookie.ensures c.push.ensures
