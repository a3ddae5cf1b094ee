use Rattle.std.proofs.Common.{ap}
use Rattle.serde_json.specs.Written.{compact_text}
use Rattle.json.specs.Print.{escape_byte}
use Rattle.json_lines.specs.Texts.{sets_json}
use Rattle.json_lines.proofs.Growing.{grown_as, grown_then}
use Rattle.json_lines.proofs.answer.push_rows.Goals as goal

pub returns : goal.returns
unfolding escape_byte
returns c = grown_then c.push.ensures (grown_then (grown_as (ap (λ l. compact_text (sets_json l)) c.deref.ensures.value) c.push_sets.ensures) (grown_then c.push-2.ensures c.push_end.ensures))
