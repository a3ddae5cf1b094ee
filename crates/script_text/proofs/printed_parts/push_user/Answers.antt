use Rattle.std.proofs.Common.{ap, sym, ◌∙◌}
use Rattle.tuples.specs.Texts.{user_text}
use Rattle.json_lines.proofs.Growing.{grown_as, grown_then}
use Rattle.script_text.proofs.printed_parts.push_user.Goals as goal

pub returns-in-Id : goal.returns-in-Id
returns-in-Id c = grown_as (c.as_bytes.ensures.value ∙ ap user_text (sym c.in-Id.is)) c.push.ensures

pub returns-in-Set : goal.returns-in-Set
returns-in-Set c =
    grown_as (ap user_text (sym c.in-Set.is)) (grown_then c.push_object.ensures (grown_then c.push-in-Set.ensures (grown_as c.as_bytes-in-Set.ensures.value c.push-in-Set-2.ensures)))
