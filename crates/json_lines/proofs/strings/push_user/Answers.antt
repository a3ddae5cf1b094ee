use Rattle.std.proofs.Common.{ap, sym, ◌∙◌}
use Rattle.json.specs.Print.{escape}
use Rattle.tuples.specs.Texts.{object_text, user_text}
use Rattle.json_lines.proofs.Escapes.{with_hash}
use Rattle.json_lines.proofs.Growing.{grown_as, grown_then}
use Rattle.json_lines.proofs.strings.push_user.Goals as goal

pub returns-in-Set : goal.returns-in-Set
returns-in-Set c =
    grown_as (with_hash (object_text c.in-Set.userset.object) c.in-Set.userset.relation ∙ ap (λ u. escape (user_text u)) (sym c.in-Set.is))
    (grown_then c.push_object.ensures
    (grown_then c.push.ensures (grown_as (ap escape c.as_bytes-in-Set.ensures.value) c.push_escaped-in-Set.ensures)))
