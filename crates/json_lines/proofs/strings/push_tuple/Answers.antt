use Rattle.std.proofs.Common.{ap, ◌++◌, ◌∷◌}
use Rattle.json.specs.Print.{escape}
use Rattle.tuples.specs.Texts.{object_text, user_text}
use Rattle.json_lines.proofs.Escapes.{with_hash, with_at}
use Rattle.json_lines.proofs.Growing.{grown_as, grown_then}
use Rattle.json_lines.proofs.strings.push_tuple.Goals as goal

pub returns : goal.returns
returns c =
    let t = c.args.tuple.now in
    grown_then c.push.ensures (grown_then
    (grown_as (with_at (object_text t.object ++ 35 ∷ t.relation) (user_text t.user))
    (grown_then
    (grown_as (with_hash (object_text t.object) t.relation)
    (grown_then c.push_object.ensures (grown_then c.push-2.ensures (grown_as (ap escape c.as_bytes.ensures.value) c.push_escaped.ensures))))
    (grown_then c.push-3.ensures c.push_user.ensures)))
    c.push-4.ensures)
