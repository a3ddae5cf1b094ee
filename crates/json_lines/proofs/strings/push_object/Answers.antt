use Rattle.std.proofs.Common.{ap}
use Rattle.json.specs.Print.{escape}
use Rattle.json_lines.proofs.Escapes.{with_colon}
use Rattle.json_lines.proofs.Growing.{grown_as, grown_then}
use Rattle.json_lines.proofs.strings.push_object.Goals as goal

pub returns : goal.returns
returns c =
    grown_as (with_colon c.args.object.now.namespace c.args.object.now.id)
    (grown_then (grown_as (ap escape c.as_bytes.ensures.value) c.push_escaped.ensures)
    (grown_then c.push.ensures (grown_as (ap escape c.as_bytes-2.ensures.value) c.push_escaped-2.ensures)))
