use Rattle.std.proofs.Common.{ap, ◌∙◌}
use Rattle.std.specs.Fmt.{decimal}
use Rattle.json.specs.Print.{quoted}
use Rattle.json_lines.proofs.Growing.{grown_as, grown_then}
use Rattle.json_lines.proofs.Wholes.{refusal_parts}
use Rattle.json_lines.proofs.answer.push_refusal.Goals as goal

pub returns : goal.returns
returns c =
    grown_as (refusal_parts c.args.refusal) (grown_then c.push.ensures (grown_then (grown_as (ap decimal (c.from.ensures ∙ c.number.ensures)) c.push_number.ensures)
    (grown_then c.push-2.ensures (grown_then (grown_as (ap quoted (c.as_bytes.ensures.value ∙ c.name.ensures)) c.push_quoted.ensures) c.push-3.ensures))))
