use Rattle.std.proofs.Common.{ap, ◌∙◌}
use Rattle.std.specs.Fmt.{decimal}
use Rattle.json_lines.proofs.Growing.{grown_as, grown_then}
use Rattle.script_text.proofs.printed.push_refusal.Goals as goal

pub returns : goal.returns
returns c =
    grown_then
    (grown_then (grown_then c.push.ensures (grown_as (ap decimal (c.from.ensures ∙ c.number.ensures)) c.push_number.ensures))
    (grown_then c.push-2.ensures (grown_as (c.as_bytes.ensures.value ∙ c.name.ensures) c.push-3.ensures)))
    c.push-4.ensures
