use Rattle.std.proofs.Common.{ap, sym}
use Rattle.json_lines.proofs.Growing.{grown_as, grown_then}
use Rattle.script_text.specs.PrintedTexts.{printed_text}
use Rattle.script_text.proofs.printed.push_printed.Goals as goal

pub returns-in-Answer : goal.returns-in-Answer
returns-in-Answer c = grown_as (ap (printed_text c.args.store) (sym c.in-Answer.is)) c.push_answer.ensures

pub returns-in-Started : goal.returns-in-Started
returns-in-Started c = grown_as (ap (printed_text c.args.store) (sym c.in-Started.is)) c.push_named.ensures

pub returns-in-Next : goal.returns-in-Next
returns-in-Next c = grown_as (ap (printed_text c.args.store) (sym c.in-Next.is)) c.push_named-in-Next.ensures

pub returns-in-Cancelled : goal.returns-in-Cancelled
returns-in-Cancelled c = grown_as (ap (printed_text c.args.store) (sym c.in-Cancelled.is)) c.push_named-in-Cancelled.ensures

pub returns-in-Committed : goal.returns-in-Committed
returns-in-Committed c =
    grown_as (ap (printed_text c.args.store) (sym c.in-Committed.is))
    (grown_then (grown_then (grown_then c.push-in-Committed.ensures c.push_id.ensures) (grown_then c.push-in-Committed-2.ensures c.push_number.ensures)) c.push-in-Committed-3.ensures)

pub returns-in-Aborted : goal.returns-in-Aborted
returns-in-Aborted c = grown_as (ap (printed_text c.args.store) (sym c.in-Aborted.is)) c.push_resolved.ensures

pub returns-in-Undecided : goal.returns-in-Undecided
returns-in-Undecided c = grown_as (ap (printed_text c.args.store) (sym c.in-Undecided.is)) c.push_resolved-in-Undecided.ensures

pub returns-in-Versions : goal.returns-in-Versions
returns-in-Versions c = grown_as (ap (printed_text c.args.store) (sym c.in-Versions.is)) c.push_versions.ensures

pub returns-in-Refused : goal.returns-in-Refused
returns-in-Refused c = grown_as (ap (printed_text c.args.store) (sym c.in-Refused.is)) c.push_refusal.ensures
