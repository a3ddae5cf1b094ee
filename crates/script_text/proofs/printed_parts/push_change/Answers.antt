use Rattle.std.proofs.Common.{ap, sym}
use Rattle.json_lines.proofs.Growing.{grown_as, grown_then}
use Rattle.script_text.specs.PrintedTexts.{change_text}
use Rattle.script_text.proofs.printed_parts.push_change.Goals as goal

pub returns-in-Touch : goal.returns-in-Touch
returns-in-Touch c = grown_as (ap change_text (sym c.in-Touch.is)) (grown_then c.push.ensures c.push_tuple.ensures)

pub returns-in-Delete : goal.returns-in-Delete
returns-in-Delete c = grown_as (ap change_text (sym c.in-Delete.is)) (grown_then c.push-in-Delete.ensures c.push_tuple-in-Delete.ensures)
