use Rattle.std.proofs.Common.{ap, sym}
use Rattle.json.specs.Print.{escape_byte, quoted}
use Rattle.json_lines.specs.Texts.{change_name}
use Rattle.json_lines.proofs.Growing.{grown_as}
use Rattle.json_lines.proofs.answer_lists.push_change.Goals as goal

pub returns-in-Touch : goal.returns-in-Touch
unfolding escape_byte
returns-in-Touch c = grown_as (ap (λ x. quoted (change_name x)) (sym c.in-Touch.is)) c.push.ensures

pub returns-in-Delete : goal.returns-in-Delete
unfolding escape_byte
returns-in-Delete c = grown_as (ap (λ x. quoted (change_name x)) (sym c.in-Delete.is)) c.push-in-Delete.ensures
