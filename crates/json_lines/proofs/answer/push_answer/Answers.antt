use Rattle.std.proofs.Common.{ap, sym}
use Rattle.json.specs.Print.{escape_byte}
use Rattle.json_lines.specs.Texts.{answer_line}
use Rattle.json_lines.proofs.Growing.{grown_as, grown_then}
use Rattle.json_lines.proofs.answer.push_answer.Goals as goal

pub returns-in-Written : goal.returns-in-Written
unfolding escape_byte
returns-in-Written c = grown_as (ap (answer_line c.args.store) (sym c.in-Written.is)) (grown_then c.push.ensures c.push_end.ensures)

pub returns-in-Membership : goal.returns-in-Membership
unfolding escape_byte
returns-in-Membership c =
    grown_as (ap (answer_line c.args.store) (sym c.in-Membership.is))
    (grown_then c.push-in-Membership.ensures (grown_then c.push_bool.ensures (grown_then c.push-in-Membership-2.ensures c.push_end-in-Membership.ensures)))
