-- The refusal is that of the catch-up, whichever of its calls was out.
use Rattle.std.proofs.Common.{ap, None, false}
use Rattle.names.specs.declared.call_name.CallName.TheVariants.{Learned}
use Rattle.catch_up.specs.declared.caught.Progress.TheVariants.{Refused}
use Rattle.care_flow.specs.RaisePhases.{view_of}
use Rattle.care_flow.proofs.Naming.{whichever_next}
use Rattle.care_flow.proofs.raise_replies.caught_up.Goals as goal

pub returns-in-Refused-clause-gives : goal.returns-in-Refused-clause-gives
returns-in-Refused-clause-gives c =
    let refused = Refused c.in-Refused.refusal in
    let gives = whichever_next c.args.call Learned None false c.args.reply refused (rw c.in-Refused.is at c.give.ensures) in
    (refused, rw (c.requires.own.0, c.requires.own.1) at gives, ap view_of c.refused.ensures)
