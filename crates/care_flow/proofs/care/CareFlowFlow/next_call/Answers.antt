-- A raise waits for the reply.
use Rattle.care_flow.specs.declared.care.CareFlow.TheVariants.{Raise}
use Rattle.care_flow.proofs.Fitting.{awaits}
use Rattle.care_flow.proofs.care.CareFlowFlow.next_call.Goals as goal

pub returns-in-Raise-clause-awaits : goal.returns-in-Raise-clause-awaits
returns-in-Raise-clause-awaits c =
    let made = c.next_call-call-in-Raise in
    λ reply b. awaits (Raise c.in-Raise.flow) (Raise made.result.1) made.result.0 reply (made.ensures.same.0, made.ensures.same.1, made.ensures.call) b
