-- The intent that comes back has the id of the write.
use Rattle.std.proofs.Common.{Some, subst}
use Rattle.tuples.specs.declared.entry.WriteId.{WriteId}
use Rattle.commit_flow.specs.Answering.{NotDecidedGives}
use Rattle.commit_flow.specs.Views.{view_out, view_ready}
use Rattle.commit_flow.specs.declared.phase.Out.TheVariants.{Decide as decide_out}
use Rattle.commit_flow.proofs.deciding.decided.Goals as goal

pub returns-in-Some-clause-gives : goal.returns-in-Some-clause-gives
returns-in-Some-clause-gives c =
    let back = rw (c.in-Err.is, c.in-Some.is) at c.requires.back in
    let gives = subst (λ (id : WriteId). NotDecidedGives (view_out (decide_out id c.args.is_again)) c.args.is_again c.in-Err.refused.refusal (Some c.in-Some.intent) c.in-Err.refused.votes.items (view_ready c.come_back.result)) back.0 c.come_back.ensures.gives in
    rw (c.in-Err.is, c.in-Some.is) gives
