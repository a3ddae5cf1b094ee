use Rattle.std.proofs.Common.{ap}
use Rattle.refusal.specs.declared.refusal.Refusal.{Refusal}
use Rattle.answer_flow.specs.declared.read_phase.ReadEnd.TheVariants as end
use Rattle.server.proofs.Answering.{what_is_found_answers}
use Rattle.server.proofs.session.StoreSessionAnswers.read.Goals as goal

pub returns-in-Answered : goal.returns-in-Answered
returns-in-Answered g c =
    what_is_found_answers _ c.self.inside.caller.pass c.self.inside.told _ _ c.self.view_is _ _ c.read-end.ensures.caller
    (λ rests. (c.in-Answered.ensures.answer rests, c.in-Answered.ensures.kept rests))

pub returns-in-Refused : goal.returns-in-Refused
returns-in-Refused g c =
    what_is_found_answers _ c.self.inside.caller.pass c.self.inside.told _ _ c.self.view_is _ _ c.read-end.ensures.caller
    (λ rests. (c.in-Refused.ensures.refused rests, λ is_collected. c.in-Refused.ensures.collected (ap (λ (e : Refusal). end.Refused e) is_collected)))
