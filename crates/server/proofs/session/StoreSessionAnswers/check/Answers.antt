use Rattle.server.proofs.Answering.{what_is_found_answers}
use Rattle.server.proofs.session.StoreSessionAnswers.check.Goals as goal

pub returns-in-Answered : goal.returns-in-Answered
returns-in-Answered g c =
    what_is_found_answers _ c.self.inside.caller.pass c.self.inside.told _ _ c.self.view_is _ _ c.check-end.ensures.caller
    (λ rests. (c.in-Answered.ensures.answer rests, c.in-Answered.ensures.kept rests))
