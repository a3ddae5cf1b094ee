use Rattle.std.proofs.Common.{ℕ, Err, Ok, inr, subst}
use Rattle.json_lines.specs.declared.answer.Answer.TheVariants as answer
use Rattle.tuples.specs.declared.request.Request.TheVariants as requests
use Rattle.server.specs.Answered.{Answered, SessionValue}
use Rattle.server.proofs.Answering.{what_is_found_answers}
use Rattle.server.proofs.session.StoreSessionAnswers.watch.Goals as goal

-- The limit that was handed over is the one that was asked for.
pub returns-in-Answered : goal.returns-in-Answered
returns-in-Answered g c =
    let session : SessionValue = record { known = c.watch-end.new.caller.pass; told = c.watch-end.new.told } in
    let listed = Ok (answer.Events (record { heartbeat = c.in-Answered.heartbeat; events = c.in-Answered.events })) in
    subst (λ (limit : ℕ). Answered g.B.Room.rests c.args.self.now session (requests.Watch c.args.from limit c.args.namespaces) listed) c.from-limit.ensures
    (what_is_found_answers _ c.self.inside.caller.pass c.self.inside.told _ session c.self.view_is _ _ c.watch-end.ensures.caller
    (λ rests. (c.in-Answered.ensures.lists rests, c.in-Answered.ensures.kept rests)))

pub returns-in-Refused : goal.returns-in-Refused
returns-in-Refused g c =
    let session : SessionValue = record { known = c.watch-end.new.caller.pass; told = c.watch-end.new.told } in
    what_is_found_answers _ c.self.inside.caller.pass c.self.inside.told _ session c.self.view_is (requests.Watch c.args.from c.args.limit c.args.namespaces)
    (Err c.in-Refused.refusal) c.watch-end.ensures.caller (λ rests. inr (c.in-Refused.ensures.refused rests))
