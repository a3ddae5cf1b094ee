use Rattle.std.proofs.Common.{string_bytes}
use Rattle.client.proofs.Asking.{asked_more}
use Rattle.client.proofs.ask.ask_again.Goals as goal

pub loop-number-preserved : goal.loop-number-preserved
loop-number-preserved g c =
    let answered = c.in_ok-answered.ensures in
    asked_more c.loop-number.number c.args.request.now.kind (string_bytes c.args.request.now.line) _ _ _ _ _ _ c.in_ok-answered.answered c.loop-number.invariant answered.answer (c.is_asked_again.ensures.0 c.if-not-is_asked_again.false) answered.read answered.sent
