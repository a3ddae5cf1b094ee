use Rattle.std.proofs.Common.{string_bytes}
use Rattle.client.proofs.Asking.{HasAsked}
use Rattle.client.proofs.ask.ask_again.Given as goal

-- each answer so far was one after which the request may be sent again
abbrev pub invariant-loop-number : goal.invariant-loop-number
invariant-loop-number g l = HasAsked l.number l.request.kind (string_bytes l.request.line) (g.I.Read.remaining l.initial.input) (g.I.Read.remaining l.input) (g.O.Write.contents l.initial.output) (g.O.Write.contents l.output)
