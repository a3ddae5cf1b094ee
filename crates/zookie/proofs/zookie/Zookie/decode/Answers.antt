use Rattle.zookie.proofs.Pairs.{of_no_other}
use Rattle.zookie.proofs.zookie.Zookie.decode.Goals as goal

pub returns-clause-other : goal.returns-clause-other
returns-clause-other c = (λ is. absurd cc, λ another. absurd (of_no_other c.args.text.now c.in-Some.zookie.store c.in-Some.zookie.place c.in-Some.ensures.0 c.in-Some.ensures.1 c.args.store c.if-zookie-store.false another))
