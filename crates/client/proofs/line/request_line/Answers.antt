use Rattle.std.proofs.Common.{sym, subst}
use Rattle.tuples.specs.Parsing.{Lacks}
use Rattle.client.proofs.Cuts.{lacks_feed}
use Rattle.client.proofs.line.request_line.Goals as goal

pub returns-then-starts_with-clause-feed : goal.returns-then-starts_with-clause-feed
returns-then-starts_with-clause-feed c = subst (Lacks 10) (sym c.in_ok-from_str.ensures.ok) (lacks_feed c.args.text.now c.contains.result c.contains.ensures.cases c.if-contains.false)
