use Rattle.std.proofs.Common.{◌≡◌, ◌-◌, drop}
use Rattle.ledger.proofs.ledger.Ledger.forget.Given as goal

abbrev pub invariant-loop : goal.invariant-loop
invariant-loop l = l.self ≡ record l.fn.self { base = l.counter; log = drop (l.counter - l.fn.self.base) l.fn.self.log }
