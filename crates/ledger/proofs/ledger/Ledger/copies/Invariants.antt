use Rattle.std.proofs.Common.{◌≡◌, take, drop}
use Rattle.ledger.proofs.ledger.Ledger.copies.Given as goal

abbrev pub invariant-loop-index : goal.invariant-loop-index
invariant-loop-index l = l.copies.items ≡ take l.index (drop l.first l.self.log)
