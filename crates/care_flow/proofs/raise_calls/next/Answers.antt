-- The raise is that of the flow.
use Rattle.care_flow.proofs.raise_calls.next.Goals as goal

pub returns-in-Raise-clause-asks : goal.returns-in-Raise-clause-asks
returns-in-Raise-clause-asks c = let own = rw c.in-Raise.is at c.requires in rw c.in-Raise.is (rw (own.0, own.1) at c.raise.ensures.asks)
