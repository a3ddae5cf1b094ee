-- It stays a care of nodes that are there.
use Rattle.care_flow.specs.Cares.{IsThere}
use Rattle.flow_rows.proofs.caring.turn_all.Given as goal

abbrev pub invariant-loop-turn : goal.invariant-loop-turn
invariant-loop-turn g l = IsThere 2 l.flow
