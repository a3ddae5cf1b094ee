use Rattle.std.proofs.Common.{◌≡◌, drop}
use Rattle.replay.specs.Rules.{are_prepared}
use Rattle.replay.proofs.rules.are_prepared.Given as goal

-- all are prepared if all are from here on
abbrev pub invariant-loop-i : goal.invariant-loop-i
invariant-loop-i l = are_prepared l.placed_ids l.holds ≡ are_prepared (drop l.i l.placed_ids) l.holds
