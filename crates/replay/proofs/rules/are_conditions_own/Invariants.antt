use Rattle.std.proofs.Common.{◌≡◌, drop}
use Rattle.std.specs.List.{list_all}
use Rattle.tuples.specs.Changes.{conditioned}
use Rattle.replay.specs.Rules.{is_own}
use Rattle.replay.proofs.rules.are_conditions_own.Given as goal

-- all are own if all are from here on
abbrev pub invariant-loop-condition : goal.invariant-loop-condition
invariant-loop-condition l = list_all (is_own l.me) (conditioned l.conditions) ≡ list_all (is_own l.me) (conditioned (drop l.condition-index l.conditions))
