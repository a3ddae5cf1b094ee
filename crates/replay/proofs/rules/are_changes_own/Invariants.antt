use Rattle.std.proofs.Common.{◌≡◌, drop}
use Rattle.std.specs.List.{list_all}
use Rattle.tuples.specs.Changes.{changed}
use Rattle.replay.specs.Rules.{is_own}
use Rattle.replay.proofs.rules.are_changes_own.Given as goal

-- all are own if all are from here on
abbrev pub invariant-loop-change : goal.invariant-loop-change
invariant-loop-change l = list_all (is_own l.me) (changed l.changes) ≡ list_all (is_own l.me) (changed (drop l.change-index l.changes))
