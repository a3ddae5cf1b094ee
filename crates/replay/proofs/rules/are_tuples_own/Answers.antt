use Rattle.std.proofs.Common.{arith}
use Rattle.std.proofs.lemmas.List.Folds.{list_all-append}
use Rattle.std.proofs.lemmas.Grind.{common_steps}
use Rattle.replay.proofs.rules.are_tuples_own.Goals as goal

pub returns-then-are_changes_own : goal.returns-then-are_changes_own
returns-then-are_changes_own c = grind (arith, common_steps, list_all-append)

pub returns-else-are_changes_own : goal.returns-else-are_changes_own
returns-else-are_changes_own c = grind (arith, common_steps, list_all-append)
