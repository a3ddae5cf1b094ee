use Rattle.std.proofs.Common.{rules}
use Rattle.versions.proofs.Index.{index_none}
use Rattle.versions.proofs.versions.Versions.new.Goals as goal

pub invariant_of-result : goal.invariant_of-result
invariant_of-result c = (record { in_order = search rules; spelled = search rules }, index_none _ _ (search rules) (search rules))
