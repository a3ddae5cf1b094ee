use Rattle.std.proofs.Common.{List, subst}
use Rattle.std.specs.List.Sorted.{IsSorted}
use Rattle.tuples.specs.declared.version.Version.{Version}
use Rattle.versions.specs.Rows.{version_cmp}
use Rattle.reshard.specs.Merging.{merged}
use Rattle.reshard.proofs.Merged.{merged_same, merged_sorted}
use Rattle.reshard.proofs.rows.Rows.keeps_order.Goals as goal

pub returns-clause-in_order : goal.returns-clause-in_order
returns-clause-in_order c = subst (λ (lists : List (List Version)). IsSorted version_cmp (merged lists)) c.self.view_is (merged_sorted _ c.self.invariant)

pub returns-clause-same : goal.returns-clause-same
returns-clause-same c = merged_same c.args.self.now
