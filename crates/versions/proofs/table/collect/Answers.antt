use Rattle.std.proofs.Common.{rules, arith}
use Rattle.tuples.specs.Texts.{IsTuple}
use Rattle.versions.proofs.Index.{index_filtered, index_same, same_keys}
use Rattle.versions.proofs.Tables.{all_retained, kept_alike, kept_keys}
use Rattle.versions.proofs.table.collect.Goals as goal

pub returns-then-len-count-clause-table : goal.returns-then-len-count-clause-table
returns-then-len-count-clause-table c = record { in_order = c.retain.ensures.ordered; spelled = all_retained IsTuple _ _ c.args.table.now.entries c.retain.new.self.entries c.requires.table.spelled c.retain.ensures.filtered }

pub returns-then-len-count-clause-versions : goal.returns-then-len-count-clause-versions
returns-then-len-count-clause-versions c = kept_alike c.args.horizon _ _ (λ k v b w g called. (search rules, search rules, search rules)) c.args.table.now.entries c.retain.new.self.entries c.retain.ensures.was_ordered c.retain.ensures.filtered

pub returns-then-len-count-clause-index : goal.returns-then-len-count-clause-index
returns-then-len-count-clause-index c = index_filtered c.args.users.now.keys c.forget_gone.new.users.keys c.args.table.now.entries c.retain.new.self.entries c.requires.index c.forget_gone.ensures (λ t some. search rules)

pub returns-else-len-count-clause-table : goal.returns-else-len-count-clause-table
returns-else-len-count-clause-table c = record { in_order = c.retain.ensures.ordered; spelled = all_retained IsTuple _ _ c.args.table.now.entries c.retain.new.self.entries c.requires.table.spelled c.retain.ensures.filtered }

pub returns-else-len-count-clause-versions : goal.returns-else-len-count-clause-versions
returns-else-len-count-clause-versions c = kept_alike c.args.horizon _ _ (λ k v b w g called. (search rules, search rules, search rules)) c.args.table.now.entries c.retain.new.self.entries c.retain.ensures.was_ordered c.retain.ensures.filtered

pub returns-else-len-count-clause-index : goal.returns-else-len-count-clause-index
returns-else-len-count-clause-index c =
    index_same c.args.users.now.keys c.args.table.now.entries c.retain.new.self.entries c.requires.index
    (same_keys c.args.table.now.entries c.retain.new.self.entries (kept_keys _ _ c.args.table.now.entries c.retain.new.self.entries (omega arith) c.retain.ensures.filtered))
