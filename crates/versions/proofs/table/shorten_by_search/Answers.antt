use Rattle.std.proofs.Common.{rules}
use Rattle.tuples.specs.Texts.{IsTuple}
use Rattle.versions.proofs.Shortened.{shortened_alike, shortened_same}
use Rattle.versions.proofs.Tables.{all_retained}
use Rattle.versions.proofs.table.shorten_by_search.Goals as goal

pub returns-clause-table : goal.returns-clause-table
returns-clause-table c = record { in_order = c.retain.ensures.ordered; spelled = all_retained IsTuple _ _ c.args.table.now.entries c.retain.new.self.entries c.requires.table.spelled c.retain.ensures.filtered }

pub returns-clause-entries : goal.returns-clause-entries
returns-clause-entries c = shortened_same c.args.tuple.now _ _ (λ k v b w g called. (search rules, search rules, search rules)) c.args.table.now.entries c.retain.new.self.entries c.retain.ensures.filtered

pub returns-clause-versions : goal.returns-clause-versions
returns-clause-versions c front row whole =
    shortened_alike c.args.tuple.now _ _ (λ k v b w g called. (search rules, search rules, search rules)) c.args.table.now.entries c.retain.new.self.entries c.retain.ensures.filtered
    c.retain.ensures.was_ordered c.retain.ensures.ordered front row whole
