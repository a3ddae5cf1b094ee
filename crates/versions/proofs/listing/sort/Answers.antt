use Rattle.std.proofs.Common.{ap, rules}
use Rattle.std.specs.Ordering.{is_lt}
use Rattle.std.proofs.lemmas.List.Sorted.{answers_always}
use Rattle.versions.proofs.Listed.{version_ranks}
use Rattle.versions.proofs.listing.sort.Goals as goal

pub returns-clause-in_order : goal.returns-clause-in_order
returns-clause-in_order c = c.in_ok-sort_by.ensures.sorted _ version_ranks (answers_always _ _ _ (λ f a r f' k. ap is_lt (search rules)))
