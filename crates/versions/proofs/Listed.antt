-- The order in which versions are listed.
use Rattle.std.specs.Cmp.{IsStrictWeakOrder, IsTotalOrder}
use Rattle.std.specs.Ordering.{is_lt}
use Rattle.std.proofs.lemmas.Cmp.{nat_cmp_total, on_total, then_total}
use Rattle.std.proofs.lemmas.List.Sorted.{ranks_by}
use Rattle.tuples.specs.declared.version.Version.{Version}
use Rattle.tuples.specs.Changes.{tuple_of}
use Rattle.tuples.proofs.Ordered.{tuple_total}
use Rattle.versions.specs.Rows.{version_cmp}

pub version_total : IsTotalOrder version_cmp
version_total = then_total (on_total (λ (v : Version). tuple_of v.change) tuple_total) (on_total (λ (v : Version). v.place) nat_cmp_total)

pub version_ranks : IsStrictWeakOrder (λ (v u : Version). is_lt (version_cmp v u))
version_ranks = ranks_by version_total (λ (v : Version). v)
