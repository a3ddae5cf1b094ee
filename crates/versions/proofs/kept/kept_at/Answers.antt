use Rattle.std.proofs.Common.{◌≡◌, rules}
use Rattle.versions.proofs.Firsts.{key_first}
use Rattle.versions.proofs.kept.kept_at.Goals as goal

pub kept_from-requires-clause-first : goal.kept_from-requires-clause-first
kept_from-requires-clause-first g c =
    let first : c.in_ok-first-in-Key.first ≡ c.in-Key.key = search rules in
    rw c.in-Key.is (rw first (key_first c.in-Key.key))
