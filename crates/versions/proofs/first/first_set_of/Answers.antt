use Rattle.std.proofs.Common.{◌≡◌, rules}
use Rattle.versions.specs.Rows.{lowest_userset}
use Rattle.versions.proofs.Firsts.{set_first_is}
use Rattle.versions.proofs.first.first_set_of.Goals as goal

pub returns : goal.returns
returns c =
    let o : c.in_ok-object.object ≡ c.args.userset.now.object = search rules in
    let r : c.in_ok-relation.relation ≡ c.args.userset.now.relation = search rules in
    let y : c.in_ok-lowest.lowest ≡ lowest_userset = search rules in
    rw o (rw r (rw y (set_first_is c.args.userset.now)))
