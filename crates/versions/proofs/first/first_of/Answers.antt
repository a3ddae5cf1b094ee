use Rattle.std.proofs.Common.{◌≡◌, ◌∷◌, [], rules}
use Rattle.versions.specs.Rows.{first_relation}
use Rattle.versions.proofs.Firsts.{first_is}
use Rattle.versions.proofs.first.first_of.Goals as goal

pub returns : goal.returns
returns c =
    let o : c.in_ok-object.object ≡ c.args.object.now = search rules in
    let r : c.in_ok-relation.relation ≡ first_relation c.args.relation.now = search rules in
    let i : c.in_ok-id.id ≡ 33 ∷ [] = search rules in
    rw o (rw r (rw i (first_is c.args.object.now c.args.relation.now)))
