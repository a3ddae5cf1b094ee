use Rattle.std.proofs.Common.{◌≡◌, ◌∷◌, [], rules}
use Rattle.versions.proofs.Firsts.{user_first_is}
use Rattle.versions.proofs.first.first_of_user.Goals as goal

pub returns : goal.returns
returns c =
    let n : c.in_ok-namespace.namespace ≡ c.args.namespace.now = search rules in
    let i : c.in_ok-id.id ≡ 33 ∷ [] = search rules in
    let r : c.in_ok-relation.relation ≡ 48 ∷ [] = search rules in
    let u : c.in_ok-user.user ≡ c.args.user.now = search rules in
    rw n (rw i (rw r (rw u (user_first_is c.args.namespace.now c.args.user.now))))
