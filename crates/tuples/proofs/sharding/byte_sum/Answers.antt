use Rattle.std.proofs.Common.{◌≡◌, sum, arith, rules}
use Rattle.tuples.proofs.Sums.{sum_bytes}
use Rattle.tuples.proofs.sharding.byte_sum.Goals as goal

pub returns-clause-small : goal.returns-clause-small
returns-clause-small c =
    let total : c.sum.result ≡ sum c.args.bytes.now = search rules in
    let most = sum_bytes c.args.bytes.now (λ i. omega (arith, c.type_inv.bytes i)) in
    omega (arith, total, most)
