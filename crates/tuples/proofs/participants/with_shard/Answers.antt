use Rattle.std.proofs.Common.{◌≡◌, ◌<◌, ◌^◌, ◌*◌, ◌%◌, ℕ, ◌++◌, ◌∷◌, [], subst, sym, bit_or, arith}
use Rattle.std.proofs.Math.Pow.{pow-lt}
use Rattle.std.proofs.lemmas.Nat.{one_shl, or_lt}
use Rattle.tuples.specs.Bits.{AreBitsOf}
use Rattle.tuples.specs.Parts.{shard_of}
use Rattle.tuples.proofs.BitsOf.{bits_of_more}
use Rattle.tuples.proofs.participants.with_shard.Goals as goal

pub overflow_shl-result : goal.overflow_shl-result
overflow_shl-result c = omega (arith, c.shard_of-shard.ensures.few)

pub returns-clause-bits : goal.returns-clause-bits
returns-clause-bits c numbers h =
    let found = c.shard_of-shard.ensures in
    let shard = shard_of c.args.shards c.args.object.now in
    let more = bits_of_more numbers c.args.bits shard (omega (arith, found.value, found.few)) h in
    subst (λ (n : ℕ). AreBitsOf (numbers ++ shard ∷ []) (bit_or c.args.bits (1 * 2 ^ n % 2 ^ 64))) (sym found.value) more

pub returns-clause-below : goal.returns-clause-below
returns-clause-below c small =
    let found = c.shard_of-shard.ensures in
    let shard = c.shard_of-shard.result in
    let bit : 1 * 2 ^ shard % 2 ^ 64 ≡ 2 ^ shard = one_shl shard 64 (omega (arith, found.few)) in
    let one : 1 * 2 ^ shard % 2 ^ 64 < 2 ^ c.args.shards = subst (λ (n : ℕ). n < 2 ^ c.args.shards) (sym bit) (pow-lt found.below) in
    or_lt c.args.shards c.args.bits (1 * 2 ^ shard % 2 ^ 64) small one
