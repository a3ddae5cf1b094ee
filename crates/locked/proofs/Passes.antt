-- What a pass knows later.
use Rattle.std.proofs.Common.{◌∙◌, arith, refl}
use Rattle.locked.proofs.Words.{Entry, IsLater, Known}
use Rattle.published.proofs.Prefixes.{prefix_self, prefix_trans}

pub later_on : (one two three : Known Entry) → IsLater one two → IsLater two three → IsLater one three
later_on one two three first then = record {
  table = then.table ∙ first.table;
  seen = prefix_trans one.seen two.seen three.seen first.seen then.seen;
  horizon = omega (arith, first.horizon, then.horizon);
}

pub later_self : (one : Known Entry) → IsLater one one
later_self one = record { table = refl; seen = prefix_self one.seen; horizon = omega (arith) }
