use Rattle.std.proofs.Common.{◌+◌, ℕ, ap, arith}
use Rattle.openings.proofs.opening.restored.Goals as goal

pub returns-clause-ok : goal.returns-clause-ok
returns-clause-ok g c =
    let is = c.in_ok-memory.ensures.ok in
    let same = c.epoch-epoch.ensures.value is.rs is.made_of in
    let below = c.if-epoch-ge-MAX_NUMBER.false in
    (is, ap (λ (n : ℕ). n + 1) same, omega (arith, same, below))
