-- Nothing was found before the shard has told what is in doubt.
use Rattle.std.proofs.Common.{inl, refl}
use Rattle.care_flow.proofs.resolving.told.Goals as goal

pub returns-in-Ok-new-clause-gives : goal.returns-in-Ok-new-clause-gives
returns-in-Ok-new-clause-gives c = let known = c.in-Ok-new.ensures in
    rw c.in-Ok.is (inl (known.0, c.go_on.ensures.goes _ _ refl (rw (c.requires, known.1) refl)))
