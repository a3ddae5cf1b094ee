use Rattle.std.proofs.Common.{sym, subst}
use Rattle.std.specs.List.{AllByRecursion}
use Rattle.records.specs.Format.{IsPrepared}
use Rattle.replay.proofs.Doubting.{each_without}
use Rattle.replay.proofs.memory.Memory.drop_write.Goals as goal

pub invariant_of-self : goal.invariant_of-self
invariant_of-self c =
    subst (AllByRecursion IsPrepared) (sym c.release-write.ensures.left) (each_without IsPrepared c.args.id c.self.inside.in_doubt c.self.invariant)
