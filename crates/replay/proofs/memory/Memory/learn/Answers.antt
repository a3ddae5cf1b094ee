use Rattle.std.proofs.Common.{sym, subst}
use Rattle.std.specs.List.{AllByRecursion}
use Rattle.records.specs.Format.{IsPrepared}
use Rattle.replay.proofs.Doubting.{each_without_all}
use Rattle.replay.proofs.memory.Memory.learn.Goals as goal

pub invariant_of-self-2 : goal.invariant_of-self-2
invariant_of-self-2 c =
    subst (AllByRecursion IsPrepared) (sym c.release_placed_ids.ensures) (each_without_all IsPrepared c.args.placed_ids.now c.self.inside.in_doubt c.self.invariant)
