use Rattle.std.proofs.Common.{sym, subst, rules}
use Rattle.std.specs.List.{AllByRecursion}
use Rattle.records.specs.Format.{IsPrepared}
use Rattle.replay.proofs.Doubting.{each_put}
use Rattle.replay.proofs.memory.Memory.prepare.Goals as goal

pub invariant_of-self-2 : goal.invariant_of-self-2
invariant_of-self-2 c =
    subst (AllByRecursion IsPrepared) (sym c.in_ok-take.ensures.ok) (each_put IsPrepared c.args.entry c.self.inside.in_doubt c.requires c.self.invariant)

pub returns-in_err-take-clause-same : goal.returns-in_err-take-clause-same
returns-in_err-take-clause-same c = search rules
