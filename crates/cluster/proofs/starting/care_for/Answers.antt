-- What was begun is of the store, as the others are.
use Rattle.std.proofs.Common.{ap, subst, sym}
use Rattle.slab.specs.Slab.{Slab}
use Rattle.cluster.specs.declared.flow.Flow.{Flow}
use Rattle.cluster.specs.declared.flow.Flow.TheVariants.{Care}
use Rattle.cluster.specs.Begun.{MayCare}
use Rattle.cluster.specs.Flows.{IsOf}
use Rattle.cluster.specs.Kept.{AreFlows}
use Rattle.cluster.proofs.Beginning.{adds_keep, care_of, test_true}
use Rattle.cluster.proofs.starting.care_for.Goals as goal

pub returns-clause-kept : goal.returns-clause-kept
returns-clause-kept c = λ all.
    let may = test_true c.may_care.result (MayCare c.args.shards c.args.care) c.may_care.ensures c.if-not-may_care.false in
    adds_keep c.args.shards c.reserve.new.self.slots c.add.new.flows.slots (Care c.new.result) c.add.result c.add.ensures
    (subst (IsOf c.args.shards) (sym (ap Care c.new.ensures)) (care_of c.args.shards c.args.care may))
    (subst (λ (s : Slab Flow). AreFlows c.args.shards s.slots) (sym c.reserve.ensures.rest_kept) all)
