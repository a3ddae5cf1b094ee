-- What was begun is of the store, as the others are.
use Rattle.std.proofs.Common.{subst, sym}
use Rattle.slab.specs.Slab.{Slab}
use Rattle.cluster.specs.declared.flow.Flow.{Flow}
use Rattle.cluster.specs.Flows.{IsOf}
use Rattle.cluster.specs.Kept.{AreFlows}
use Rattle.cluster.proofs.Beginning.{adds_keep, request_of}
use Rattle.cluster.proofs.starting.start.Goals as goal

pub returns-clause-kept : goal.returns-clause-kept
returns-clause-kept c = λ all. adds_keep c.args.shards c.reserve.new.self.slots c.add.new.flows.slots c.in_ok-flow.flow c.add.result c.add.ensures
    (subst (IsOf c.args.shards) (sym c.in_ok-flow.ensures) (request_of c.args.shards c.args.request.now))
    (subst (λ (s : Slab Flow). AreFlows c.args.shards s.slots) (sym c.reserve.ensures.rest_kept) all)
