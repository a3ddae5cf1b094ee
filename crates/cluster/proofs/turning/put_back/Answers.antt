-- The flow is put back where it was, among flows of this store.
use Rattle.std.proofs.Common.{Some}
use Rattle.cluster.proofs.Slots.{keeps_flow, puts}
use Rattle.cluster.proofs.turning.put_back.Goals as goal

pub returns-clause-kept : goal.returns-clause-kept
returns-clause-kept c =
    keeps_flow c.args.shards c.args.flows.now.slots c.insert_reserved-slot.new.self.slots c.insert_reserved-slot.result c.args.flow
    (puts c.args.flows.now c.insert_reserved-slot.new.self c.insert_reserved-slot.result (Some c.args.flow) c.insert_reserved-slot.ensures.updates)
    c.requires.flows c.requires.of
