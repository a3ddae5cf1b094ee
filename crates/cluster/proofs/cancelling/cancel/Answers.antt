-- The flows that stay are such as were there, except for the one that was cancelled.
use Rattle.std.proofs.Common.{None, Some, sym}
use Rattle.cluster.proofs.Cancels.{still_of}
use Rattle.cluster.proofs.Slots.{keeps_flow, keeps_none, puts}
use Rattle.cluster.proofs.cancelling.cancel.Goals as goal

pub returns-in_default-clause-kept : goal.returns-in_default-clause-kept
returns-in_default-clause-kept c = λ shards were.
    keeps_none shards c.args.flows.now.slots c.try_remove.new.self.slots c.args.slot (puts c.args.flows.now c.try_remove.new.self c.args.slot None c.try_remove.ensures.updates) were

pub returns-in-Some-cancel-clause-kept : goal.returns-in-Some-cancel-clause-kept
returns-in-Some-cancel-clause-kept c = λ shards were.
    let old = c.args.flows.now in
    let mid = c.try_remove.new.self in
    let new = c.insert_reserved-slot.new.self in
    let flow = c.in-Some.flow in
    let later = c.in-Some-cancel.later in
    keeps_flow shards mid.slots new.slots c.insert_reserved-slot.result later (puts mid new c.insert_reserved-slot.result (Some later) c.insert_reserved-slot.ensures.updates)
    (keeps_none shards old.slots mid.slots c.args.slot (puts old mid c.args.slot None c.try_remove.ensures.updates) were)
    (still_of shards flow later c.in-Some-cancel.ensures (were c.args.slot flow (sym c.in-Some.ensures.value)))

pub returns-in_default-cancel-clause-kept : goal.returns-in_default-cancel-clause-kept
returns-in_default-cancel-clause-kept c = λ shards were.
    keeps_none shards c.args.flows.now.slots c.try_remove.new.self.slots c.args.slot (puts c.args.flows.now c.try_remove.new.self c.args.slot None c.try_remove.ensures.updates) were
