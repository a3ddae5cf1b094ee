-- The flow of the slot turns, and is left in the slot from which it was taken.
use Rattle.std.proofs.Common.{ℕ, None, refl, sym, subst}
use Rattle.calls.specs.declared.progress.Progress.TheVariants.{Ended, Next}
use Rattle.cluster.specs.Steps.{GoesOn}
use Rattle.cluster.specs.Worlds.{flow_at}
use Rattle.cluster.proofs.Slots.{at_some, keeps_none, on_over, puts}
use Rattle.cluster.proofs.turning.turn.Goals as goal

pub turn_flow-requires : goal.turn_flow-requires
turn_flow-requires g c = c.requires c.args.slot c.in_ok-flow.flow (sym c.in_ok-flow.ensures.value)

pub put_back-requires : goal.put_back-requires
put_back-requires g c =
    let mid = c.try_remove.new.self in
    record {
      of = c.in-Next.ensures.of;
      room = c.in_ok-flow.ensures.room;
      flows = keeps_none c.args.shards c.args.flows.now.slots mid.slots c.args.slot (puts c.args.flows.now mid c.args.slot None c.try_remove.ensures.updates) c.requires;
    }

pub returns-in-Next-clause-turns : goal.returns-in-Next-clause-turns
returns-in-Next-clause-turns g c =
    let old = c.args.flows.now in
    let mid = c.try_remove.new.self in
    let flow = c.in-Next.flow in
    let new = c.put_back.new.flows.slots in
    let left = subst (λ (s : ℕ). GoesOn mid.slots s flow c.put_back.result new) c.in_ok-flow.ensures.key_is_next c.put_back.ensures.goes_on in
    let leaves = on_over old.slots mid.slots new c.args.slot None flow c.put_back.result (puts old mid c.args.slot None c.try_remove.ensures.updates) left in
    at_some (flow_at old.slots c.args.slot) c.in_ok-flow.flow _ _ (sym c.in_ok-flow.ensures.value)
    (record { after = Next flow; turns = c.in-Next.ensures.turns; leaves = leaves })

pub returns-in-Ended-clause-turns : goal.returns-in-Ended-clause-turns
returns-in-Ended-clause-turns g c =
    let old = c.args.flows.now in
    let mid = c.try_remove.new.self in
    at_some (flow_at old.slots c.args.slot) c.in_ok-flow.flow _ _ (sym c.in_ok-flow.ensures.value)
    (record { after = Ended c.in-Ended.told; turns = c.in-Ended.ensures.turns; leaves = (puts old mid c.args.slot None c.try_remove.ensures.updates, refl) })

pub returns-in-Ended-clause-kept : goal.returns-in-Ended-clause-kept
returns-in-Ended-clause-kept g c = keeps_none c.args.shards c.args.flows.now.slots c.try_remove.new.self.slots c.args.slot (puts c.args.flows.now c.try_remove.new.self c.args.slot None c.try_remove.ensures.updates) c.requires

pub returns-in_err-flow-clause-kept : goal.returns-in_err-flow-clause-kept
returns-in_err-flow-clause-kept g c = keeps_none c.args.shards c.args.flows.now.slots c.try_remove.new.self.slots c.args.slot (puts c.args.flows.now c.try_remove.new.self c.args.slot None c.try_remove.ensures.updates) c.requires
