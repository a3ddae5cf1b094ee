use Rattle.std.proofs.Common.{◌∙◌, ap, List, [], subst}
use Rattle.std.proofs.lemmas.Result.{on_ok_weaker}
use Rattle.device.specs.Device.{LeavesOnly}
use Rattle.journal.specs.Beginnings.{HasBeginsOr}
use Rattle.journal.specs.Records.{HasRecords}
use Rattle.records.specs.declared.record.Record.{Record}
use Rattle.decisions.specs.Checkpoints.{coordinator_of}
use Rattle.coordinator.specs.Keeping.{newest_first}
use Rattle.coordinator.proofs.Checkpointed.{carried_told}
use Rattle.coordinator.proofs.coordinator.Coordinator.carry.Goals as goal

pub returns-clause-ok : goal.returns-clause-ok
returns-clause-ok g c = λ run hon_a hon_b.
    let s = c.self.inside in
    let begun = c.write.new.begun in
    on_ok_weaker c.write.result
    (λ has. subst (HasRecords (g.D.Device.state begun.a) (g.D.Device.state begun.b))
    (carried_told g.D.Device.state g.D.Device.honest s.journal s.me c.coordinator-me.result s.ledger s.epoch s.kept s.horizon s.rising s.open_numbers.items s.given c.self.invariant c.risen-horizon.result c.risen-horizon.ensures (newest_first s.epoch s.open_numbers.items []) c.args.shards
    (c.coordinator-me.ensures ∙ ap (λ n. coordinator_of n c.args.shards) c.store.ensures) c.args.self.now c.self.view_is run) has)
    (c.write.ensures.ok hon_a hon_b)

pub returns-clause-moments : goal.returns-clause-moments
returns-clause-moments g c = λ run is_open hon.
    let s = c.self.inside in
    subst (λ (rs : List Record). LeavesOnly g.D.Device.moment g.D.Device.left_since c.args.begun.now.a c.write.new.begun.a (HasBeginsOr rs))
    (carried_told g.D.Device.state g.D.Device.honest s.journal s.me c.coordinator-me.result s.ledger s.epoch s.kept s.horizon s.rising s.open_numbers.items s.given c.self.invariant c.risen-horizon.result c.risen-horizon.ensures (newest_first s.epoch s.open_numbers.items []) c.args.shards
    (c.coordinator-me.ensures ∙ ap (λ n. coordinator_of n c.args.shards) c.store.ensures) c.args.self.now c.self.view_is run)
    (c.write.ensures.moments is_open hon)
