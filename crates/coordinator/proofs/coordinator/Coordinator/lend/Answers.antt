use Rattle.std.proofs.Common.{◌-◌, ◌∙◌, ap, List, length}
use Rattle.records.specs.declared.record.Record.{Record}
use Rattle.decisions.specs.Coordinators.{CoordinatorView}
use Rattle.coordinator.specs.Staged.{decided, last_horizon}
use Rattle.coordinator.proofs.Landed.{all_told, kept_lent}
use Rattle.coordinator.proofs.coordinator.Coordinator.lend.Goals as goal

pub invariant_of-lent : goal.invariant_of-lent
invariant_of-lent g c =
    let s = c.self.inside in
    kept_lent g.D.Device.state g.D.Device.honest s.journal _ s.ledger s.epoch s.kept s.horizon s.rising s.open_numbers.items s.given c.lend-without.ensures.stays c.self.invariant

pub returns-clause-told : goal.returns-clause-told
returns-clause-told g c = λ up.
    let s = c.self.inside in
    let view = c.self.view_is in
    let told = all_told g.D.Device.state g.D.Device.honest s.journal s.ledger s.epoch s.kept s.horizon s.rising s.open_numbers.items s.given c.self.invariant (ap (λ (v : CoordinatorView g.row.D.Denot). v.is_down) view ∙ up) in
    let staged = ap (λ (v : CoordinatorView g.row.D.Denot). v.staged) view in
    record {
      decisions = ap (λ n. n - s.kept) c.end.ensures.value ∙ told.0 ∙ ap (λ (rs : List Record). length (decided rs)) staged;
      rising = told.1 ∙ ap (last_horizon _) staged;
    }
