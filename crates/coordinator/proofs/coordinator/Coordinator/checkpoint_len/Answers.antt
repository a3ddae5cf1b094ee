use Rattle.std.proofs.Common.{◌≡◌, ◌+◌, ◌-◌, ◌^◌, ◌++◌, ◌∙◌, ℕ, List, [], ap, min}
use Rattle.std.proofs.lemmas.Result.{IfOk-weaker}
use Rattle.journal.specs.Measures.{bytes_of}
use Rattle.records.specs.declared.record.Record.{Record}
use Rattle.decisions.specs.Checkpoints.{next_checkpoint}
use Rattle.coordinator.specs.Checkpoints.{HasLen, told_from}
use Rattle.coordinator.specs.Keeping.{newest_first}
use Rattle.coordinator.proofs.Checkpointed.{point_len}
use Rattle.coordinator.proofs.coordinator.Coordinator.checkpoint_len.Goals as goal

pub returns : goal.returns
returns g c = λ run.
    let s = c.self.inside in
    let h = c.risen-horizon.result in
    let told = c.new-known.ensures ∙ ap (λ (rs : List Record). rs ++ told_from (h + 1) s.ledger) c.heads-heads.ensures.value in
    let has = point_len g.D.Device.state g.D.Device.honest s.journal s.journal s.me s.ledger s.ledger s.epoch s.kept s.horizon s.kept s.rising s.open_numbers.items s.given
    c.self.invariant h c.risen-horizon.ensures (newest_first s.epoch s.open_numbers.items []) c.args.self.now c.self.view_is run in
    IfOk-weaker c.len_of.result (λ (n : ℕ). n ≡ min (2 ^ 64 - 1) (bytes_of c.new-known.result)) (HasLen (next_checkpoint c.args.self.now))
    (λ n is. has n (is ∙ ap (λ (rs : List Record). min (2 ^ 64 - 1) (bytes_of rs)) told)) c.len_of.ensures
