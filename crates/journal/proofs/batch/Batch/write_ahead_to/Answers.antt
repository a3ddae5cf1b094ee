use Rattle.std.proofs.Common.{◌≡◌, ◌+◌, ◌++◌, ◌∷◌, [], List, ℕ, Some, false, length, ap, sym, subst, ◌∙◌, arith}
use Rattle.std.specs.Result.{OnOk}
use Rattle.records.specs.declared.record.Record.{Record}
use Rattle.records.specs.Format.{batch_bytes}
use Rattle.records.specs.Reading.{batch}
use Rattle.gated.specs.Gated.{IsAhead, LogView, body_of}
use Rattle.journal.specs.Records.{LacksRoom, batch_size}
use Rattle.journal.proofs.Staged.{none_staged, read_back, length_is}
use Rattle.journal.proofs.batch.Batch.write_ahead_to.Goals as goal
use Rattle.journal.proofs.Failures.{by_error}

pub returns-clause-empty : goal.returns-clause-empty
returns-clause-empty g c = none_staged _

pub returns-clause-read : goal.returns-clause-read
returns-clause-read g c =
    subst (λ (v : List Record). batch (batch_bytes false v) ≡ Some v) c.self.view_is (read_back _ _ _ c.self.invariant (omega (arith, c.requires.some, ap length c.self.view_is)))

pub returns-clause-ok : goal.returns-clause-ok
returns-clause-ok g c = λ ahead hon has.
    let body : body_of c.deref_mut.result.now ≡ batch_bytes false c.args.self.now = ap body_of c.deref_mut.ensures.value ∙ c.complete.ensures.body ∙ ap (batch_bytes false) c.self.view_is in
    let log = c.write_ahead-result.new.self in
    subst (λ (l : List ℕ). OnOk c.write_ahead-result.result (IsAhead (g.D.Device.state log.device) log.end log.at (ahead ++ l ∷ []))) body (c.write_ahead-result.ensures.ok ahead hon has)

pub returns-clause-cause : goal.returns-clause-cause
returns-clause-cause g c =
    let size : length c.deref_mut.result.now ≡ batch_size c.args.self.now + 5 =
    omega (arith, ap length c.deref_mut.ensures.value, c.complete.ensures.len, length_is _ _ _ c.self.invariant, ap batch_size c.self.view_is) in
    let new = c.write_ahead-result.new.self in
    let old = c.args.log.now in
    by_error c.write_ahead-result.result c.write_ahead-result.ensures.err (λ is. (c.write_ahead-result.ensures.failed is).cause) (λ is.
    let full = c.write_ahead-result.ensures.full is in
    let P : LogView g.row.D.Denot → Type 0 = λ v. LacksRoom g.D.Device.state g.D.Device.honest v.device v.at c.args.self.now in
    subst P (sym full.0) (record { past = omega (arith, full.1, size); sized = omega (arith, length_is _ _ _ c.self.invariant, ap batch_size c.self.view_is, c.self.invariant.fits); within = λ hon. full.2 hon (c.requires.up hon) }))
