use Rattle.std.proofs.Common.{◌≡◌, ◌+◌, ◌++◌, ◌∷◌, [], List, ℕ, Some, false, length, ap, subst, ◌∙◌, arith}
use Rattle.std.specs.Result.{OnOk}
use Rattle.records.specs.declared.record.Record.{Record}
use Rattle.records.specs.Format.{batch_bytes}
use Rattle.records.specs.Reading.{batch}
use Rattle.device.specs.Device.{LeavesOnly}
use Rattle.gated.specs.Gated.{HasList, IsOldOrNew, body_of}
use Rattle.journal.specs.Records.{batch_size}
use Rattle.journal.proofs.Staged.{none_staged, read_back, length_is}
use Rattle.journal.proofs.batch.Batch.append_to.Goals as goal
use Rattle.journal.proofs.Failures.{by_error}

pub returns-clause-empty : goal.returns-clause-empty
returns-clause-empty g c = none_staged _

pub returns-clause-read : goal.returns-clause-read
returns-clause-read g c =
    subst (λ (v : List Record). batch (batch_bytes false v) ≡ Some v) c.self.view_is (read_back _ _ _ c.self.invariant (omega (arith, c.requires.some, ap length c.self.view_is)))

pub returns-clause-any_moment : goal.returns-clause-any_moment
returns-clause-any_moment g c = λ bodies hon has.
    let body : body_of c.deref_mut.result.now ≡ batch_bytes false c.args.self.now = ap body_of c.deref_mut.ensures.value ∙ c.complete.ensures.body ∙ ap (batch_bytes false) c.self.view_is in
    subst (λ (l : List ℕ). LeavesOnly g.D.Device.moment g.D.Device.left_since c.args.log.now.device c.append-result.new.self.device (IsOldOrNew bodies l)) body (c.append-result.ensures.any_moment bodies hon has)

pub returns-clause-ok : goal.returns-clause-ok
returns-clause-ok g c = λ bodies hon has.
    let body : body_of c.deref_mut.result.now ≡ batch_bytes false c.args.self.now = ap body_of c.deref_mut.ensures.value ∙ c.complete.ensures.body ∙ ap (batch_bytes false) c.self.view_is in
    subst (λ (l : List ℕ). OnOk c.append-result.result (HasList (g.D.Device.state c.append-result.new.self.device) (bodies ++ l ∷ []))) body (c.append-result.ensures.ok bodies hon has)

pub returns-clause-cause : goal.returns-clause-cause
returns-clause-cause g c =
    let size : length c.deref_mut.result.now ≡ batch_size c.args.self.now + 5 =
    omega (arith, ap length c.deref_mut.ensures.value, c.complete.ensures.len, length_is _ _ _ c.self.invariant, ap batch_size c.self.view_is) in
    by_error c.append-result.result c.append-result.ensures.err (λ is. (c.append-result.ensures.failed is).cause) (λ is.
    let full = c.append-result.ensures.full is in
    record { past = omega (arith, full.1, size); sized = omega (arith, length_is _ _ _ c.self.invariant, ap batch_size c.self.view_is, c.self.invariant.fits); within = λ hon. full.2 hon (c.requires.up hon) })
