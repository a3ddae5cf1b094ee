use Rattle.std.proofs.Common.{ℕ, List, IfErr, subst}
use Rattle.script_text.specs.Causes.{Cause}
use Rattle.scripts.specs.Scripts.{RunningView}
use Rattle.scripts.proofs.running.Running.parse.Goals as goal

pub returns-clause-err : goal.returns-clause-err
returns-clause-err g c =
    let Of : ℕ → List (List ℕ) → Type 0 = λ shards names. IfErr c.parse.result (Cause c.args.id shards names c.args.line.now) in
    let OfRunning : RunningView g.row.S.Denot → Type 0 = λ r. Of (g.S.Store.shards_of r.store) r.names in
    subst OfRunning c.self.view_is (subst (λ (shards : ℕ). Of shards c.self.inside.names.items) c.shards.ensures (subst (Of c.shards.result) c.deref.ensures.value c.parse.ensures.err))
