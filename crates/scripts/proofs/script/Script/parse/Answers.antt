use Rattle.std.proofs.Common.{IfErr, subst}
use Rattle.script_text.specs.Causes.{Cause}
use Rattle.scripts.specs.Scripts.{ScriptView}
use Rattle.scripts.proofs.script.Script.parse.Goals as goal

pub returns-clause-err : goal.returns-clause-err
returns-clause-err g c =
    let Of : ScriptView g.row.S.Denot → Type 0 = λ s. IfErr c.parse.result (Cause s.id (g.S.Store.shards_of s.running.store) s.running.names c.args.line.now) in
    subst Of c.self.view_is c.parse.ensures.err
