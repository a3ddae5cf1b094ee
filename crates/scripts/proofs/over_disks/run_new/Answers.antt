use Rattle.std.proofs.Common.{subst}
use Rattle.std.proofs.lemmas.Result.{on_ok_weaker, on_err_weaker}
use Rattle.scripts.specs.Runs.{Broke, Ran}
use Rattle.scripts.specs.Scripts.{ScriptView}
use Rattle.scripts.specs.Sims.{begun}
use Rattle.scripts.proofs.over_disks.run_new.Goals as goal

pub returns-clause-ok : goal.returns-clause-ok
returns-clause-ok g c =
    let RanFrom : ScriptView g.row.S.Denot → Type 0 = λ a. Ran g.S.Store.takes g.S.Store.nexts g.S.Store.shows g.S.Store.sets g.S.Store.reshards g.S.Store.shards_of (g.R.Read.remaining c.args.reader.now) (g.R.Read.remaining c.run.new.input)
    (g.W.Write.contents c.args.writer.now) (g.W.Write.contents c.run.new.output) a c.run.new.script in
    on_ok_weaker c.run.result (λ h. (c.run.new.script, subst RanFrom {x = c.new-script.result} {y = begun c.args.id c.args.store} c.new-script.ensures h)) c.run.ensures.ok

pub returns-clause-err : goal.returns-clause-err
returns-clause-err g c =
    let BrokeFrom : ScriptView g.row.S.Denot → Type 0 = λ a. Broke g.S.Store.takes g.S.Store.nexts g.S.Store.shows g.S.Store.sets g.S.Store.reshards g.S.Store.shards_of (g.R.Read.remaining c.args.reader.now) (g.R.Read.remaining c.run.new.input)
    (g.W.Write.contents c.args.writer.now) (g.W.Write.contents c.run.new.output) a c.run.new.script in
    on_err_weaker c.run.result (λ h. (c.run.new.script, subst BrokeFrom {x = c.new-script.result} {y = begun c.args.id c.args.store} c.new-script.ensures h)) c.run.ensures.err
