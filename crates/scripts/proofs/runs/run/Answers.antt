use Rattle.std.proofs.Common.{[]}
use Rattle.scripts.proofs.RunLemmas.{broke_first}
use Rattle.scripts.proofs.runs.run.Goals as goal
use Rattle.tuples.proofs.Options.{on_err}

pub returns-in_err-room-clause-err : goal.returns-in_err-room-clause-err
returns-in_err-room-clause-err g c =
    let in0 = g.R.Read.remaining c.args.input.now in
    let out0 = g.W.Write.contents c.args.output.now in
    on_err c.from_residual.result (broke_first g.S.Store.takes g.S.Store.nexts g.S.Store.shows g.S.Store.sets g.S.Store.reshards g.S.Store.shards_of in0 in0 out0 out0 c.args.script.now c.args.script.now [])
