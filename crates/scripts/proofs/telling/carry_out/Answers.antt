use Rattle.scripts.proofs.Answering.{tells, tells_part}
use Rattle.scripts.proofs.telling.carry_out.Goals as goal
use Rattle.std.proofs.lemmas.Result.{on_ok_weaker, on_err_weaker}

pub returns-in-Ok-clause-ok : goal.returns-in-Ok-clause-ok
returns-in-Ok-clause-ok g c = on_ok_weaker c.write_all.result
    (tells g.S.Store.takes g.S.Store.nexts g.S.Store.shows g.S.Store.sets g.S.Store.reshards g.S.Store.shards_of c.args.line.now c.args.script.now c.line.new.self (g.W.Write.contents c.args.output.now) (g.W.Write.contents c.write_all.new.output)
    c.clear.new.self.items c.line.new.out.items c.deref.result.now c.clear.ensures.items c.in-Ok.ensures.ok c.deref.ensures.value)
    c.write_all.ensures.ok

pub returns-in-Ok-clause-err : goal.returns-in-Ok-clause-err
returns-in-Ok-clause-err g c = on_err_weaker c.write_all.result
    (tells_part g.S.Store.takes g.S.Store.nexts g.S.Store.shows g.S.Store.sets g.S.Store.reshards g.S.Store.shards_of c.args.line.now c.args.script.now c.line.new.self (g.W.Write.contents c.args.output.now) (g.W.Write.contents c.write_all.new.output)
    c.clear.new.self.items c.line.new.out.items c.deref.result.now c.clear.ensures.items c.in-Ok.ensures.ok c.deref.ensures.value)
    c.write_all.ensures.err
