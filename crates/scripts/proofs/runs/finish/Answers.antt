use Rattle.scripts.proofs.Answering.{ends, ends_part, has_bytes}
use Rattle.scripts.proofs.runs.finish.Goals as goal
use Rattle.std.proofs.lemmas.Result.{on_ok_weaker, on_err_weaker}

pub returns-clause-ok : goal.returns-clause-ok
returns-clause-ok g c = on_ok_weaker c.tell.result
    (λ h. λ last held.
    ends g.S.Store.takes g.S.Store.nexts g.S.Store.shows g.S.Store.sets g.S.Store.reshards g.S.Store.shards_of last c.args.script.now c.tell.new.script (g.W.Write.contents c.args.output.now) (g.W.Write.contents c.tell.new.output)
    (has_bytes c.is_empty.result last (c.is_empty.ensures last held).1 c.if-is_empty.false) (h last held))
    c.tell.ensures.ok

pub returns-clause-err : goal.returns-clause-err
returns-clause-err g c = on_err_weaker c.tell.result
    (λ h. λ last held.
    ends_part g.S.Store.takes g.S.Store.nexts g.S.Store.shows g.S.Store.sets g.S.Store.reshards g.S.Store.shards_of last c.args.script.now c.tell.new.script (g.W.Write.contents c.args.output.now) (g.W.Write.contents c.tell.new.output)
    (has_bytes c.is_empty.result last (c.is_empty.ensures last held).1 c.if-is_empty.false) (h last held))
    c.tell.ensures.err
