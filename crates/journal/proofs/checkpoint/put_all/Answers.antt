use Rattle.journal.specs.Sources.{record_of}
use Rattle.journal.proofs.Checkpoints.{lists_then, one_put}
use Rattle.journal.proofs.checkpoint.put_all.Goals as goal

pub loop-next-preserved : goal.loop-next-preserved
loop-next-preserved g c =
    let got = rw c.in-Some.is at c.next.ensures in
    one_put g.D.Device.state g.D.Device.honest g.D.Device.moment g.D.Device.left_since c.args.log.now c.loop-next.log c.put.new.log c.args.piece.now c.loop-next.piece c.put.new.piece
    (g.S.Source.records c.args.source.now) (g.S.Source.records c.loop-next.source) (g.S.Source.records c.next.new.self) (record_of c.in-Some.next) c.loop-next.invariant got.0
    c.put.ensures.honest c.put.ensures.lists c.in_ok-put.ensures.up c.in_ok-put.ensures.ok c.put.ensures.end c.put.ensures.counts c.in_ok-put.ensures.none

pub returns-in_err-put-clause-lists : goal.returns-in_err-put-clause-lists
returns-in_err-put-clause-lists g c = λ hon.
    lists_then g.D.Device.state g.D.Device.moment g.D.Device.left_since c.args.log.now.device c.loop-next.log.device c.put.new.log.device
    (c.loop-next.invariant.lists hon) (c.put.ensures.lists (c.loop-next.invariant.still_honest.0 hon))
