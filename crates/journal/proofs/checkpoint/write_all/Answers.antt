use Rattle.std.proofs.Common.{[]}
use Rattle.journal.proofs.Checkpoints.{lists_then, none_put}
use Rattle.journal.proofs.checkpoint.write_all.Goals as goal

pub returns-clause-ok : goal.returns-clause-ok
returns-clause-ok g c = λ hon.
    let log = c.args.log.now in
    let begun = c.in_ok-put_next.ensures.ok [] hon (none_put (g.D.Device.state log.device) log.end log.at c.args.piece.now c.requires.empty (c.requires.none hon)) in
    c.write_rest.ensures.ok _ (c.put_next.ensures.honest.0 hon) begun

pub returns-clause-lists : goal.returns-clause-lists
returns-clause-lists g c = λ hon.
    lists_then g.D.Device.state g.D.Device.moment g.D.Device.left_since c.args.log.now.device c.put_next.new.log.device c.write_rest.new.log.device
    (c.put_next.ensures.lists hon) (c.write_rest.ensures.lists (c.put_next.ensures.honest.0 hon))
