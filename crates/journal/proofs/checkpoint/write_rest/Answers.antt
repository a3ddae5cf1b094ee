use Rattle.std.proofs.Common.{List, sym, subst}
use Rattle.std.proofs.lemmas.Result.{on_ok_weaker}
use Rattle.records.specs.declared.record.Record.{Record}
use Rattle.journal.specs.Ahead.{IsWriting}
use Rattle.journal.proofs.Checkpoints.{lists_then}
use Rattle.journal.proofs.checkpoint.write_rest.Goals as goal

pub returns-in_err-put_next-clause-lists : goal.returns-in_err-put_next-clause-lists
returns-in_err-put_next-clause-lists g c = λ hon.
    lists_then g.D.Device.state g.D.Device.moment g.D.Device.left_since c.args.log.now.device c.put_all.new.log.device c.put_next.new.log.device
    (c.put_all.ensures.lists hon) (c.put_next.ensures.lists (c.put_all.ensures.honest.0 hon))

pub returns-clause-lists : goal.returns-clause-lists
returns-clause-lists g c = λ hon.
    let hon_one = c.put_all.ensures.honest.0 hon in
    lists_then g.D.Device.state g.D.Device.moment g.D.Device.left_since c.args.log.now.device c.put_next.new.log.device c.write_piece.new.log.device
    (lists_then g.D.Device.state g.D.Device.moment g.D.Device.left_since c.args.log.now.device c.put_all.new.log.device c.put_next.new.log.device
    (c.put_all.ensures.lists hon) (c.put_next.ensures.lists hon_one))
    (c.write_piece.ensures.lists (c.put_next.ensures.honest.0 hon_one))

pub returns-clause-ok : goal.returns-clause-ok
returns-clause-ok g c = λ all hon is.
    let hon_one = c.put_all.ensures.honest.0 hon in
    let hon_two = c.put_next.ensures.honest.0 hon_one in
    let listed = c.in_ok-put_all.ensures.ok all hon is in
    let ended = c.in_ok-put_next.ensures.ok _ hon_one listed in
    let new = c.write_piece.new.log in
    on_ok_weaker c.write_piece.result (λ w. subst (λ (l : List Record). IsWriting (g.D.Device.state new.device) new.end new.at l) (sym ended.all_is) w)
    (c.write_piece.ensures.ok ended.rs hon_two ended.writing)
