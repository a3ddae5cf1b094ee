use Rattle.dumping.proofs.Looks.{looks_not, looks_once, looks_then}
use Rattle.dumping.proofs.playing.play.Goals as goal

pub returns-in-Ok-Some-Began-clause-looks : goal.returns-in-Ok-Some-Began-clause-looks
returns-in-Ok-Some-Began-clause-looks g c =
    looks_then g.S.Store.takes c.args.store.now c.take.new.self c.run_out.new.store
    (looks_once g.S.Store.takes c.args.first c.in-Ok-Some-Began.field-0 c.args.store.now c.take.new.self c.requires.looking c.in-Ok-Some-Began.ensures.ok) c.run_out.ensures.looks

pub returns-in-Ok-clause-looks : goal.returns-in-Ok-clause-looks
returns-in-Ok-clause-looks g c = looks_once g.S.Store.takes c.args.first c.in-Ok.told c.args.store.now c.take.new.self c.requires.looking c.in-Ok.ensures.ok

pub returns-in-Err-clause-looks : goal.returns-in-Err-clause-looks
returns-in-Err-clause-looks g c = looks_not g.S.Store.takes c.args.store.now c.take.new.self c.in-Err.ensures.err
