use Rattle.dumping.proofs.Looks.{looks_then}
use Rattle.dumping.proofs.taking.take_dump.Goals as goal

pub returns-in-Ok-clause-looks : goal.returns-in-Ok-clause-looks
returns-in-Ok-clause-looks g c = looks_then g.S.Store.takes c.args.store.now c.find_place.new.store c.find_all.new.store c.find_place.ensures.looks c.find_all.ensures.looks

pub returns-clause-looks : goal.returns-clause-looks
returns-clause-looks g c = looks_then g.S.Store.takes c.args.store.now c.find_place.new.store c.find_all.new.store c.find_place.ensures.looks c.find_all.ensures.looks
