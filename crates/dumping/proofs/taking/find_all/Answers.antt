use Rattle.dumping.proofs.Looks.{looks_then}
use Rattle.dumping.proofs.taking.find_all.Goals as goal

pub returns-in_err-_still-clause-looks : goal.returns-in_err-_still-clause-looks
returns-in_err-_still-clause-looks g c = looks_then g.S.Store.takes c.args.store.now c.gather.new.store c.place_of.new.store c.gather.ensures.looks c.place_of.ensures.looks

pub returns-clause-looks : goal.returns-clause-looks
returns-clause-looks g c =
    looks_then g.S.Store.takes c.args.store.now c.place_of.new.store c.read_all.new.store
    (looks_then g.S.Store.takes c.args.store.now c.gather.new.store c.place_of.new.store c.gather.ensures.looks c.place_of.ensures.looks) c.read_all.ensures.looks
