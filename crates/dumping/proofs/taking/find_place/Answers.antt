use Rattle.dumping.proofs.Looks.{looks_then}
use Rattle.dumping.proofs.taking.find_place.Goals as goal

pub returns-in_err-_same-clause-looks : goal.returns-in_err-_same-clause-looks
returns-in_err-_same-clause-looks g c = looks_then g.S.Store.takes c.args.store.now c.place_of.new.store c.place_of-2.new.store c.place_of.ensures.looks c.place_of-2.ensures.looks

pub returns-clause-looks : goal.returns-clause-looks
returns-clause-looks g c = looks_then g.S.Store.takes c.args.store.now c.place_of.new.store c.place_of-2.new.store c.place_of.ensures.looks c.place_of-2.ensures.looks
