use Rattle.std.proofs.Common.{refl}
use Rattle.dumping.proofs.Looks.{looks_not}
use Rattle.dumping.proofs.reading.place_of.Goals as goal

pub returns-in_err-set-clause-looks : goal.returns-in_err-set-clause-looks
returns-in_err-set-clause-looks g c = looks_not g.S.Store.takes c.args.store.now c.args.store.now refl
