use Rattle.cluster.specs.declared.step.Step.TheVariants.{Turn}
use Rattle.dumping.proofs.Looks.{looks_not, looks_once}
use Rattle.dumping.proofs.playing.turn.Goals as goal

pub returns-in-Ok-clause-looks : goal.returns-in-Ok-clause-looks
returns-in-Ok-clause-looks g c = looks_once g.S.Store.takes (Turn c.args.slot) c.in-Ok.told c.args.store.now c.take.new.self tt c.in-Ok.ensures.ok

pub returns-in-Err-clause-looks : goal.returns-in-Err-clause-looks
returns-in-Err-clause-looks g c = looks_not g.S.Store.takes c.args.store.now c.take.new.self c.in-Err.ensures.err
