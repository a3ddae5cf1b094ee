use Rattle.script_text.proofs.Names.{finds}
use Rattle.script_text.proofs.name.find.Goals as goal

pub returns : goal.returns
returns c = finds c.args.name.now c.args.running.now c.position_of.result c.position_of.ensures
