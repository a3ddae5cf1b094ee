use Rattle.names.proofs.Calls.{found}
use Rattle.names.proofs.call_name.CallName.parse.Goals as goal

pub returns : goal.returns
returns c = found c.args.text.now c.find.result c.find.ensures
