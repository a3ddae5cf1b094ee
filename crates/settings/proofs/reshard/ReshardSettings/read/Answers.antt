use Rattle.std.proofs.Common.{map, string_bytes}
use Rattle.settings.proofs.Commands.{reshard_asked}
use Rattle.settings.proofs.reshard.ReshardSettings.read.Goals as goal

pub returns-clause-asked : goal.returns-clause-asked
returns-clause-asked g c = reshard_asked c.read.result (map string_bytes c.args.words.now) c.read.ensures.asked
