use Rattle.std.proofs.Common.{map, string_bytes}
use Rattle.settings.proofs.Commands.{dump_asked}
use Rattle.settings.proofs.dump.DumpSettings.read.Goals as goal

pub returns-clause-asked : goal.returns-clause-asked
returns-clause-asked g c = dump_asked c.read.result (map string_bytes c.args.words.now) c.read.ensures.asked
