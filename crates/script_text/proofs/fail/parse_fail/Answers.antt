use Rattle.script_text.specs.Words.{texts}
use Rattle.script_text.proofs.Firsts.{no_bank}
use Rattle.script_text.proofs.fail.parse_fail.Goals as goal

pub returns-in_default-parse_bank : goal.returns-in_default-parse_bank
returns-in_default-parse_bank c = no_bank c.args.shards (texts c.args.words.now) c.in-Some.bank.now c.in-Some.number.now c.in-Some.tear.now c.in-Some.ensures c.in_default-parse_bank.ensures
