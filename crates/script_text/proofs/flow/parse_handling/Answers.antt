use Rattle.script_text.specs.Words.{texts}
use Rattle.script_text.proofs.Firsts.{no_handling}
use Rattle.script_text.proofs.flow.parse_handling.Goals as goal

pub returns-in_default-parse_until : goal.returns-in_default-parse_until
returns-in_default-parse_until c =
    no_handling c.args.running.now (texts c.args.words.now) c.in_default.ensures c.in_default-one_behind.ensures c.in_default-one_behind-2.ensures c.in_default-parse_until.ensures
