use Rattle.script_text.specs.Words.{texts}
use Rattle.script_text.proofs.Firsts.{no_order}
use Rattle.script_text.proofs.command.parse_order.Goals as goal

pub returns-in_default-parse_reshard : goal.returns-in_default-parse_reshard
returns-in_default-parse_reshard c store =
    no_order store c.args.shards c.args.running.now (texts c.args.words.now) c.in_default.ensures c.in_default-parse_care.ensures c.in_default-parse_rows.ensures c.in_default-parse_restart.ensures c.in_default-parse_fail.ensures c.in_default-parse_reshard.ensures
