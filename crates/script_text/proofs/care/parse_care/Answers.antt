use Rattle.script_text.specs.Words.{texts}
use Rattle.script_text.proofs.Firsts.{no_care}
use Rattle.script_text.proofs.care.parse_care.Goals as goal

pub returns-in_err-shard : goal.returns-in_err-shard
returns-in_err-shard c = rw c.from_residual-in_err-shard.ensures
    (no_care c.args.shards (texts c.args.words.now) c.in_default.ensures c.in_default-one_behind.ensures c.in_default-one_behind-2.ensures c.in_default-one_behind-3.ensures c.in_default-one_behind-4.ensures c.in_err-shard.ensures)
