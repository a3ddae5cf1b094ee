use Rattle.std.proofs.lemmas.Str.Pattern.{strip_prefix_char}
use Rattle.client.proofs.condition.marked.Goals as goal

pub returns : goal.returns
returns c = strip_prefix_char c.args.mark c.args.word.now c.strip_prefix.result c.strip_prefix.ensures.cases c.requires
