use Rattle.client.proofs.Cuts.{cut_at_last}
use Rattle.client.proofs.condition.split_last.Goals as goal

pub returns : goal.returns
returns c = cut_at_last c.args.mark c.args.word.now c.rsplit_once.result c.rsplit_once.ensures.cases c.requires
