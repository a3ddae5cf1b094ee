use Rattle.std.proofs.Common.{rules}
use Rattle.client.proofs.ask.with_feed.Goals as goal

pub returns : goal.returns
returns c = search rules
