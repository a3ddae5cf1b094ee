use Rattle.line_io.specs.Blocks.{unread}
use Rattle.line_io.proofs.Feeds.{feed_is_there}
use Rattle.line_io.proofs.held.Block.has_line.Goals as goal

pub returns-in-Some : goal.returns-in-Some
returns-in-Some c = λ yes none. feed_is_there c.unread.result.now (unread c.args.self.now) c.in-Some.field-0 c.unread.ensures c.in-Some.ensures.0 c.in-Some.ensures.1 none
