use Rattle.std.proofs.Common.{arith}
use Rattle.line_io.proofs.Feeds.{part_at_feed, part_of_all}
use Rattle.line_io.proofs.held.Block.take_part.Goals as goal

pub returns-in-Some : goal.returns-in-Some
returns-in-Some c = λ front held.
    let block = c.args.self.now in
    part_at_feed block.bytes.items block.taken block.filled c.unread.result.now c.unread-in-Some.result.now c.in-Some.count front c.add.new.self c.unread.ensures c.unread-in-Some.ensures block.inside
    (omega (arith, block.within, block.bytes.ok.0)) c.in-Some.ensures.0 c.in-Some.ensures.1 (c.add.ensures front held)

pub returns-in-None : goal.returns-in-None
returns-in-None c = λ front held.
    let block = c.args.self.now in
    part_of_all block.bytes.items block.taken block.filled c.unread.result.now c.unread-in-None.result.now front c.add-in-None.new.self c.unread.ensures c.unread-in-None.ensures c.in-None.ensures
    (c.add-in-None.ensures front held)
