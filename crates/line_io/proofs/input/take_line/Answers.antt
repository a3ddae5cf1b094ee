use Rattle.std.proofs.Common.{◌≡◌, Bool, false, subst, rules}
use Rattle.line_io.specs.Blocks.{TakesPart, unread}
use Rattle.line_io.proofs.Gathering.{part_more, refilled, taken_at_end, taken_at_feed}
use Rattle.line_io.proofs.input.take_line.Goals as goal

pub returns-then-not-branch-clause-ok : goal.returns-then-not-branch-clause-ok
returns-then-not-branch-clause-ok g c =
    let before = g.R.Read.remaining c.args.input.now in
    let now = g.R.Read.remaining c.refill.new.input in
    let first = unread c.args.block.now in
    let filled = c.in_ok-refill.ensures.ok in
    let gathered = refilled before (g.R.Read.remaining c.loop.input) now first (unread c.loop.block) c.loop.line c.in_ok-refill.field-0 (unread c.refill.new.self) c.loop.invariant filled in
    let none : c.in_ok-refill.field-0 ≡ false = first_of (cc, search rules) in
    taken_at_end before now now first (unread c.refill.new.self) c.loop.line gathered (filled.at_end none).0 (filled.at_end none).1

pub returns-then-take_part-clause-ok : goal.returns-then-take_part-clause-ok
returns-then-take_part-clause-ok g c =
    let before = g.R.Read.remaining c.args.input.now in
    let now = g.R.Read.remaining c.refill.new.input in
    let first = unread c.args.block.now in
    let gathered = refilled before (g.R.Read.remaining c.loop.input) now first (unread c.loop.block) c.loop.line c.in_ok-refill.field-0 (unread c.refill.new.self) c.loop.invariant c.in_ok-refill.ensures.ok in
    taken_at_feed before now now first (unread c.refill.new.self) c.loop.line (unread c.take_part.new.self) c.take_part.new.line gathered
    (subst (λ (is : Bool). TakesPart is (unread c.refill.new.self) (unread c.take_part.new.self) gathered.front c.take_part.new.line) c.if-take_part.true (c.take_part.ensures gathered.front gathered.held))

pub loop-preserved : goal.loop-preserved
loop-preserved g c =
    let before = g.R.Read.remaining c.args.input.now in
    let now = g.R.Read.remaining c.refill.new.input in
    let first = unread c.args.block.now in
    let gathered = refilled before (g.R.Read.remaining c.loop.input) now first (unread c.loop.block) c.loop.line c.in_ok-refill.field-0 (unread c.refill.new.self) c.loop.invariant c.in_ok-refill.ensures.ok in
    part_more before now now first (unread c.refill.new.self) c.loop.line (unread c.take_part.new.self) c.take_part.new.line gathered
    (subst (λ (is : Bool). TakesPart is (unread c.refill.new.self) (unread c.take_part.new.self) gathered.front c.take_part.new.line) c.if-take_part.false (c.take_part.ensures gathered.front gathered.held))
