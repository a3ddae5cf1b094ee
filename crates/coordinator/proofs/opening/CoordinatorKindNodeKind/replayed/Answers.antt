use Rattle.journal.specs.Unread.{IsRead}
use Rattle.coordinator.proofs.Openings.{nothing_read, one_replayed}
use Rattle.coordinator.proofs.opening.CoordinatorKindNodeKind.replayed.Goals as goal

pub loop-so_far-init : goal.loop-so_far-init
loop-so_far-init c = nothing_read c.args.me c.args.unread c.new-so_far.result c.new-so_far.ensures

pub loop-so_far-preserved : goal.loop-so_far-preserved
loop-so_far-preserved c =
    let read : IsRead c.loop-so_far.unread c.in-Some.record c.next.new.self = rw c.in-Some.is at c.in_ok-record.ensures.ok in
    one_replayed c.args.me c.args.unread.records c.loop-so_far.unread c.loop-so_far.so_far c.loop-so_far.invariant c.in-Some.record c.next.new.self read c.in_ok-so_far.so_far c.in_ok-so_far.ensures.ok.0 c.in_ok-so_far.ensures.ok.1
