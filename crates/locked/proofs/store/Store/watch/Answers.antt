use Rattle.std.proofs.Common.{length, subst}
use Rattle.std.proofs.Math.Nat.{le_trans}
use Rattle.locked.proofs.Words.{IsWatchOf, prefix_length, WatchFlowValue, WatchHasReason}
use Rattle.answer_flow.specs.WatchViews.{ended, ending_of}
use Rattle.locked.proofs.WatchTurns.{watch_ends, watch_ends_of_less, watch_refuses}
use Rattle.locked.proofs.store.Store.watch.Goals as goal

pub returns-clause-lists : goal.returns-clause-lists
returns-clause-lists g c rests =
    let end = ending_of c.run_watch.result in
    let more = length c.has_passed.new.caller.pass.seen in
    let held = subst (λ (f : WatchFlowValue). IsWatchOf f.cursor f.limit f.namespaces more c.run_watch.new.caller.pass.seen (ended end)) c.new-flow.ensures (c.run_watch.ensures.held rests) in
    watch_ends_of_less c.args.cursor c.args.limit c.args.namespaces.items (length c.args.caller.now.pass.seen) more c.run_watch.new.caller.pass.seen end
    (prefix_length c.args.caller.now.pass.seen c.has_passed.new.caller.pass.seen c.has_passed.ensures.caller.seen) (watch_ends c.args.cursor c.args.limit c.args.namespaces.items more c.run_watch.new.caller.pass.seen end held)

pub returns-clause-refused : goal.returns-clause-refused
returns-clause-refused g c rests =
    let end = ending_of c.run_watch.result in
    let reason = subst (λ (f : WatchFlowValue). WatchHasReason c.run_watch.new.told f.cursor c.run_watch.new.caller.pass.seen c.run_watch.new.caller.pass.horizon (ended end)) c.new-flow.ensures (c.run_watch.ensures.reason rests) in
    watch_refuses c.args.cursor c.run_watch.new.caller.pass.seen c.run_watch.new.caller.pass.horizon c.run_watch.new.told end reason

pub returns-clause-kept : goal.returns-clause-kept
returns-clause-kept g c rests place changes is =
    le_trans (c.has_passed.ensures.kept c.if-has_passed.false) (returns-clause-lists g c rests place changes is).behind
