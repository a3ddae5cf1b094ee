use Rattle.std.proofs.Common.{List, length, subst}
use Rattle.std.proofs.Math.Nat.{le_trans}
use Rattle.tuples.specs.declared.tupleset.Tupleset.{Tupleset}
use Rattle.answer_flow.specs.ReadViews.{ending_of}
use Rattle.locked.specs.Answering.{ReadEnds}
use Rattle.locked.proofs.Words.{prefix_length}
use Rattle.locked.proofs.FreshPlaces.{fresh_is_kept}
use Rattle.locked.proofs.Passes.{later_on}
use Rattle.locked.proofs.ReadTurns.{passed_refuses_read, read_ends_of_less, read_refuses_of_less}
use Rattle.locked.proofs.store.Store.read.Goals as goal

pub returns-then-has_passed-clause-refused : goal.returns-then-has_passed-clause-refused
returns-then-has_passed-clause-refused g c rests =
    passed_refuses_read c.args.told.now c.has_passed.new.caller.pass.seen c.has_passed.new.caller.pass.horizon c.args.freshness (length c.args.caller.now.pass.seen) (c.has_passed.ensures.passed c.if-has_passed.true)

pub returns-then-not-begins_again-clause-answer : goal.returns-then-not-begins_again-clause-answer
returns-then-not-begins_again-clause-answer g c rests =
    let later = later_on c.args.caller.now.pass c.has_passed.new.caller.pass c.loop.caller.pass c.has_passed.ensures.caller c.loop.invariant.later in
    let seen = c.try_read-done.new.caller.pass.seen in
    let more = length c.loop.caller.pass.seen in
    let end = ending_of c.try_read-done.result.end in
    read_ends_of_less seen c.args.freshness (length c.args.caller.now.pass.seen) more c.args.sets.items end (prefix_length c.args.caller.now.pass.seen c.loop.caller.pass.seen later.seen)
    (subst (λ (sets : List Tupleset). ReadEnds seen c.args.freshness more sets end) c.loop.invariant.sets (c.try_read-done.ensures.answer rests))

pub returns-then-not-begins_again-clause-refused : goal.returns-then-not-begins_again-clause-refused
returns-then-not-begins_again-clause-refused g c rests =
    let later = later_on c.args.caller.now.pass c.has_passed.new.caller.pass c.loop.caller.pass c.has_passed.ensures.caller c.loop.invariant.later in
    read_refuses_of_less c.try_read-done.new.told c.try_read-done.new.caller.pass.seen c.try_read-done.new.caller.pass.horizon c.args.freshness (length c.args.caller.now.pass.seen) (length c.loop.caller.pass.seen)
    (ending_of c.try_read-done.result.end) (prefix_length c.args.caller.now.pass.seen c.loop.caller.pass.seen later.seen) (c.try_read-done.ensures.refused rests)

pub returns-then-not-begins_again-clause-kept : goal.returns-then-not-begins_again-clause-kept
returns-then-not-begins_again-clause-kept g c rests place done is =
    let low = c.args.caller.now.pass.horizon in
    let more = length c.loop.caller.pass.seen in
    let seen = le_trans c.has_passed.ensures.seen (prefix_length c.has_passed.new.caller.pass.seen c.loop.caller.pass.seen c.loop.invariant.later.seen) in
    fresh_is_kept c.args.freshness low more place seen (c.has_passed.ensures.kept c.if-has_passed.false) (c.try_read-done.ensures.answer rests place done is).0
