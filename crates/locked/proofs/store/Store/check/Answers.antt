use Rattle.std.proofs.Common.{length, subst}
use Rattle.std.proofs.Math.Nat.{le_trans}
use Rattle.tuples.specs.declared.user.User.{User}
use Rattle.answer_flow.specs.CheckViews.{ending_of}
use Rattle.locked.specs.Answering.{CheckEnds}
use Rattle.locked.proofs.Words.{prefix_length}
use Rattle.locked.proofs.FreshPlaces.{fresh_is_kept}
use Rattle.locked.proofs.Passes.{later_on}
use Rattle.locked.proofs.CheckTurns.{check_ends_of_less, check_refuses_of_less, passed_refuses_check}
use Rattle.locked.proofs.store.Store.check.Goals as goal

pub returns-then-has_passed-clause-refused : goal.returns-then-has_passed-clause-refused
returns-then-has_passed-clause-refused g c rests =
    passed_refuses_check c.args.told.now c.has_passed.new.caller.pass.seen c.has_passed.new.caller.pass.horizon c.args.freshness (length c.args.caller.now.pass.seen) c.args.userset.now (c.has_passed.ensures.passed c.if-has_passed.true)

pub returns-then-not-begins_again-clause-answer : goal.returns-then-not-begins_again-clause-answer
returns-then-not-begins_again-clause-answer g c rests =
    let later = later_on c.args.caller.now.pass c.has_passed.new.caller.pass c.loop.caller.pass c.has_passed.ensures.caller c.loop.invariant.later in
    let seen = c.try_check.new.caller.pass.seen in
    let more = length c.loop.caller.pass.seen in
    let end = ending_of c.in-Ok.done.end in
    check_ends_of_less seen c.args.freshness (length c.args.caller.now.pass.seen) more c.args.userset.now c.args.user end (prefix_length c.args.caller.now.pass.seen c.loop.caller.pass.seen later.seen)
    (subst (λ (u : User). CheckEnds seen c.args.freshness more c.args.userset.now u end) c.loop.invariant.user (c.in-Ok.ensures.answer rests))

pub returns-then-not-begins_again-clause-refused : goal.returns-then-not-begins_again-clause-refused
returns-then-not-begins_again-clause-refused g c rests =
    let later = later_on c.args.caller.now.pass c.has_passed.new.caller.pass c.loop.caller.pass c.has_passed.ensures.caller c.loop.invariant.later in
    check_refuses_of_less c.try_check.new.told c.try_check.new.caller.pass.seen c.try_check.new.caller.pass.horizon c.args.freshness (length c.args.caller.now.pass.seen) (length c.loop.caller.pass.seen) c.args.userset.now
    (ending_of c.in-Ok.done.end) (prefix_length c.args.caller.now.pass.seen c.loop.caller.pass.seen later.seen) (c.in-Ok.ensures.refused rests)

pub returns-then-not-begins_again-clause-kept : goal.returns-then-not-begins_again-clause-kept
returns-then-not-begins_again-clause-kept g c rests place answer is =
    let low = c.args.caller.now.pass.horizon in
    let more = length c.loop.caller.pass.seen in
    let seen = le_trans c.has_passed.ensures.seen (prefix_length c.has_passed.new.caller.pass.seen c.loop.caller.pass.seen c.loop.invariant.later.seen) in
    fresh_is_kept c.args.freshness low more place seen (c.has_passed.ensures.kept c.if-has_passed.false) (c.in-Ok.ensures.answer rests place answer is).0
