-- What the reply makes of a phase that knows no number of shards holds for any.
use Rattle.commit_flow.proofs.giving.give.Goals as goal

pub returns-in-Outcome-clause-gives : goal.returns-in-Outcome-clause-gives
returns-in-Outcome-clause-gives c = rw c.in-Outcome.is (c.give_outcome.ensures.gives)

pub returns-in-Outcome-clause-kept : goal.returns-in-Outcome-clause-kept
returns-in-Outcome-clause-kept c = c.give_outcome.ensures.kept c.args.shards

pub returns-in-FlushToOutcome-clause-gives : goal.returns-in-FlushToOutcome-clause-gives
returns-in-FlushToOutcome-clause-gives c = rw c.in-FlushToOutcome.is (c.give_flush_to_outcome.ensures.gives)

pub returns-in-FlushToOutcome-clause-kept : goal.returns-in-FlushToOutcome-clause-kept
returns-in-FlushToOutcome-clause-kept c = c.give_flush_to_outcome.ensures.kept c.args.shards

pub returns-in-Abort-clause-gives : goal.returns-in-Abort-clause-gives
returns-in-Abort-clause-gives c = rw c.in-Abort.is (c.give_abort.ensures.gives)

pub returns-in-Abort-clause-kept : goal.returns-in-Abort-clause-kept
returns-in-Abort-clause-kept c = c.give_abort.ensures.kept c.args.shards

pub returns-in-Inquire-clause-gives : goal.returns-in-Inquire-clause-gives
returns-in-Inquire-clause-gives c = rw c.in-Inquire.is (c.give_inquire.ensures.gives)

pub returns-in-Inquire-clause-kept : goal.returns-in-Inquire-clause-kept
returns-in-Inquire-clause-kept c = c.give_inquire.ensures.kept c.args.shards

pub returns-in-DropWrite-clause-gives : goal.returns-in-DropWrite-clause-gives
returns-in-DropWrite-clause-gives c = rw c.in-DropWrite.is (c.give_drop_write.ensures.gives)

pub returns-in-DropWrite-clause-kept : goal.returns-in-DropWrite-clause-kept
returns-in-DropWrite-clause-kept c = c.give_drop_write.ensures.kept c.args.shards
