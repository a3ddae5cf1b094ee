-- The clauses of decide and of a checkpoint are the fields of their answers.
use Rattle.std.proofs.Common.{rules}
use Rattle.calls.proofs.asking.ask_coordinator.Goals as goal

pub returns-in-Decide : goal.returns-in-Decide
returns-in-Decide g c = rw c.in-Decide.is (record {
  ok = c.decide.ensures.ok;
  down = c.decide.ensures.down;
  aborted = c.decide.ensures.aborted;
  full = c.decide.ensures.full;
  memory = c.decide.ensures.memory;
  same = c.decide.ensures.same;
  votes_back = c.decide.ensures.votes;
  spent = c.decide.ensures.spent;
  was_up = c.decide.ensures.up;
})

pub returns-in-Checkpoint : goal.returns-in-Checkpoint
returns-in-Checkpoint g c = rw c.in-Checkpoint.is (record {
  still_honest = c.checkpoint.ensures.honest;
  any_moment = c.checkpoint.ensures.any_moment;
  ok = c.checkpoint.ensures.ok;
  keeps = c.checkpoint.ensures.keeps;
  counts = c.checkpoint.ensures.counts;
  down = c.checkpoint.ensures.down;
  last = c.checkpoint.ensures.last;
  full = c.checkpoint.ensures.full;
  cause = c.checkpoint.ensures.cause;
  err = c.checkpoint.ensures.err;
})

pub returns-in-Heads : goal.returns-in-Heads
returns-in-Heads g c = search rules
