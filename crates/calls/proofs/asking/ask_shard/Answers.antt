-- The clauses of each call, as its answer has them.
use Rattle.std.proofs.Common.{refl}
use Rattle.calls.proofs.Preparing.{prepare_refused, prepares}
use Rattle.calls.proofs.Learning.{learn_refused, learns, reads, reads_for_check}
use Rattle.calls.proofs.asking.ask_shard.Goals as goal

pub returns-in-Learn : goal.returns-in-Learn
returns-in-Learn g c = let e = c.learn-answer.ensures in rw c.in-Learn.is (
  refl,
  record {
    ok = λ up. learns g.D.Device.state g.D.Device.honest c.args.shard.now c.learn-answer.new.self c.in-Learn.batch c.learn-answer.result (e.known up) (e.ahead up) (e.ok up) (e.learnable up);
    refused = λ up. learn_refused g.D.Device.state g.D.Device.honest c.args.shard.now c.learn-answer.new.self c.in-Learn.batch c.learn-answer.result (e.known up) (e.ahead up) (e.damaged up) (e.full up);
    down = e.down;
    stays = e.kept;
    err = e.err;
  },
)

pub returns-in-StagePrepare : goal.returns-in-StagePrepare
returns-in-StagePrepare g c = let e = c.stage_prepare-answer.ensures in rw c.in-StagePrepare.is (
  refl,
  record {
    ok = λ up. prepares g.D.Device.state g.D.Device.honest c.args.shard.now c.stage_prepare-answer.new.self c.in-StagePrepare.intent.write c.stage_prepare-answer.result (e.ok up) e.id (e.above up) (e.free up) (e.conditions up);
    id = e.id;
    refused = λ up. prepare_refused g.D.Device.state g.D.Device.honest c.args.shard.now c.stage_prepare-answer.new.self c.in-StagePrepare.intent.write c.stage_prepare-answer.result (e.collected up) (e.busy up) (e.broken up) (e.full up) (e.memory up);
    down = e.down;
    stays = e.kept;
    err = e.err;
  },
)

pub returns-in-Vote : goal.returns-in-Vote
returns-in-Vote g c = let e = c.vote.ensures in rw c.in-Vote.is (
  refl,
  record {
    own = e.own;
    back = e.back;
    yes = λ vote up is. let o = e.own vote is in let y = e.yes vote up is in record { id = o.0; shard = o.1; here = y.1; durable = y.0 };
    later = λ t up is. let l = e.later t up is in record { here = l.0; staged = l.1 };
    no = e.no;
    down = e.down;
  },
)

pub returns-in-DropWrite : goal.returns-in-DropWrite
returns-in-DropWrite g c = let e = c.drop_write-answer.ensures in rw c.in-DropWrite.is (
  refl,
  record {
    drops = λ up. record { dropped = e.dropped up; not_here = e.not_here up; full = e.full up };
    down = e.down;
    stays = e.kept;
    err = e.err;
  },
)

pub returns-in-Checkpoint : goal.returns-in-Checkpoint
returns-in-Checkpoint g c = rw c.in-Checkpoint.is (record {
  still_honest = c.checkpoint.ensures.honest;
  any_moment = c.checkpoint.ensures.any_moment;
  ok = c.checkpoint.ensures.ok;
  me = c.checkpoint.ensures.me;
  counts = c.checkpoint.ensures.counts;
  down = c.checkpoint.ensures.down;
  last = c.checkpoint.ensures.last;
  full = c.checkpoint.ensures.full;
  cause = c.checkpoint.ensures.cause;
  err = c.checkpoint.ensures.err;
})

pub returns-in-Read : goal.returns-in-Read
returns-in-Read g c = let e = c.read-answer.ensures in rw c.in-Read.is (
  refl,
  refl,
  record {
    rows = λ ts up. reads c.args.shard.now c.in-Read.place c.in-Read.set ts c.read-answer.result (rw c.get.ensures at (e.rows ts up));
    behind = e.behind;
    collected = e.collected;
    down = e.down;
    err = e.err;
  },
)

pub returns-in-ReadForCheck : goal.returns-in-ReadForCheck
returns-in-ReadForCheck g c = let e = c.read_for_check-answer.ensures in rw c.in-ReadForCheck.is (
  refl,
  refl,
  refl,
  record {
    rows = λ ts up. reads_for_check c.args.shard.now c.in-ReadForCheck.place c.in-ReadForCheck.userset c.in-ReadForCheck.user ts c.read_for_check-answer.result (rw (c.get-in-ReadForCheck.ensures, c.get-in-ReadForCheck-2.ensures) at (e.rows ts up));
    behind = e.behind;
    collected = e.collected;
    down = e.down;
    err = e.err;
  },
)
