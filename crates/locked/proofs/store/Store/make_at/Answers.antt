use Rattle.std.proofs.Common.{◌≡◌, ℕ, arith, false, sym, subst}
use Rattle.calls.specs.Reading.{is_read, read_reply}
use Rattle.calls.specs.declared.reply.Reply.TheVariants.{Shard as from_shard}
use Rattle.calls.specs.declared.reply.ShardReply.{ShardReply}
use Rattle.flights.specs.Places.{number_at}
use Rattle.locked.proofs.Words.{Damaged, Serves, Shard, ShardCall}
use Rattle.locked.proofs.Served.{absent_is_noticed, absent_serves, checkpoint_serves, flush_serves}
use Rattle.locked.proofs.Serving.{hands_seen, read_serves, shard_serves}
use Rattle.locked.proofs.store.Store.make_at.Goals as goal

pub returns-then-shard-count-clause-told : goal.returns-then-shard-count-clause-told
returns-then-shard-count-clause-told g c = absent_is_noticed c.args.told.now g.B.Room.shards c.args.shard c.args.call c.refuse.result (omega (arith, c.args.self.now.of, c.if-shard-count.true, c.count-count.ensures.value))

pub returns-in-Flush-clause-serves : goal.returns-in-Flush-clause-serves
returns-in-Flush-clause-serves g c =
    subst (λ (call : ShardCall). Serves g.B.Room.rests g.B.Room.shards c.args.pass.now c.args.pass.now (Shard c.args.shard call) c.flush.result) (sym c.in-Flush.is)
    (flush_serves g.B.Room.rests g.B.Room.shards c.args.shard c.args.pass.now c.flush.result (c.flush.ensures.belongs c.args.shard))

pub returns-in-Checkpoint-clause-serves : goal.returns-in-Checkpoint-clause-serves
returns-in-Checkpoint-clause-serves g c =
    subst (λ (call : ShardCall). Serves g.B.Room.rests g.B.Room.shards c.args.pass.now c.args.pass.now (Shard c.args.shard call) c.checkpoint.result) (sym c.in-Checkpoint.is)
    (checkpoint_serves g.B.Room.rests g.B.Room.shards c.args.shard c.args.pass.now c.checkpoint.result (c.checkpoint.ensures.belongs c.args.shard))

pub returns-then-shard-count-clause-serves : goal.returns-then-shard-count-clause-serves
returns-then-shard-count-clause-serves g c =
    absent_serves g.B.Room.rests g.B.Room.shards c.args.shard c.args.pass.now Damaged c.args.call c.refuse.result c.refuse.ensures.refuses c.refuse.ensures.belongs

pub returns-then-is_read-clause-serves : goal.returns-then-is_read-clause-serves
returns-then-is_read-clause-serves g c =
    let there : number_at c.deref.result.now ≡ c.args.shard = let value = c.deref.ensures in let at = c.side_to_read-place.ensures in cc in
    subst (λ (r : ShardReply). Serves g.B.Room.rests g.B.Room.shards c.args.pass.now c.look-answer.new.pass (Shard c.args.shard c.args.call) (from_shard r)) (sym c.into_reply.ensures)
    (subst (λ (n : ℕ). Serves g.B.Room.rests g.B.Room.shards c.args.pass.now c.look-answer.new.pass (Shard n c.args.call) (from_shard (read_reply c.args.call c.look-answer.result))) there
    (read_serves g.B.Room.rests g.B.Room.shards (number_at c.deref.result.now) c.args.pass.now c.look-answer.new.pass c.args.call c.look-answer.result c.look-answer.ensures.rows c.look-answer.ensures.caller c.look-answer.ensures.belongs))

pub ask-requires-clause-hands : goal.ask-requires-clause-hands
ask-requires-clause-hands g c = λ rests. hands_seen c.args.shard c.args.pass.now c.args.call (c.requires.hands rests)

pub returns-in_default-clause-serves : goal.returns-in_default-clause-serves
returns-in_default-clause-serves g c =
    let there : number_at c.deref_mut.result.now ≡ c.args.shard = let value = c.deref_mut.ensures.value in let at = c.side-place.ensures in cc in
    let no_read : is_read c.args.call ≡ false = let tells = c.is_read.ensures in let not = c.if-is_read.false in cc in
    subst (λ (n : ℕ). Serves g.B.Room.rests g.B.Room.shards c.args.pass.now c.ask.new.pass (Shard n c.args.call) c.ask.result) there
    (shard_serves g.B.Room.rests g.B.Room.shards (number_at c.deref_mut.result.now) c.args.pass.now c.ask.new.pass c.args.call c.ask.result no_read c.ask.ensures.caller c.ask.ensures.belongs)
