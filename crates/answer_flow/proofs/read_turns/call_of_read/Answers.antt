-- The call is the read of the next tupleset.
use Rattle.std.proofs.Common.{refl, ap}
use Rattle.calls.specs.declared.call.NodeCall.TheVariants.{Shard}
use Rattle.calls.specs.declared.call.ShardCall.TheVariants as shard_calls
use Rattle.answer_flow.proofs.read_turns.call_of_read.Goals as goal

pub returns-clause-asks : goal.returns-clause-asks
returns-clause-asks c = record {
  owed = (c.shard_to_ask-shard.ensures.there, tt);
  asks = record {
    set = c.args.set;
    next = c.requires.there;
    place = c.args.gathered.place;
    at_place = refl;
    call_is = ap (λ s. Shard s (shard_calls.Read c.args.gathered.place c.args.set)) c.shard_to_ask-shard.ensures.value;
    waits = refl;
  };
}
