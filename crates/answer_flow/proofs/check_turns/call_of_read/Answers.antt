-- The call is the read of the first that waits.
use Rattle.std.proofs.Common.{◌∙◌, refl, ap}
use Rattle.tuples.specs.declared.object.Userset.{Userset}
use Rattle.tuples.specs.declared.user.User.{User}
use Rattle.tuples.specs.Parts.{shard_of}
use Rattle.calls.specs.declared.call.NodeCall.TheVariants.{Shard}
use Rattle.calls.specs.declared.call.ShardCall.TheVariants as shard_calls
use Rattle.answer_flow.proofs.check_turns.call_of_read.Goals as goal

pub returns-clause-asks : goal.returns-clause-asks
returns-clause-asks c =
    let shards = c.args.asked.now.shards in
    let first = c.args.question.userset in
    record {
      owed = (c.shard_to_ask-shard.ensures.there, tt);
      asks = record {
        first = first;
        is_first = c.requires.0;
        place = c.args.place;
        at_place = refl;
        call_is = ap (λ s. Shard s (shard_calls.ReadForCheck c.args.place first c.args.question.user))
            (c.shard_to_ask-shard.ensures.value ∙ ap (λ (y : Userset). shard_of shards y.object) c.get.ensures)
            ∙ ap (λ (u : User). Shard (shard_of shards first.object) (shard_calls.ReadForCheck c.args.place first u)) c.requires.1;
        waits = refl;
      };
    }
