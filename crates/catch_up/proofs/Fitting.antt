-- A node that is called by a catch-up has what it is owed, and its reply is one to the call that is out.
use Rattle.std.proofs.Common.{ℕ, sym, subst, arith}
use Rattle.catch_up.specs.Held.{CatchUpCallValue, CatchUpValue}
use Rattle.catch_up.specs.CatchingUp.{Asks, Fits, FitsCoordinator, FitsShard}
use Rattle.calls.specs.Belonging.{IsOwed, IsReplyTo}
use Rattle.calls.specs.declared.call.NodeCall.{NodeCall}
use Rattle.calls.specs.declared.call.NodeCall.TheVariants.{Coordinator, Shard}
use Rattle.calls.specs.declared.call.CoordinatorCall.TheVariants.{Batch}
use Rattle.calls.specs.declared.call.ShardCall.TheVariants.{Learned, Learn, Flush}
use Rattle.calls.specs.declared.reply.Reply.{Reply}
use Rattle.calls.specs.declared.reply.Reply.TheVariants.{Coordinator as from_coordinator, Shard as from_shard}
use Rattle.calls.specs.declared.reply.CoordinatorReply.TheVariants.{Batch as batch_reply}
use Rattle.calls.specs.declared.reply.ShardReply.TheVariants.{Learned as learned_reply, Learn as learn_reply, Flush as flush_reply}

pub owed : (shards : ℕ) (v : CatchUpValue) (call : NodeCall) (after : CatchUpCallValue) → Asks v call after → IsOwed shards call
owed shards v (Coordinator (Batch from to)) after h = omega (arith, h.1)
owed shards v (Coordinator call) after h = absurd h
owed shards v (Shard s Learned) after h = tt
owed shards v (Shard s (Learn batch)) after h = tt
owed shards v (Shard s Flush) after h = tt
owed shards v (Shard s call) after h = absurd h.1

pub fits : (v : CatchUpValue) (call : NodeCall) (reply : Reply) (after : CatchUpCallValue) → Asks v call after → IsReplyTo call reply → Fits after.awaited reply
fits v (Coordinator (Batch from to)) (from_coordinator (batch_reply r)) after h b = subst (λ (c : CatchUpCallValue). FitsCoordinator c.awaited (batch_reply r)) (sym h.3) tt
fits v (Coordinator (Batch from to)) reply after h b = absurd b
fits v (Coordinator call) reply after h b = absurd h
fits v (Shard s Learned) (from_shard (learned_reply r)) after h b = subst (λ (c : CatchUpCallValue). FitsShard c.awaited (learned_reply r)) (sym h.1) tt
fits v (Shard s Learned) reply after h b = absurd b
fits v (Shard s (Learn batch)) (from_shard (learn_reply back r)) after h b = subst (λ (c : CatchUpCallValue). FitsShard c.awaited (learn_reply back r)) (sym h.1.1) tt
fits v (Shard s (Learn batch)) reply after h b = absurd b
fits v (Shard s Flush) (from_shard (flush_reply r)) after h b = subst (λ (c : CatchUpCallValue). FitsShard c.awaited (flush_reply r)) (sym h.1) tt
fits v (Shard s Flush) reply after h b = absurd b
fits v (Shard s call) reply after h b = absurd h.1
