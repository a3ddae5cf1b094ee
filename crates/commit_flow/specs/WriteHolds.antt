-- Which call of a write flow is out.
use Rattle.std.specs.Prelude.{ℕ, Bool}
pub use Rattle.decisions.specs.Flows.{HeldTicket, HeldVote, Way, onward, outward, WriteHolds, nothing_begun}
use Rattle.catch_up.specs.Held.{Awaited}

-- The call that is out: each with its shard, and whether it is made again after a flush; a prepare with the bits of all participants of the write.
pub data WriteAwaited : Type 0 where
  begin : WriteAwaited
  catch_up : Awaited → WriteAwaited
  prepare : ℕ → Bool → ℕ → WriteAwaited
  flush_to_prepare : ℕ → WriteAwaited
  vote : ℕ → WriteAwaited
  flush_to_vote : ℕ → WriteAwaited
  decide : Bool → WriteAwaited
  flush_to_decide : WriteAwaited
  outcome : WriteAwaited
  flush_to_outcome : WriteAwaited
  abort : WriteAwaited
  inquire : WriteAwaited
  drop_write : WriteAwaited
