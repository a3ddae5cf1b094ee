use Rattle.std.proofs.Common.{take}
use Rattle.coordinator.proofs.CountedVotes.{AreCounted}
use Rattle.coordinator.proofs.votes.votes_match.Given as goal

abbrev pub invariant-loop-vote : goal.invariant-loop-vote
invariant-loop-vote l = AreCounted l.fn.shards l.intent.write (take l.vote-index l.votes) l.missing
