-- No shard between takes part.
use Rattle.std.proofs.Common.{List, ◌∙◌, ◌++◌, ap, sym}
use Rattle.decisions.specs.Values.{VoteValue}
use Rattle.commit_flow.specs.Participants.{ticket_shards, vote_shards}
use Rattle.commit_flow.proofs.Ballots.{below_skips}
use Rattle.commit_flow.proofs.preparing.prepare_next.Goals as goal

pub invariant_of-preparing-clause-asked : goal.invariant_of-preparing-clause-asked
invariant_of-preparing-clause-asked c =
    let next = rw c.in-Some.is at c.next_shard.ensures in
    c.requires.asked ∙ sym (below_skips c.args.load.shards c.args.intent.write c.args.from c.in-Some.shard next.0 next.3)

pub vote_next-requires-clause-all : goal.vote_next-requires-clause-all
vote_next-requires-clause-all c =
    let none = rw c.in-None.is at c.next_shard.ensures in
    ap (λ (votes : List VoteValue). vote_shards votes ++ ticket_shards c.args.load.tickets.items) c.requires.none
    ∙ c.requires.asked ∙ sym (below_skips c.args.load.shards c.args.intent.write c.args.from c.args.load.shards c.requires.within none)
