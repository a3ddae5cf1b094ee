-- An inquiry is for the id that is held; a drop hands in what a shard gave, and the rest stays.
use Rattle.std.proofs.Common.{◌++◌, inl, inr, map, refl}
use Rattle.commit_flow.specs.Views.{in_hand, ticket_value, tickets_of}
use Rattle.commit_flow.proofs.next.next.Goals as goal

pub catch_up-requires : goal.catch_up-requires
catch_up-requires c = let kept = rw c.in-CatchUp.is at c.requires in record { shard = kept.1; to = kept.2 }

pub returns-in-Inquire-clause-asks : goal.returns-in-Inquire-clause-asks
returns-in-Inquire-clause-asks c = rw c.in-Inquire.is (tt, ((c.in-Inquire.leaving.met, refl), refl, refl, refl))

pub returns-in-DropWrite-clause-asks : goal.returns-in-DropWrite-clause-asks
returns-in-DropWrite-clause-asks c = let l = c.in-DropWrite.leaving in
    rw c.in-DropWrite.is (tt, ((l.met, refl), refl, (in_hand l.hand ++ map ticket_value l.tickets.items, l.votes.items, refl, refl, refl)))

pub returns-in-FlushToVote-clause-asks : goal.returns-in-FlushToVote-clause-asks
returns-in-FlushToVote-clause-asks c =
    let v = c.in-FlushToVote.voting in
    let asked = c.flush_shard-in-FlushToVote.ensures in
    rw (c.in-FlushToVote.is, asked.0, asked.1) (tt, ((refl, refl, (v.intent, refl, refl)), inr (c.in-FlushToVote.ticket, tickets_of v.load, refl, refl), refl))

pub returns-in-FlushToDecide-clause-asks : goal.returns-in-FlushToDecide-clause-asks
returns-in-FlushToDecide-clause-asks c =
    let asked = c.ask_coordinator-in-FlushToDecide.ensures in
    let b = c.in-FlushToDecide.ballot in
    rw (c.in-FlushToDecide.is, asked.0, asked.1) (tt, inl ((refl, refl, (b.intent, refl, refl)), refl, refl))
