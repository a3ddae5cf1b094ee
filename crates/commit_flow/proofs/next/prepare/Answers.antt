-- Each write with these bits has been asked of the same shards.
use Rattle.std.proofs.Common.{Some, None, refl, ◌∙◌, ap, subst, sym}
use Rattle.tuples.specs.declared.entry.WriteId.{WriteId}
use Rattle.commit_flow.specs.Participants.{AreTicketsFor}
use Rattle.commit_flow.specs.Views.{WriteView, holds_onward, tickets_of}
use Rattle.commit_flow.specs.WriteHolds.{prepare}
use Rattle.commit_flow.proofs.Ballots.{given_below, same_below}
use Rattle.commit_flow.proofs.next.prepare.Goals as goal

pub invariant_of-asked-clause-asked : goal.invariant_of-asked-clause-asked
invariant_of-asked-clause-asked c = λ w parts.
    let p = c.args.preparing in
    p.asked ∙ same_below c.participants-participants.result p.load.shards p.intent.write w c.participants-participants.ensures.each parts p.shard

pub invariant_of-asked-clause-own : goal.invariant_of-asked-clause-own
invariant_of-asked-clause-own c = subst (λ (id : WriteId). AreTicketsFor id c.args.preparing.load.tickets.items) (sym c.id-id.ensures) c.args.preparing.own

pub returns-clause-asks : goal.returns-clause-asks
returns-clause-asks c = (
  c.args.preparing.takes,
  (
    (refl, refl, (c.args.preparing.intent, refl, refl)),
    refl,
    c.args.preparing.there,
    refl,
    refl,
    (given_below c.args.preparing.load.shards c.args.preparing.intent.write c.args.preparing.load.tickets.items c.args.preparing.shard c.args.preparing.asked, c.args.preparing.none),
    (c.participants-participants.result, c.participants-participants.ensures.each, ap waits_under c.id-id.ensures),
  ),
)
  where
    waits_under : WriteId → WriteView
    waits_under id = record {
      write = None;
      holds = holds_onward id None (tickets_of c.args.preparing.load) c.args.preparing.load.votes.items None;
      caught = None;
      flushed = c.args.is_again;
      awaited = Some (prepare c.args.preparing.shard c.args.is_again c.participants-participants.result);
      ended = None;
    }
