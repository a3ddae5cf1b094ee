-- One more shard was asked.
use Rattle.std.proofs.Common.{ℕ, ◌+◌, ◌∙◌, ap, sym}
use Rattle.commit_flow.specs.Participants.{participants_below, ticket_shards}
use Rattle.commit_flow.proofs.Ballots.{one_asked}
use Rattle.commit_flow.proofs.preparing.prepared.Goals as goal

pub prepare_next-requires-clause-asked : goal.prepare_next-requires-clause-asked
prepare_next-requires-clause-asked c =
    let a = c.args.asked in
    ap ticket_shards c.add_ticket.ensures.tickets ∙ one_asked a.load.shards c.args.intent.write a.load.tickets.items a.shard c.in-Ok.ticket (a.asked c.args.intent.write c.requires.parts) c.requires.takes
    ∙ ap (λ (n : ℕ). participants_below n c.args.intent.write (a.shard + 1)) (sym c.add_ticket.ensures.others.0)
