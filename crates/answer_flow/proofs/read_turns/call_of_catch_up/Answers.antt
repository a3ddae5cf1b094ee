-- The call is one of the catch-up that is on its way.
use Rattle.std.proofs.Common.{◌<◌, ◌∙◌, ℕ, Some, refl, sym, ap, subst}
use Rattle.answer_flow.proofs.CatchUps.{owed, same_way}
use Rattle.answer_flow.proofs.read_turns.call_of_catch_up.Goals as goal

pub returns-clause-asks : goal.returns-clause-asks
returns-clause-asks c =
    let way = c.requires.1 in
    record {
      owed = owed c.args.asked.now.shards c.args.catch_up c.next_call-call.result.0 c.next_call-call.result.1 way.there c.next_call-call.ensures.asks;
      asks = record {
        set = c.args.set;
        next = c.requires.0.there;
        way = c.args.catch_up;
        shard = way.shard;
        to = ap Some (sym way.to);
        batch = refl;
        out = c.next_call-call.result.1;
        asks = c.next_call-call.ensures.asks;
        waits = refl;
      };
    }

pub returns-clause-kept : goal.returns-clause-kept
returns-clause-kept c =
    let way = c.requires.1 in
    let same = same_way c.args.catch_up c.next_call-call.result.0 c.next_call-call.result.1 c.next_call-call.ensures.asks in (
      c.requires.0,
      record {
        shard = same.0 ∙ way.shard;
        there = subst (λ (n : ℕ). n < c.args.asked.now.shards) (sym same.0) way.there;
        to = same.1 ∙ way.to;
      },
    )
