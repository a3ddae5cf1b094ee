-- The reply belongs to the catch-up, which stays with its shard and its place.
use Rattle.std.proofs.Common.{◌<◌, ◌∙◌, ℕ, Some, refl, sym, ap, subst}
use Rattle.answer_flow.proofs.CatchUps.{goes_on}
use Rattle.answer_flow.proofs.reading.caught_up.Goals as goal

pub returns-in-Next-clause-gives : goal.returns-in-Next-clause-gives
returns-in-Next-clause-gives c = record {
  call = c.args.call;
  is_awaited = refl;
  to = ap Some (sym c.requires.kept.1.to);
  holds = refl;
  progress = c.give.result;
  gives = c.give.ensures;
  then_gives = rw c.in-Next.is refl;
}

pub returns-in-Next-clause-kept : goal.returns-in-Next-clause-kept
returns-in-Next-clause-kept c =
    let way = c.requires.kept.1 in
    let same = goes_on c.args.call c.args.reply c.in-Next.catch_up c.requires.fits (rw c.in-Next.is at c.give.ensures) in (
      c.requires.kept.0,
      record {
        shard = same.0 ∙ way.shard;
        there = subst (λ (n : ℕ). n < c.args.asked.now.shards) (sym same.0) way.there;
        to = same.1 ∙ way.to;
      },
    )

pub returns-in-There-clause-gives : goal.returns-in-There-clause-gives
returns-in-There-clause-gives c = record {
  call = c.args.call;
  is_awaited = refl;
  to = ap Some (sym c.requires.kept.1.to);
  holds = refl;
  progress = c.give.result;
  gives = c.give.ensures;
  then_gives = rw c.in-There.is refl;
}

pub returns-in-Refused-clause-gives : goal.returns-in-Refused-clause-gives
returns-in-Refused-clause-gives c = record {
  call = c.args.call;
  is_awaited = refl;
  to = ap Some (sym c.requires.kept.1.to);
  holds = refl;
  progress = c.give.result;
  gives = c.give.ensures;
  then_gives = rw (c.in-Refused.is, c.refused.ensures) refl;
}
