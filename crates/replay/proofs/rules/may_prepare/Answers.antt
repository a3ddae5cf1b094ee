use Rattle.std.proofs.Common.{◌∙◌, sym, subst, arith, rules}
use Rattle.records.specs.Replays.{AskOfLog, named}
use Rattle.holds.specs.Holds.{IsFree}
use Rattle.replay.proofs.Deciding.{own_decides}
use Rattle.replay.proofs.rules.may_prepare.Goals as goal

pub returns : goal.returns
returns c =
    let tests = own_decides c.args.me (named c.args.entry.now) in
    let free : IsFree c.args.memory.now.in_doubt c.args.entry.now = c.is_free.ensures.0 c.if-not-is_free.false in (
      λ is. record {
        opened = omega arith;
        new = free.new;
        own = tests.0 (sym c.are_tuples_own.ensures ∙ is);
        free = free.tuples;
        some_epoch = search rules;
        epoch = search rules;
        some_number = search rules;
        number = search rules;
        places = subst AskOfLog c.as_slice.ensures (c.ask_of_log.ensures.0 c.if-not-ask_of_log.false);
      },
      λ may. c.are_tuples_own.ensures ∙ tests.1 may.own,
    )
