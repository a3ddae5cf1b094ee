use Rattle.script_text.proofs.Asking.{asks_absent, asks_empty, asks_exists, asks_placed, first_byte, other_byte}
use Rattle.script_text.proofs.conditions.split_condition.Goals as goal

pub returns-then-mark-eq63 : goal.returns-then-mark-eq63
returns-then-mark-eq63 c = asks_exists c.args.word.now c.in-Some.tuple.now (first_byte c.args.word.now c.in-Some.tuple.now c.in-Some.mark.now 63 c.in-Some.ensures.cases.0 c.if-mark-eq63.true)

pub returns-then-mark-eq33 : goal.returns-then-mark-eq33
returns-then-mark-eq33 c = asks_absent c.args.word.now c.in-Some.tuple.now (first_byte c.args.word.now c.in-Some.tuple.now c.in-Some.mark.now 33 c.in-Some.ensures.cases.0 c.if-mark-eq33.true)

pub returns-in_default : goal.returns-in_default
returns-in_default c = asks_empty c.args.word.now c.in_default.ensures.cases

pub returns-else-mark-eq33 : goal.returns-else-mark-eq33
returns-else-mark-eq33 c =
    let other = other_byte c.args.word.now c.in-Some.tuple.now c.in-Some.mark.now in
    asks_placed c.args.word.now c.split_place.result (other 63 c.in-Some.ensures.cases.0 c.if-mark-eq63.false) (other 33 c.in-Some.ensures.cases.0 c.if-mark-eq33.false) c.split_place.ensures
