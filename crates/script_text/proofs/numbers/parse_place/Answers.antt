use Rattle.std.proofs.Common.{arith}
use Rattle.script_text.proofs.Counts.{zero_text, place_read}
use Rattle.script_text.proofs.Lists.{same_text, other_text}
use Rattle.script_text.proofs.numbers.parse_place.Goals as goal

pub returns-then-eq : goal.returns-then-eq
returns-then-eq c = (omega arith, zero_text c.args.text.now (same_text c.args.text.now c.as_slice.result.now _ c.eq.result c.eq.ensures c.as_slice.ensures c.if-eq.true))

pub returns-else-eq : goal.returns-else-eq
returns-else-eq c = place_read c.args.text.now c.parse_count.result (other_text c.args.text.now c.as_slice.result.now _ c.eq.result c.eq.ensures c.as_slice.ensures c.if-eq.false) c.parse_count.ensures
