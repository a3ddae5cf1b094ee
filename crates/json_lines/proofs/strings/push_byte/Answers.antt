use Rattle.json_lines.proofs.Escapes.{short, coded, as_it_is}
use Rattle.json_lines.proofs.Growing.{grown_as}
use Rattle.json_lines.proofs.strings.push_byte.Goals as goal

pub returns-then-letter-gt0 : goal.returns-then-letter-gt0
returns-then-letter-gt0 c = grown_as (short c.args.byte c.escape_letter-letter.result c.escape_letter-letter.ensures c.if-letter-gt0.true) c.push.ensures

pub returns-then-byte-lt-SPACE : goal.returns-then-byte-lt-SPACE
returns-then-byte-lt-SPACE c = grown_as (coded c.args.byte c.escape_letter-letter.result _ _ c.escape_letter-letter.ensures c.if-letter-gt0.false c.if-byte-lt-SPACE.true c.hex_digit.ensures c.hex_digit-then-byte-lt-SPACE.ensures) c.push-then-byte-lt-SPACE.ensures

pub returns-else-byte-lt-SPACE : goal.returns-else-byte-lt-SPACE
returns-else-byte-lt-SPACE c = grown_as (as_it_is c.args.byte c.escape_letter-letter.result c.escape_letter-letter.ensures c.if-letter-gt0.false c.if-byte-lt-SPACE.false) c.push-else-byte-lt-SPACE.ensures
