use Rattle.json_lines.proofs.Escapes.{one_plain_more}
use Rattle.json_lines.proofs.strings.is_plain.Goals as goal

pub loop-byte-preserved : goal.loop-byte-preserved
loop-byte-preserved c = one_plain_more c.args.text.now c.loop-byte.byte-index c.loop-byte-test.true c.if-byte-lt-SPACE.false c.if-byte-eq34.false c.if-byte-eq92.false c.loop-byte.invariant
