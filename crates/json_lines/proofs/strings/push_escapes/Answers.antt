use Rattle.json_lines.proofs.Escapes.{one_byte_more}
use Rattle.json_lines.proofs.Growing.{grown_as, grown_then}
use Rattle.json_lines.proofs.strings.push_escapes.Goals as goal

pub loop-byte-preserved : goal.loop-byte-preserved
loop-byte-preserved c = grown_as (one_byte_more c.args.text.now c.loop-byte.byte-index c.loop-byte-test.true) (grown_then c.loop-byte.invariant c.push_byte.ensures)
