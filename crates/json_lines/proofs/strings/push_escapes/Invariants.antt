use Rattle.std.proofs.Common.{take}
use Rattle.json.specs.Print.{escape}
use Rattle.json_lines.specs.Grown.{Grown}
use Rattle.json_lines.proofs.strings.push_escapes.Given as goal

abbrev pub invariant-loop-byte : goal.invariant-loop-byte
invariant-loop-byte l = Grown l.initial.out l.out (escape (take l.byte-index l.text))
