use Rattle.std.proofs.Common.{take}
use Rattle.std.specs.List.{flat_map}
use Rattle.json_lines.specs.Grown.{Grown}
use Rattle.script_text.specs.PrintedTexts.{row_line}
use Rattle.script_text.proofs.printed_lists.push_set.Given as goal

abbrev pub invariant-loop-tuple : goal.invariant-loop-tuple
invariant-loop-tuple l = Grown l.initial.out l.out (flat_map (row_line l.number) (take l.tuple-index l.tuples))
