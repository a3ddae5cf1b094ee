use Rattle.std.proofs.Common.{◌≡◌, ◌+◌, map, take}
use Rattle.json_lines.specs.Grown.{Grown}
use Rattle.script_text.specs.PrintedTexts.{row_lines}
use Rattle.script_text.proofs.printed_lists.push_sets.Given as goal

abbrev pub invariant-loop-tuples : goal.invariant-loop-tuples
invariant-loop-tuples l = Grown l.initial.out l.out (row_lines 1 (map (λ set. set.items) (take l.tuples-index l.sets))) × (l.number ≡ l.tuples-index + 1)
