use Rattle.std.proofs.Common.{take}
use Rattle.std.specs.List.{flat_map}
use Rattle.json_lines.specs.Grown.{Grown}
use Rattle.script_text.specs.PrintedTexts.{version_line}
use Rattle.script_text.proofs.printed_lists.push_versions.Given as goal

abbrev pub invariant-loop-version : goal.invariant-loop-version
invariant-loop-version l = Grown l.initial.out l.out (flat_map version_line (take l.version-index l.versions))
