use Rattle.std.proofs.Common.{◌≡◌, ◌++◌}
use Rattle.json_lines.specs.Shapes.{entry_fields, fields_of}
use Rattle.json_lines.proofs.member.entries_of.Given as goal

abbrev pub invariant-loop-key : goal.invariant-loop-key
invariant-loop-key l = fields_of l.members.items ++ entry_fields l.key-iterator ≡ entry_fields l.map.entries
