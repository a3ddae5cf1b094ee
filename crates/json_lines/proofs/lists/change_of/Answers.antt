use Rattle.std.proofs.Common.{refl, inl}
use Rattle.serde_json.specs.View.{view}
use Rattle.json_lines.specs.Shapes.{fields_of}
use Rattle.json_lines.proofs.Values.{no_change}
use Rattle.json_lines.proofs.lists.change_of.Goals as goal

pub returns-in_default : goal.returns-in_default
returns-in_default c = inl (refl, no_change (view c.args.value.now) (fields_of c.in_ok-members.members.items) c.in_ok-members.ensures (rw c.deref.ensures.value at c.in_default.ensures))
