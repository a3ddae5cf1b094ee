use Rattle.std.proofs.Common.{◌∙◌, ap, sym}
use Rattle.serde_json.specs.View.{view}
use Rattle.json_lines.specs.Shapes.{object_with}
use Rattle.json_lines.proofs.Values.{object_is}
use Rattle.json_lines.proofs.member.members_of.Goals as goal

pub returns : goal.returns
returns c = object_is (view c.args.value.now) c.in-Some.map.now.entries c.in-Some.ensures ∙ ap (λ fs. object_with fs) (sym c.in_ok-entries_of.ensures)
