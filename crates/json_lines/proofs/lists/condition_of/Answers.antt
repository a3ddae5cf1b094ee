use Rattle.std.proofs.Common.{refl, inl}
use Rattle.serde_json.specs.View.{view}
use Rattle.json_lines.specs.Shapes.{fields_of}
use Rattle.json_lines.proofs.Values.{no_condition}
use Rattle.json_lines.proofs.lists.condition_of.Goals as goal

pub returns-in_default-two_texts : goal.returns-in_default-two_texts
returns-in_default-two_texts c =
    let other = rw c.deref-2.ensures.value at c.in_default-two_texts.ensures in
    inl (refl, λ x. no_condition (view c.args.value.now) (fields_of c.in_ok-members.members.items) c.in_ok-members.ensures (rw c.deref.ensures.value at c.in_default.ensures) (λ a b e w. other a b e) x.want x.tuple.now)
