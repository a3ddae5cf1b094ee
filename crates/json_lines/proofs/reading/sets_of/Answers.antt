use Rattle.std.proofs.Common.{refl, inl, arith, ap}
use Rattle.serde_json.specs.View.{view}
use Rattle.json_lines.specs.Shapes.{Field}
use Rattle.json_lines.proofs.Inverting.{no_texts, none_is}
use Rattle.json_lines.proofs.reading.sets_of.Goals as goal

pub returns-then-is_empty : goal.returns-then-is_empty
returns-then-is_empty c =
    let none = none_is c.in_ok-sets.sets.len _ c.is_empty.ensures c.if-is_empty.true in
    inl (refl, λ sets h. no_texts (view c.args.asked.now.value.now) c.in_ok-sets.sets.items c.in_ok-sets.ensures (omega (arith, none)) sets h.0 (ap (λ (f : Field). f.1) h.1))
