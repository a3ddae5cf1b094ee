use Rattle.std.proofs.Common.{refl, inl}
use Rattle.serde_json.specs.View.{view}
use Rattle.json_lines.specs.Shapes.{fields_of}
use Rattle.json_lines.proofs.Inverting.{same_text, tuple_misshapen}
use Rattle.json_lines.proofs.reading.question_of.Goals as goal

pub returns-in_default-tuple_of : goal.returns-in_default-tuple_of
returns-in_default-tuple_of c = inl (
  refl,
  tuple_misshapen (fields_of c.args.members.now) c.in-Some.freshness c.in-Some.op.now (c.in-Some.asked.key.now, view c.in-Some.asked.value.now) c.in-Some.ensures (same_text _ _ _ c.eq-2.ensures c.if-eq-2.true) c.in_default-tuple_of.ensures,
)
