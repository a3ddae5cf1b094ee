use Rattle.std.proofs.Common.{refl, inl, arith}
use Rattle.serde_json.specs.View.{view}
use Rattle.json_lines.specs.Shapes.{fields_of}
use Rattle.json_lines.proofs.Inverting.{none_is, watch_nothing, watched_empty}
use Rattle.json_lines.proofs.reading.watch_of.Goals as goal

pub returns-in_default : goal.returns-in_default
returns-in_default c = inl (refl, watch_nothing (view c.args.from.now) (fields_of c.args.rest.now) c.in_default.ensures)

pub returns-then-is_empty : goal.returns-then-is_empty
returns-then-is_empty c = inl (refl, watched_empty (view c.args.from.now) (view c.in-Some.namespaces.now) (fields_of c.args.rest.now) c.in-Some.limit c.in_ok-namespaces.namespaces.items c.in-Some.ensures.3 c.in_ok-namespaces.ensures (let none = none_is c.in_ok-namespaces.namespaces.len _ c.is_empty.ensures c.if-is_empty.true in omega (arith, none)))
