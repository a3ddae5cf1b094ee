use Rattle.std.proofs.Common.{refl, sym, ap, ◌∙◌, inl, arith}
use Rattle.serde_json.specs.Data.{string}
use Rattle.serde_json.specs.View.{view}
use Rattle.json_lines.specs.Shapes.{list_with}
use Rattle.json_lines.proofs.Values.{map_texts, no_list, whole_list}
use Rattle.json_lines.proofs.lists.texts_of.Goals as goal

pub returns-in_default-text_of : goal.returns-in_default-text_of
returns-in_default-text_of c = inl (refl, no_list string (view c.args.value.now) c.in-Some.items.now c.loop-item.item-index c.item-item.result c.in-Some.ensures c.loop-item-test.true c.item-item.is c.in_default-text_of.ensures)

pub returns : goal.returns
returns c = whole_list (λ t. string t.now) (view c.args.value.now) c.in-Some.items.now c.loop-item.texts.items c.loop-item.item-index c.in-Some.ensures (omega arith) c.loop-item.invariant.0 ∙ ap (λ ds. list_with ds) (sym (map_texts c.loop-item.texts.items))
