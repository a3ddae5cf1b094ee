use Rattle.std.proofs.Common.{◌≡◌, ◌≤◌, map, take, length, vec_len, vec_capacity}
use Rattle.serde_json.specs.Data.{string}
use Rattle.serde_json.specs.View.{view}
use Rattle.json_lines.proofs.lists.texts_of.Given as goal

abbrev pub invariant-loop-item : goal.invariant-loop-item
invariant-loop-item l = (map view (take l.item-index l.items) ≡ map (λ t. string t.now) l.texts.items) × (vec_len l.texts ≡ l.item-index) × (length l.items ≤ vec_capacity l.texts)
