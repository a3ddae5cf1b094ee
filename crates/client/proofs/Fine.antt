-- What stands for a short form.
use Rattle.std.proofs.Common.{◌≡◌, List, [], ◌∷◌, map, codes, refl, ap, ◌∙◌}
use Rattle.serde_json.specs.Data.{Members, no_members, put, string}
use Rattle.json_lines.specs.Shapes.{list_with, members_with}
use Rattle.client.specs.Forms.{Asked, Changed, changed_json, short_fields, writes}
use Rattle.client.specs.Reading.{with_conditions}

pub write_members : (cs : List Changed) (asks : List Asked) (a b c d : Members) → a ≡ no_members → b ≡ put (codes "changes") (list_with (map changed_json cs)) a → c ≡ with_conditions asks b
    → d ≡ put (codes "op") (string (codes "write")) c → d ≡ members_with (short_fields (writes cs asks))
write_members cs asks a b c d ea eb ec ed = ed ∙ ap (put (codes "op") (string (codes "write"))) (ec ∙ ap (with_conditions asks) (eb ∙ ap (put (codes "changes") (list_with (map changed_json cs))) ea)) ∙ whole asks
  where
    whole : (asks : List Asked) → put (codes "op") (string (codes "write")) (with_conditions asks (put (codes "changes") (list_with (map changed_json cs)) no_members)) ≡ members_with (short_fields (writes cs asks))
    whole [] = refl
    whole (c ∷ asks) = refl
