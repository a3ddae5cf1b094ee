use Rattle.std.proofs.Common.{codes, ◌∷◌, ap, List, ℕ, subst, ◌≡◌}
use Rattle.json_lines.specs.Shapes.{members_with, texts_json, watch_with}
use Rattle.serde_json.specs.Data.{no_members}
use Rattle.serde_json.specs.View.{members_view}
use Rattle.client.specs.Forms.{watches}
use Rattle.client.specs.Reading.{texts}
use Rattle.client.proofs.Cuts.{some_texts}
use Rattle.client.proofs.filling.put_watch.Goals as goal

pub returns : goal.returns
returns c =
    let from = c.in-Some.from.now in
    let limit = c.in-Some.limit.now in
    let names = c.in-Some.namespaces.now in (
      watches from limit (texts names),
      (ap (λ (l : List (List ℕ)). codes "watch" ∷ l) c.in-Some.ensures, (c.in-Some-parse_limit.ensures.0, some_texts names c.is_empty.result c.is_empty.ensures c.if-is_empty.false)),
      subst (λ (n : ℕ). members_view c.args.object.now.entries ≡ no_members → members_view c.fill_watch.new.object.entries ≡ members_with (watch_with from n (texts_json (texts names)))) c.in-Some-parse_limit.ensures.1 c.in_ok-fill_watch.ensures,
    )
