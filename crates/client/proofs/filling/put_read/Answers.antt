use Rattle.std.proofs.Common.{codes, ◌∷◌, ap, List, ℕ}
use Rattle.client.specs.Forms.{reads}
use Rattle.client.specs.Reading.{fresh_view, texts}
use Rattle.client.proofs.Cuts.{some_texts}
use Rattle.client.proofs.filling.put_read.Goals as goal

pub returns : goal.returns
returns c =
    let f = fresh_view c.parse_freshness.result.0 in
    let sets = c.parse_freshness.result.1.now in
    let opening = c.parse_freshness.ensures in (
      reads f (texts sets),
      (ap (λ (l : List (List ℕ)). codes "read" ∷ l) opening.whole, (opening.opened, some_texts sets c.is_empty.result c.is_empty.ensures c.if-is_empty.false)),
      c.in_ok-fill_read.ensures,
    )
