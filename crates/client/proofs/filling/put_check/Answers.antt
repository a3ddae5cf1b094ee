use Rattle.std.proofs.Common.{codes, ◌∷◌, ◌∙◌, ap, List, ℕ, ◌++◌, subst}
use Rattle.client.specs.Forms.{IsOpened, checks, fresh_words}
use Rattle.client.specs.Reading.{fresh_view}
use Rattle.client.proofs.filling.put_check.Goals as goal

pub returns : goal.returns
returns c =
    let f = fresh_view c.parse_freshness.result.0 in
    let tuple = c.in-Some.tuple.now in
    let opening = c.parse_freshness.ensures in (
      checks f tuple,
      (ap (λ (l : List (List ℕ)). codes "check" ∷ l) (opening.whole ∙ ap (λ (l : List (List ℕ)). fresh_words f ++ l) c.in-Some.ensures), subst (IsOpened f) c.in-Some.ensures opening.opened),
      c.in_ok-fill_check.ensures,
    )
