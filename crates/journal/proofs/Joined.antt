-- Batches one after another.
use Rattle.std.proofs.Common.{◌≡◌, ℕ, List, [], ◌∷◌, ◌++◌, Option, Some, None, refl, sym, ◌∙◌, ap, append_assoc}
use Rattle.std.proofs.lemmas.List.{append-nil}
use Rattle.std.proofs.lemmas.Option.{same_Some}
use Rattle.records.specs.declared.record.Record.{Record}
use Rattle.records.specs.Reading.{batch}
use Rattle.records.specs.Checkpoints.{is_complete}
use Rattle.journal.specs.Records.{batches, both, current_bank, found}
use Rattle.gated.specs.Gated.{gated}

by_head : (o p q : Option (List Record)) (rs more : List Record) → both o p ≡ Some rs → ((y : List Record) → p ≡ Some y → q ≡ Some (y ++ more)) → both o q ≡ Some (rs ++ more)
by_head None p q rs more is rest = absurd cc
by_head (Some x) None q rs more is rest = absurd cc
by_head (Some x) (Some y) q rs more is rest =
    let all : x ++ y ≡ rs = same_Some (x ++ y) rs is in
    ap (both (Some x)) (rest y refl) ∙ ap (λ (l : List Record). Some l) (sym (append_assoc x y more) ∙ ap (λ (l : List Record). l ++ more) all)

pub batches-push : (bodies : List (List ℕ)) (body : List ℕ) (rs more : List Record) → batches bodies ≡ Some rs → batch body ≡ Some more → batches (bodies ++ body ∷ []) ≡ Some (rs ++ more)
batches-push [] body rs more is one =
    let none : [] ≡ rs = same_Some [] rs is in
    ap (λ (o : Option (List Record)). both o (Some [])) one ∙ ap (λ (l : List Record). Some l) (append-nil more) ∙ ap (λ (l : List Record). Some (l ++ more)) none
batches-push (b ∷ bodies) body rs more is one =
    by_head (batch b) (batches bodies) (batches (bodies ++ body ∷ [])) rs more is (λ y f. batches-push bodies body y more f one)

-- devices that nobody has written hold no record
pub found_nothing : found [] [] ≡ Some []
unfolding found gated current_bank is_complete
found_nothing = refl
