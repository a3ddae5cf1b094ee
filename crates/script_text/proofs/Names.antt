-- The flow that has a name.
use Rattle.std.proofs.Common.{◌≡◌, ℕ, ◌≤◌, Bool, List, [], length, get_or, Option, Some, None, MatchOption, slice_get, sym, ap, ◌∙◌, arith}
use Rattle.std.specs.List.{All, position, position_or_len}
use Rattle.std.specs.Str.{bytes_eq}
use Rattle.std.proofs.lemmas.Bool.Decides.{nat_tests}
use Rattle.std.proofs.lemmas.Bool.{both_ways}
use Rattle.std.proofs.lemmas.List.Elements.{All-from_get_or}
use Rattle.std.proofs.lemmas.List.Quantifiers.{position-Some}
use Rattle.std.proofs.lemmas.List.Sums.{fails_before_first}
use Rattle.std.proofs.lemmas.Option.{slice_get-get_or}
use Rattle.std.proofs.lemmas.Slice.Eq.{bytes_eq-Decides}

abbrev has : List ℕ → List ℕ → Bool
has name other = bytes_eq other name

missing : (name : List ℕ) (xs : List (List ℕ)) → position (has name) xs ≡ None → All (λ other. other ≡ name → ⊥) xs
missing name xs none =
    let all : length xs ≤ position_or_len (has name) xs = grind (arith, nat_tests) in
    All-from_get_or (λ other. other ≡ name → ⊥) xs [] (λ i lt same.
    both_ways (has name (get_or xs i [])) (fails_before_first (has name) xs i [] (omega arith)) ((bytes_eq-Decides (get_or xs i []) name).1 same))

found : (name : List ℕ) (xs : List (List ℕ)) (i : ℕ) → position (has name) xs ≡ Some i → slice_get xs i ≡ Some name
found name xs i is =
    let at = position-Some (has name) xs i [] is in
    slice_get-get_or xs i [] at.0 ∙ ap (λ (n : List ℕ). Some n) ((bytes_eq-Decides (get_or xs i []) name).0 at.1)

pub finds : (name : List ℕ) (xs : List (List ℕ)) (r : Option ℕ) → r ≡ position (λ other. bytes_eq other name) xs → MatchOption r (All (λ other. other ≡ name → ⊥) xs) (λ flow. slice_get xs flow ≡ Some name)
finds name xs None is = missing name xs (sym is)
finds name xs (Some i) is = found name xs i (sym is)
