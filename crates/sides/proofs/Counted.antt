-- Just so many writes.
use Rattle.std.proofs.Common.{◌≡◌, ◌≤◌, ℕ, List, [], ◌++◌, length, sym, ◌∙◌, ap, arith, length-append}
use Rattle.std.proofs.lemmas.List.{append-nil, nil_from_length}
use Rattle.sides.proofs.Words.{Entry}

-- and if the list is that long there are none
pub none_behind : (place : ℕ) (seen more : List Entry) → place ≡ length (seen ++ more) → place ≤ length seen → seen ≡ seen ++ more
none_behind place seen more counted le =
    let whole = length-append seen more in
    let none : more ≡ [] = nil_from_length more (omega (arith, counted, whole, le)) in
    sym (ap (λ (l : List Entry). seen ++ l) none ∙ append-nil seen)
