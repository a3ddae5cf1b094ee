-- The events of one write more.
use Rattle.std.proofs.Common.{◌≡◌, ◌<◌, ◌+◌, ◌++◌, ◌∷◌, ◌∙◌, ℕ, List, [], length, filter, take, sym, ap, arith, append_assoc, add-zero, append-nil}
use Rattle.std.proofs.Math.ListN.{get_or}
use Rattle.std.proofs.lemmas.List.{take_more, length-take-le}
use Rattle.tuples.specs.declared.entry.Entry.{Entry}
use Rattle.tuples.specs.Versions.{placed}
use Rattle.tuples.specs.Watching.{Placed, events_from, is_among}

abbrev of_write : ℕ → List (List ℕ) → Entry → List Placed
of_write place names w = placed place (filter (is_among names) w.changes)

events-push : (place : ℕ) (names : List (List ℕ)) (xs : List Entry) (w : Entry)
    → events_from place names (xs ++ w ∷ []) ≡ events_from place names xs ++ placed (place + length xs) (filter (is_among names) w.changes)
events-push place names [] w = append-nil (of_write place names w) ∙ ap (λ (n : ℕ). of_write n names w) (sym (add-zero place))
events-push place names (x ∷ xs) w =
    let here = of_write place names x in
    let shifted : place + 1 + length xs ≡ place + length (x ∷ xs) = omega arith in
    ap (λ (l : List Placed). here ++ l) (events-push (place + 1) names xs w ∙ ap (λ (n : ℕ). events_from (place + 1) names xs ++ of_write n names w) shifted)
    ∙ sym (append_assoc here (events_from (place + 1) names xs) (of_write (place + length (x ∷ xs)) names w))

pub events-more : (place n : ℕ) (names : List (List ℕ)) (xs : List Entry) (i : ℕ) (w : Entry) → i < length xs → w ≡ get_or xs i w → n ≡ place + i
    → events_from place names (take (i + 1) xs) ≡ events_from place names (take i xs) ++ placed n (filter (is_among names) w.changes)
events-more place n names xs i w within there at =
    let more : take (i + 1) xs ≡ take i xs ++ w ∷ [] = take_more xs i w within ∙ ap (λ (x : Entry). take i xs ++ x ∷ []) (sym there) in
    let short : length (take i xs) ≡ i = length-take-le i xs (omega (arith, within)) in
    let place_is : place + length (take i xs) ≡ n = ap (λ (k : ℕ). place + k) short ∙ sym at in
    ap (events_from place names) more ∙ events-push place names (take i xs) w
    ∙ ap (λ (k : ℕ). events_from place names (take i xs) ++ of_write k names w) place_is
