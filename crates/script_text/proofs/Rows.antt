-- The lines of a list, with one more element.
use Rattle.std.proofs.Common.{◌≡◌, ℕ, ◌+◌, ◌<◌, List, [], ◌∷◌, ◌++◌, map, length, take, get_or, sym, ap, ◌∙◌, arith}
use Rattle.std.specs.List.{flat_map}
use Rattle.std.proofs.lemmas.Grind.{flat_map-append}
use Rattle.std.proofs.lemmas.List.{append-nil, append_assoc, take_more, map-append, length-map, length-take-le}
use Rattle.tuples.specs.declared.tuple.Tuple.{Tuple}
use Rattle.script_text.specs.PrintedTexts.{row_line, row_lines}

pub one_more : {A : Type 0} (f : A → List ℕ) (xs : List A) (i : ℕ) (x : A) → i < length xs → x ≡ get_or xs i x → flat_map f (take i xs) ++ f x ≡ flat_map f (take (i + 1) xs)
one_more {A} f xs i x h is =
    let more : take (i + 1) xs ≡ take i xs ++ x ∷ [] = take_more xs i x h ∙ ap (λ (y : A). take i xs ++ y ∷ []) (sym is) in
    sym (ap (flat_map f) more ∙ flat_map-append f (take i xs) (x ∷ []) ∙ ap (λ (l : List ℕ). flat_map f (take i xs) ++ l) (append-nil (f x)))

same_number : (n m : ℕ) (rows : List Tuple) → m ≡ n → flat_map (row_line n) rows ≡ flat_map (row_line m) rows
same_number n m rows e = ap (λ (k : ℕ). flat_map (row_line k) rows) (sym e)

rows_push : (n m : ℕ) (xs : List (List Tuple)) (y : List Tuple) → m ≡ n + length xs → row_lines n xs ++ flat_map (row_line m) y ≡ row_lines n (xs ++ y ∷ [])
rows_push n m [] y e = sym (append-nil (flat_map (row_line n) y) ∙ same_number n m y (omega arith))
rows_push n m (x ∷ xs) y e =
    append_assoc (flat_map (row_line n) x) (row_lines (n + 1) xs) (flat_map (row_line m) y) ∙ ap (λ (l : List ℕ). flat_map (row_line n) x ++ l) (rows_push (n + 1) m xs y (omega arith))

-- with the tuples of one more tupleset
pub one_set_more : {A : Type 0} (f : A → List Tuple) (xs : List A) (i number : ℕ) (x : A) (rows : List Tuple) → i < length xs → x ≡ get_or xs i x → rows ≡ f x → number ≡ i + 1
    → row_lines 1 (map f (take i xs)) ++ flat_map (row_line number) rows ≡ row_lines 1 (map f (take (i + 1) xs))
one_set_more {A} f xs i number x rows h is same counted =
    let long = length-map (take i xs) f in
    let more : take (i + 1) xs ≡ take i xs ++ x ∷ [] = take_more xs i x h ∙ ap (λ (y : A). take i xs ++ y ∷ []) (sym is) in
    let all : map f (take (i + 1) xs) ≡ map f (take i xs) ++ rows ∷ [] = ap (map f) more ∙ map-append f (take i xs) (x ∷ []) ∙ ap (λ (r : List Tuple). map f (take i xs) ++ r ∷ []) (sym same) in
    rows_push 1 number (map f (take i xs)) rows (omega (arith, long, length-take-le i xs (omega arith))) ∙ ap (row_lines 1) (sym all)
