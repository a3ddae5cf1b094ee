-- Room is asked for only if each call is to have some, and a part of what is printed needs no more than all of it.
use Rattle.std.proofs.Common.{◌≡◌, ◌≤◌, ◌<◌, ◌+◌, ◌++◌, ℕ, zero, suc, List, [], ◌∷◌, arith, get_or, length, take}
use Rattle.std.specs.List.{flat_map}
use Rattle.std.proofs.lemmas.List.{length-append}

pub some_each : (room each now : ℕ) → (0 < room → 0 < each) → now ≤ room + each → 0 < now → 0 < each
some_each zero each now before le some = omega (arith, le, some)
some_each (suc room) each now before le some = before (omega arith)

pub part_fits : {A : Type 0} (f : A → List ℕ) (xs : List A) (i : ℕ) (any : A) → i < length xs → length (flat_map f (take i xs)) + length (f (get_or xs i any)) ≤ length (flat_map f xs)
part_fits f [] i any lt = absurd (omega (arith, lt))
part_fits f (x ∷ xs) zero any lt = let all : length (f x ++ flat_map f xs) ≡ length (f x) + length (flat_map f xs) = length-append (f x) (flat_map f xs) in omega (arith, all)
part_fits f (x ∷ xs) (suc i) any lt =
    let all : length (f x ++ flat_map f xs) ≡ length (f x) + length (flat_map f xs) = length-append (f x) (flat_map f xs) in
    let part : length (f x ++ flat_map f (take i xs)) ≡ length (f x) + length (flat_map f (take i xs)) = length-append (f x) (flat_map f (take i xs)) in
    let rest = part_fits f xs i any (omega (arith, lt)) in
    omega (arith, all, part, rest)
