-- What is put back where it was taken out stands in its place.
use Rattle.std.proofs.Common.{◌≡◌, ◌<◌, ◌+◌, ◌++◌, ◌∙◌, ℕ, zero, suc, List, [], ◌∷◌, length, set, take, drop, refl, ap, append-nil, arith}
use Rattle.std.proofs.lemmas.List.{drop_all, take_all}
use Rattle.std.specs.List.{insert, remove}

pub put_back : {X : Type 0} (xs : List X) (i : ℕ) (x : X) → i < length xs → insert (remove xs i) i x ≡ set xs i x
put_back [] i x within = absurd (omega (arith, within))
put_back (y ∷ ys) zero x within = refl
put_back (y ∷ ys) (suc i) x within = ap (λ zs. y ∷ zs) (put_back ys i x (omega (arith, within)))

-- a `Vec` that was lent as a slice of as many has what the slice has
pub whole : {X : Type 0} (len : ℕ) (given had : List X) → len ≡ length had → length given ≡ length had → take len (given ++ drop (length given) had) ≡ given
whole len given had is many =
    let none : drop (length given) had ≡ [] = drop_all (length given) had (omega (arith, many)) in
    ap (λ (xs : List _). take len (given ++ xs)) none ∙ ap (take len) (append-nil given) ∙ take_all len given (omega (arith, is, many))
