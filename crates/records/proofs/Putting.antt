-- Putting one text after another.
use Rattle.std.proofs.Common.{◌≡◌, ◌≤◌, ◌<◌, ◌+◌, ℕ, List, [], ◌++◌, length, take, get_or, Result, Ok, Err, sym, ap, subst, ◌∙◌, append_assoc, arith}
use Rattle.std.specs.Prelude.{vec_capacity}
use Rattle.std.specs.Global.{Vec}
use Rattle.std.specs.List.{flat_map}
use Rattle.std.proofs.lemmas.List.{append-nil, length-append}
use Rattle.std.proofs.lemmas.List.Folds.{length-flat_map-take}
use Rattle.records.specs.Putting.{Puts}

-- a text was put
abbrev pub HasPut : Vec ℕ → Vec ℕ → List ℕ → Type 0
HasPut old new text = (new.items ≡ old.items ++ text) × (vec_capacity old ≤ vec_capacity new)

pub put_more : {T E : Type 0} (a b c : Vec ℕ) (x y : List ℕ) (r : Result T E) → HasPut a b x → Puts b c y r → Puts a c (x ++ y) r
put_more a b c x y (Ok u) p q = (q.0 ∙ ap (λ (t : List ℕ). t ++ y) p.0 ∙ append_assoc a.items x y, omega (arith, p.1, q.1))
put_more a b c x y (Err e) p q = (
  (x ++ q.0.0, q.0.1 ∙ ap (λ (t : List ℕ). t ++ q.0.0) p.0 ∙ append_assoc a.items x q.0.0),
  omega (arith, p.1, q.1, ap length p.0, length-append a.items x, length-append x y),
  omega (arith, p.1, q.2),
)

-- memory was refused, for lack of room for the text
abbrev pub Stops : Vec ℕ → Vec ℕ → List ℕ → Type 0
Stops old new text = ((more : List ℕ) × (new.items ≡ old.items ++ more)) × (vec_capacity old < length old.items + length text) × (vec_capacity old ≤ vec_capacity new)

-- nothing was put yet
pub put_none : (a : Vec ℕ) → HasPut a a []
put_none a = (sym (append-nil a.items), omega arith)

pub has_more : (a b c : Vec ℕ) (x y : List ℕ) → HasPut a b x → HasPut b c y → HasPut a c (x ++ y)
has_more a b c x y p q = (q.0 ∙ ap (λ (t : List ℕ). t ++ y) p.0 ∙ append_assoc a.items x y, omega (arith, p.1, q.1))

pub stop_after : (a b c : Vec ℕ) (x y : List ℕ) → HasPut a b x → Stops b c y → Stops a c (x ++ y)
stop_after a b c x y p q = (
  (x ++ q.0.0, q.0.1 ∙ ap (λ (t : List ℕ). t ++ q.0.0) p.0 ∙ append_assoc a.items x q.0.0),
  omega (arith, p.1, q.1, ap length p.0, length-append a.items x, length-append x y),
  omega (arith, p.1, q.2),
)

-- one of a list was not put
pub stop_at : {A : Type 0} (f : A → List ℕ) (a b c : Vec ℕ) (xs : List A) (i : ℕ) (d : A) → i < length xs → HasPut a b (flat_map f (take i xs)) → Stops b c (f (get_or xs i d)) → Stops a c (flat_map f xs)
stop_at f a b c xs i d lt p q =
    let here = stop_after a b c (flat_map f (take i xs)) (f (get_or xs i d)) p q in
    let most = length-flat_map-take f xs i d lt in
    (here.0, omega (arith, here.1, most, length-append (flat_map f (take i xs)) (f (get_or xs i d))), here.2)

pub stop_in : {A : Type 0} (f : A → List ℕ) (a b c : Vec ℕ) (xs : List A) (i : ℕ) (x : A) → i < length xs → x ≡ get_or xs i x → HasPut a b (flat_map f (take i xs)) → Stops b c (f x) → Stops a c (flat_map f xs)
stop_in f a b c xs i x lt is p q = stop_at f a b c xs i x lt p (subst (λ y. Stops b c (f y)) is q)
