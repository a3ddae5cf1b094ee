-- What begins with what.
use Rattle.std.proofs.Common.{◌≡◌, ◌++◌, ◌⊎◌, ℕ, List, [], ◌∷◌, Bool, true, false, All, Any, Option, None, Some, IfSome, Result, length, take, drop, inl, inr, refl, sym, ap, subst, ◌∙◌, append_assoc, append-nil, arith}
use Rattle.std.specs.Cmp.Lexicographic.{pointwise}
use Rattle.std.specs.Io.KnownBytes.{IsAtEnd, Keeps, ReadConsumes, prepend_known}
use Rattle.std.proofs.KnownBytes.{prepend_known-nil}
use Rattle.std.proofs.lemmas.Bool.Decides.{Decides-eqb}
use Rattle.std.proofs.lemmas.Slice.Eq.{starts_is}
use lib.Dec.{eqb}
use Rattle.serving.specs.Protocols.{Begins, BeginsOther, MayBegin}

-- what `starts_with` tells
pub begins_some : (bytes mark : List ℕ) (r : Bool) → r ≡ pointwise eqb mark (take (length mark) bytes) → r ≡ true → Begins bytes mark
begins_some bytes mark r is true_is = (drop (length mark) bytes, (starts_is Decides-eqb bytes mark r is).0 true_is)

pub begins_none : (bytes mark : List ℕ) (r : Bool) → r ≡ pointwise eqb mark (take (length mark) bytes) → r ≡ false → Begins bytes mark → ⊥
begins_none bytes mark r is false_is (rest, whole) =
    let true_is : r ≡ true = (starts_is Decides-eqb bytes mark r is).1 rest whole in
    let impossible : true ≡ false = sym true_is ∙ false_is in cc

pub none_of : {X : Type 0} (P : X → Type 0) (xs : List X) → All (λ x. P x → ⊥) xs → Any P xs → ⊥
none_of P xs none (at, x, within, is, holds) = none at x within (subst P (sym is) holds)

-- of two beginnings of the same bytes one is a beginning of the other
comparable : (first rest mark more : List ℕ) → first ++ rest ≡ mark ++ more → Begins first mark ⊎ Begins mark first
comparable [] rest mark more same = inr (mark, refl)
comparable (x ∷ xs) rest [] more same = inl (x ∷ xs, refl)
comparable (x ∷ xs) rest (y ∷ ys) more same =
    let head : x ≡ y = cc in
    let tail : xs ++ rest ≡ ys ++ more = cc in
    elim (comparable xs rest ys more tail) [
      | inl (left, is) ↦ inl (left, ap (λ l. x ∷ l) is ∙ ap (λ z. z ∷ (ys ++ left)) head)
      | inr (left, is) ↦ inr (left, ap (λ l. y ∷ l) is ∙ ap (λ z. z ∷ (xs ++ left)) (sym head))
    ]

-- bytes go on as they began
extends : (first rest : List ℕ) → BeginsOther first → BeginsOther (first ++ rest)
extends first rest (at, mark, within, is, (more, whole)) =
    (at, mark, within, is, (more ++ rest, ap (λ l. l ++ rest) whole ∙ append_assoc mark more rest))

-- bytes whose beginning is none of another protocol, and may not become one, are none
differs : (first rest : List ℕ) → (BeginsOther first → ⊥) → (MayBegin first → ⊥) → BeginsOther (first ++ rest) → ⊥
differs first rest is_none may_not (at, mark, within, is, (more, whole)) =
    elim (comparable first rest mark more whole) [
      | inl begins ↦ is_none (at, mark, within, is, begins)
      | inr may ↦ may_not (at, mark, within, is, may)
    ]

pub is_other : (whole rest : Option (List ℕ)) (first : List ℕ) → Keeps whole (prepend_known first rest) → BeginsOther first → IfSome whole BeginsOther
is_other None rest first kept other = tt
is_other (Some xs) None first kept other = absurd kept
is_other (Some xs) (Some ys) first kept other = subst BeginsOther kept (extends first ys other)

pub is_own : (whole rest : Option (List ℕ)) (first : List ℕ) → Keeps whole (prepend_known first rest) → (BeginsOther first → ⊥) → (MayBegin first → ⊥) → IfSome whole (λ bytes. BeginsOther bytes → ⊥)
is_own None rest first kept is_none may_not = tt
is_own (Some xs) None first kept is_none may_not = absurd kept
is_own (Some xs) (Some ys) first kept is_none may_not = subst (λ bytes. BeginsOther bytes → ⊥) kept (differs first ys is_none may_not)

pub is_short : (whole rest : Option (List ℕ)) (first : List ℕ) → Keeps whole (prepend_known first rest) → IsAtEnd rest → (BeginsOther first → ⊥) → IfSome whole (λ bytes. BeginsOther bytes → ⊥)
is_short None rest first kept end is_none = tt
is_short (Some xs) None first kept end is_none = absurd kept
is_short (Some xs) (Some ys) first kept end is_none =
    subst (λ bytes. BeginsOther bytes → ⊥) (sym (append-nil first) ∙ ap (λ l. first ++ l) (sym end) ∙ kept) is_none

-- a reader that holds nothing reads as its input does
nil_of : (xs : List ℕ) → length xs ≡ 0 → xs ≡ []
nil_of [] none = refl
nil_of (x ∷ xs) none = absurd (omega arith)

pub passes : {E : Type 0} (old new : Option (List ℕ)) (first buf : List ℕ) (r : Result ℕ E) → length first ≡ 0 → ReadConsumes old new r buf → ReadConsumes (prepend_known first old) (prepend_known first new) r buf
passes old new first buf r none reads =
    subst (λ xs. ReadConsumes (prepend_known xs old) (prepend_known xs new) r buf) (sym (nil_of first none))
    (subst (λ known. ReadConsumes known (prepend_known [] new) r buf) (sym (prepend_known-nil old))
    (subst (λ known. ReadConsumes old known r buf) (sym (prepend_known-nil new)) reads))
