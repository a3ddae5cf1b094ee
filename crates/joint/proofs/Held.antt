-- What is held after a value is put, and after parts are dealt or joined.
use Rattle.std.proofs.Common.{◌≡◌, ◌⊎◌, inl, inr, ⊎_elim, ℕ, Bool, List, [], ◌∷◌, ◌++◌, take, drop, Option, Some, None, Contains, refl, sym, ap, ◌∙◌, subst, cond, arith}
use Rattle.std.proofs.lemmas.Bool.{eq-eqb, ne_eqb}
use Rattle.std.proofs.lemmas.List.Elements.{Contains-append_cases, Contains-append_left, Contains-append_right, Contains-push_cases}
use Rattle.joint.specs.Held.{AreApart, IsOf, in_place, numbered, put, under, with_value}

-- nothing has no element, and a list of one has that
pub none_has : {A : Type 0} (a : A) → Contains [] a → ⊥
none_has a has = omega (arith, has.1)

pub only_one : {A : Type 0} (x a : A) → Contains (x ∷ []) a → x ≡ a
only_one x a has = ⊎_elim (λ none. absurd (none_has a none)) (λ is. is) (Contains-push_cases [] x a has)

pub only_here : {A : Type 0} (x : A) → Contains (x ∷ []) x
only_here x = (0, omega arith, refl)

-- the first, or one of the others
pub first_or_more : {A : Type 0} (x : A) (more : List A) (a : A) → Contains (x ∷ more) a → (x ≡ a) ⊎ Contains more a
first_or_more x more a has = ⊎_elim (λ one. inl (only_one x a one)) (λ rest. inr rest) (Contains-append_cases (x ∷ []) more a has)

-- under its number stands the value, and under another what stood there
pub value_here : {A : Type 0} (k : ℕ) (a : A) (all : ℕ → Option A) → with_value k (Some a) all k ≡ Some a
value_here k a all = ap (λ (c : Bool). cond c (Some a) (all k)) (eq-eqb k k refl)

pub value_else : {A : Type 0} (k : ℕ) (new : Option A) (all : ℕ → Option A) (n : ℕ) → (n ≡ k → ⊥) → with_value k new all n ≡ all n
value_else k None all n apart = refl
value_else k (Some a) all n apart = ap (λ (c : Bool). cond c (Some a) (all n)) (ne_eqb n k apart)

-- what stands in place of a value has its number
pub number_of : {A : Type 0} (held : List (ℕ × A)) (new : Option A) (n : ℕ) (a : A) → Contains (in_place held new) (n, a) → (b : A) × Contains held (n, b)
number_of [] new n a has = (a, has)
number_of (x ∷ []) None n a has = (a, has)
number_of {A} (x ∷ []) (Some b) n a has =
    let is = only_one (x.0, b) (n, a) has in
    (x.1, subst (λ (m : ℕ). Contains (x ∷ []) (m, x.1)) (ap (λ (y : ℕ × A). y.0) is) (only_here x))
number_of (x ∷ y ∷ more) new n a has = (a, has)

-- what is put stands there
pub put_here : {A : Type 0} (held : List (ℕ × A)) (new : Option A) (all : ℕ → Option A) → IsOf held all → IsOf (in_place held new) (put held new all)
put_here [] new all is n a has = absurd (none_has (n, a) has)
put_here (x ∷ []) None all is n a has = is n a has
put_here {A} (x ∷ []) (Some b) all is n a has =
    let both = only_one (x.0, b) (n, a) has in
    ap (λ (c : Bool). cond c (Some b) (all n)) (eq-eqb n x.0 (sym (ap (λ (y : ℕ × A). y.0) both))) ∙ ap (λ (y : ℕ × A). Some y.1) both
put_here (x ∷ y ∷ more) new all is n a has = is n a has

-- and all else as it was
pub put_else : {A : Type 0} (held : List (ℕ × A)) (new : Option A) (all : ℕ → Option A) (n : ℕ) → ((a : A) → Contains held (n, a) → ⊥) → put held new all n ≡ all n
put_else [] new all n apart = refl
put_else (x ∷ []) new all n apart = value_else x.0 new all n (λ same. apart x.1 (subst (λ (m : ℕ). Contains (x ∷ []) (m, x.1)) (sym same) (only_here x)))
put_else (x ∷ y ∷ more) new all n apart = refl

-- new values are held under their number
pub numbered_here : {A : Type 0} (k : ℕ) (new : Option A) (all : ℕ → Option A) → IsOf (numbered k new) (with_value k new all)
numbered_here k None all n a has = absurd (none_has (n, a) has)
numbered_here {A} k (Some b) all n a has =
    let both = only_one (k, b) (n, a) has in
    ap (λ (m : ℕ). with_value k (Some b) all m) (sym (ap (λ (y : ℕ × A). y.0) both)) ∙ value_here k b all ∙ ap (λ (y : ℕ × A). Some y.1) both

pub its_number : {A : Type 0} (k : ℕ) (new : Option A) (n : ℕ) (a : A) → Contains (numbered k new) (n, a) → n ≡ k
its_number k None n a has = absurd (none_has (n, a) has)
its_number {A} k (Some b) n a has = sym (ap (λ (y : ℕ × A). y.0) (only_one (k, b) (n, a) has))

-- a list in which no number stands twice is of the values that it names
pub found : {A : Type 0} (held : List (ℕ × A)) → AreApart held → IsOf held (under held)
unfolding under AreApart
found [] apart n a has = absurd (none_has (n, a) has)
found {A} (x ∷ more) apart n a has = ⊎_elim
    (λ first. ap (λ (c : Bool). cond c (Some x.1) (under more n)) (eq-eqb n x.0 (sym (ap (λ (y : ℕ × A). y.0) first))) ∙ ap (λ (y : ℕ × A). Some y.1) first)
    (λ later. ap (λ (c : Bool). cond c (Some x.1) (under more n)) (ne_eqb n x.0 (λ same. apart.0 a (subst (λ (m : ℕ). Contains more (m, a)) same later))) ∙ found more apart.1 n a later)
    (first_or_more x more (n, a) has)

pub none_apart : (A : Type 0) → AreApart {A = A} []
unfolding AreApart
none_apart A = tt

-- what is held goes on to be so, with a value in place
pub apart_in_place : {A : Type 0} (held : List (ℕ × A)) (new : Option A) → AreApart held → AreApart (in_place held new)
unfolding AreApart
apart_in_place [] new apart = apart
apart_in_place (x ∷ []) None apart = apart
apart_in_place (x ∷ []) (Some b) apart = ((λ a has. absurd (none_has (x.0, a) has)), tt)
apart_in_place (x ∷ y ∷ more) new apart = apart

-- two lists of which none has a number of the other
pub apart_both : {A : Type 0} (held more : List (ℕ × A)) → AreApart held → AreApart more → ((n : ℕ) (a b : A) → Contains held (n, a) → Contains more (n, b) → ⊥) → AreApart (held ++ more)
unfolding AreApart
apart_both [] more one two none = two
apart_both {A} (x ∷ rest) more one two none = (
  (λ a has. ⊎_elim (λ here. one.0 a here) (λ there. none x.0 x.1 a (Contains-append_left (x ∷ []) rest x (only_here x)) there) (Contains-append_cases rest more (x.0, a) has)),
  apart_both rest more one.1 two (λ n a b here there. none n a b (Contains-append_right (x ∷ []) rest (n, a) here) there),
)

-- the first, and the rest
pub apart_first : {A : Type 0} (held : List (ℕ × A)) → AreApart held → AreApart (take 1 held)
unfolding AreApart
apart_first [] apart = tt
apart_first (x ∷ more) apart = ((λ a has. absurd (none_has (x.0, a) has)), tt)

pub apart_rest : {A : Type 0} (held : List (ℕ × A)) → AreApart held → AreApart (drop 1 held)
unfolding AreApart
apart_rest [] apart = tt
apart_rest (x ∷ more) apart = apart.1

pub of_first : {A : Type 0} (held : List A) (a : A) → Contains (take 1 held) a → Contains held a
of_first [] a has = has
of_first (x ∷ more) a has = Contains-append_left (x ∷ []) more a has

pub of_rest : {A : Type 0} (held : List A) (a : A) → Contains (drop 1 held) a → Contains held a
of_rest [] a has = has
of_rest (x ∷ more) a has = Contains-append_right (x ∷ []) more a has

pub not_both : {A : Type 0} (held : List (ℕ × A)) → AreApart held → (n : ℕ) (a b : A) → Contains (drop 1 held) (n, a) → Contains (take 1 held) (n, b) → ⊥
unfolding AreApart
not_both [] apart n a b rest first = none_has (n, b) first
not_both {A} (x ∷ more) apart n a b rest first = apart.0 a (subst (λ (m : ℕ). Contains more (m, a)) (sym (ap (λ (y : ℕ × A). y.0) (only_one x (n, b) first))) rest)
