-- Two ascending lists whose last tuples are taken one after another become one.
use Rattle.std.proofs.Common.{◌≡◌, ◌⊎◌, inl, inr, ⊎_elim, ◌<◌, ◌+◌, ◌-◌, ◌∷◌, ◌++◌, [], ℕ, suc, false, true≢false, List, Option, Some, None, refl, sym, ◌∙◌, ap, arith, subst, slice_get, length, append_assoc, Contains, ◌↔◌}
use Rattle.std.specs.Prelude.{IsSome, option_to_list, reverse}
use Rattle.std.proofs.lemmas.List.{reverse-append, get_or_at, length-append, append-nil}
use Rattle.std.proofs.lemmas.List.Elements.{Contains-append_left, Contains-append_right, Contains-append_cases}
use Rattle.std.proofs.lemmas.Option.{slice_get-get_or}
use Rattle.std.proofs.lemmas.Bool.{false≢true}
use Rattle.tuples.specs.declared.tuple.Tuple.{Tuple}
use Rattle.tuples.specs.Order.{tuple_lt}
use Rattle.tuples.specs.Reads.{AreAscending}
use Rattle.tuples.proofs.Ordered.{tuple_lt_total, rest_ascends}
use Rattle.decisions.specs.Merging.{IsMerged}
use Rattle.answer_flow.specs.Merges.{EndsBefore, TakesLast}

-- the last of a list
last_is : (xs : List Tuple) (t : Tuple) → slice_get (xs ++ t ∷ []) (length (xs ++ t ∷ []) - 1) ≡ Some t
last_is xs t =
    let len : length (xs ++ t ∷ []) ≡ length xs + 1 = length-append xs (t ∷ []) in
    slice_get-get_or (xs ++ t ∷ []) (length (xs ++ t ∷ []) - 1) t (omega (arith, len)) ∙ ap Some (get_or_at xs t [] t (length (xs ++ t ∷ []) - 1) (omega (arith, len)))

-- neither of two last tuples stands before the other: they are one, and are taken together
both : (left right left_now right_now : List Tuple) (l u t v : Tuple) → slice_get left (length left - 1) ≡ Some l → slice_get right (length right - 1) ≡ Some u
    → left ≡ left_now ++ t ∷ [] → right ≡ right_now ++ v ∷ [] → tuple_lt l u ≡ false → tuple_lt u l ≡ false → TakesLast left right (Some t) left_now right_now
both left right left_now right_now l u t v last_left last_right left_is right_is not_before not_behind =
    let first : Some t ≡ Some l = sym (last_is left_now t) ∙ (subst (λ (xs : List Tuple). slice_get xs (length xs - 1) ≡ Some l) left_is last_left) in
    let second : Some v ≡ Some u = sym (last_is right_now v) ∙ (subst (λ (xs : List Tuple). slice_get xs (length xs - 1) ≡ Some u) right_is last_right) in
    let one : l ≡ u = ⊎_elim (λ lt. absurd (true≢false (sym lt ∙ not_before))) (λ more. ⊎_elim (λ same. same) (λ gt. absurd (true≢false (sym gt ∙ not_behind))) more) (tuple_lt_total l u) in
    let same : v ≡ t = cc in
    inr (inr (left_is, right_is ∙ ap (λ (x : Tuple). right_now ++ x ∷ []) same))

pub same_last : (left right left_now right_now : List Tuple) (l u : Tuple) (a b : Option Tuple) → slice_get left (length left - 1) ≡ Some l → slice_get right (length right - 1) ≡ Some u
    → left ≡ left_now ++ option_to_list a → right ≡ right_now ++ option_to_list b → IsSome a → IsSome b → tuple_lt l u ≡ false → tuple_lt u l ≡ false
    → TakesLast left right a left_now right_now
same_last left right left_now right_now l u (Some t) (Some v) last_left last_right left_is right_is has_a has_b not_before not_behind = both left right left_now right_now l u t v last_left last_right left_is right_is not_before not_behind
same_last left right left_now right_now l u None b last_left last_right left_is right_is has_a has_b not_before not_behind = absurd (false≢true has_a)
same_last left right left_now right_now l u (Some t) None last_left last_right left_is right_is has_a has_b not_before not_behind = absurd (false≢true has_b)

-- what is taken makes them shorter
pub shorter : (left right : List Tuple) (t : Tuple) (left_now right_now : List Tuple) → TakesLast left right (Some t) left_now right_now → length left_now + length right_now < length left + length right
shorter left right t left_now right_now takes = ⊎_elim
    (λ (one : (left ≡ left_now ++ t ∷ []) × (right_now ≡ right) × EndsBefore right t). let l = ap length one.0 ∙ length-append left_now (t ∷ []) in let r = ap length one.1 in omega (arith, l, r))
    (λ more. ⊎_elim
    (λ (one : (right ≡ right_now ++ t ∷ []) × (left_now ≡ left) × EndsBefore left t). let l = ap length one.0 ∙ length-append right_now (t ∷ []) in let r = ap length one.1 in omega (arith, l, r))
    (λ (two : (left ≡ left_now ++ t ∷ []) × (right ≡ right_now ++ t ∷ [])). let l = ap length two.0 ∙ length-append left_now (t ∷ []) in let r = ap length two.1 ∙ length-append right_now (t ∷ []) in omega (arith, l, r))
    more)
    takes

-- one list after another ascends if both do, and the one ends before the other begins
joined : (xs : List Tuple) (t : Tuple) (m : List Tuple) → AreAscending xs → AreAscending (t ∷ m) → EndsBefore xs t → AreAscending (xs ++ t ∷ m)
joined [] t m asc more ends = more
joined (x ∷ []) t m asc more ends = (ends x refl, more)
joined (x ∷ y ∷ xs) t m asc more ends = (
  asc.0,
  joined (y ∷ xs) t m asc.1 more (λ u is.
      let here : length (y ∷ xs) - 1 ≡ length xs = omega arith in
      let there : length (x ∷ y ∷ xs) - 1 ≡ suc (length xs) = omega arith in
      ends u (subst (λ (n : ℕ). slice_get (x ∷ y ∷ xs) n ≡ Some u) (sym there) (subst (λ (n : ℕ). slice_get (y ∷ xs) n ≡ Some u) here is))),
)

-- a part of what ascends
front : (xs ys : List Tuple) → AreAscending (xs ++ ys) → AreAscending xs
front [] ys asc = tt
front (x ∷ []) ys asc = tt
front (x ∷ y ∷ xs) ys asc = (asc.0, front (y ∷ xs) ys asc.1)

behind : (xs ys : List Tuple) → AreAscending (xs ++ ys) → AreAscending ys
behind [] ys asc = asc
behind (x ∷ xs) ys asc = behind xs ys (rest_ascends x (xs ++ ys) asc)

-- a list whose last tuple goes to the front of another
moved : (a a_now m : List Tuple) (t : Tuple) → a ≡ a_now ++ t ∷ [] → a ++ m ≡ a_now ++ t ∷ m
moved a a_now m t is = ap (λ (xs : List Tuple). xs ++ m) is ∙ append_assoc a_now (t ∷ []) m

other_ascends : (a a_now b m : List Tuple) (t : Tuple) → a ≡ a_now ++ t ∷ [] → EndsBefore b t → AreAscending (a ++ m) → AreAscending (b ++ m) → AreAscending (b ++ t ∷ m)
other_ascends a a_now b m t is ends asc_a asc_b =
    joined b t m (front b m asc_b) (behind a_now (t ∷ m) (subst AreAscending (moved a a_now m t is) asc_a)) ends

-- one of two lists has it
abbrev Either : List Tuple → List Tuple → Tuple → Type 0
Either xs ys t = Contains xs t ⊎ Contains ys t

other_has : (a a_now b m : List Tuple) (t : Tuple) → a ≡ a_now ++ t ∷ [] → (z : Tuple) → Either (a ++ m) (b ++ m) z ↔ Either (a_now ++ t ∷ m) (b ++ t ∷ m) z
other_has a a_now b m t is z = (to, back)
  where
    to : Either (a ++ m) (b ++ m) z → Either (a_now ++ t ∷ m) (b ++ t ∷ m) z
    to (inl has) = inl (subst (λ (xs : List Tuple). Contains xs z) (moved a a_now m t is) has)
    to (inr has) = inr (⊎_elim (λ in_b. Contains-append_left b (t ∷ m) z in_b) (λ in_m. Contains-append_right b (t ∷ m) z (Contains-append_right (t ∷ []) m z in_m)) (Contains-append_cases b m z has))

    back : Either (a_now ++ t ∷ m) (b ++ t ∷ m) z → Either (a ++ m) (b ++ m) z
    back (inl has) = inl (subst (λ (xs : List Tuple). Contains xs z) (sym (moved a a_now m t is)) has)
    back (inr has) = ⊎_elim
        (λ in_b. inr (Contains-append_left b m z in_b))
        (λ further. ⊎_elim
        (λ only. inl (Contains-append_left a m z (subst (λ (xs : List Tuple). Contains xs z) (sym is) (Contains-append_right a_now (t ∷ []) z only))))
        (λ in_m. inr (Contains-append_right b m z in_m))
        (Contains-append_cases (t ∷ []) m z further))
        (Contains-append_cases b (t ∷ m) z has)

-- What is taken of two lists so far, from the last tuple to the first: with it each of them ascends, and together they have what both had.
pub record Merging (left_first right_first left right taken : List Tuple) : Type 0 where
  pub left_ascends : AreAscending left_first → AreAscending right_first → AreAscending (left ++ reverse taken)
  pub right_ascends : AreAscending left_first → AreAscending right_first → AreAscending (right ++ reverse taken)
  pub has : (t : Tuple) → Either left_first right_first t ↔ Either (left ++ reverse taken) (right ++ reverse taken) t

swapped : (xs ys : List Tuple) (t : Tuple) → Either xs ys t → Either ys xs t
swapped xs ys t (inl has) = inr has
swapped xs ys t (inr has) = inl has

taken_is : (taken : List Tuple) (t : Tuple) → t ∷ reverse taken ≡ reverse (taken ++ t ∷ [])
taken_is taken t = sym (reverse-append taken (t ∷ []))

pub begins : (left right : List Tuple) → Merging left right left right []
begins left right = record {
  left_ascends = λ l r. subst AreAscending (sym (append-nil left)) l;
  right_ascends = λ l r. subst AreAscending (sym (append-nil right)) r;
  has = λ t. (
    ⊎_elim (λ has. inl (Contains-append_left left [] t has)) (λ has. inr (Contains-append_left right [] t has)),
    ⊎_elim (λ has. inl (subst (λ (xs : List Tuple). Contains xs t) (append-nil left) has)) (λ has. inr (subst (λ (xs : List Tuple). Contains xs t) (append-nil right) has)),
  );
}

-- what one step keeps, over the tuples taken so far
record Kept (left right left_now right_now m : List Tuple) (t : Tuple) : Type 0 where
  pub left_ascends : AreAscending (left ++ m) → AreAscending (right ++ m) → AreAscending (left_now ++ t ∷ m)
  pub right_ascends : AreAscending (left ++ m) → AreAscending (right ++ m) → AreAscending (right_now ++ t ∷ m)
  pub has : (z : Tuple) → Either (left ++ m) (right ++ m) z ↔ Either (left_now ++ t ∷ m) (right_now ++ t ∷ m) z

keeps_left : (left right left_now m : List Tuple) (t : Tuple) → left ≡ left_now ++ t ∷ [] → EndsBefore right t → Kept left right left_now right m t
keeps_left left right left_now m t is before = record {
  left_ascends = λ l r. subst AreAscending (moved left left_now m t is) l;
  right_ascends = λ l r. other_ascends left left_now right m t is before l r;
  has = other_has left left_now right m t is;
}

keeps_right : (left right right_now m : List Tuple) (t : Tuple) → right ≡ right_now ++ t ∷ [] → EndsBefore left t → Kept left right left right_now m t
keeps_right left right right_now m t is before = record {
  left_ascends = λ l r. other_ascends right right_now left m t is before r l;
  right_ascends = λ l r. subst AreAscending (moved right right_now m t is) r;
  has = λ z. let one = other_has right right_now left m t is z in (
    λ has. swapped (right_now ++ t ∷ m) (left ++ t ∷ m) z (one.0 (swapped (left ++ m) (right ++ m) z has)),
    λ has. swapped (right ++ m) (left ++ m) z (one.1 (swapped (left ++ t ∷ m) (right_now ++ t ∷ m) z has)),
  );
}

keeps_both : (left right left_now right_now m : List Tuple) (t : Tuple) → left ≡ left_now ++ t ∷ [] → right ≡ right_now ++ t ∷ [] → Kept left right left_now right_now m t
keeps_both left right left_now right_now m t left_is right_is =
    let l = moved left left_now m t left_is in
    let r = moved right right_now m t right_is in
    record {
      left_ascends = λ a b. subst AreAscending l a;
      right_ascends = λ a b. subst AreAscending r b;
      has = λ z. (
        ⊎_elim (λ has. inl (subst (λ (xs : List Tuple). Contains xs z) l has)) (λ has. inr (subst (λ (xs : List Tuple). Contains xs z) r has)),
        ⊎_elim (λ has. inl (subst (λ (xs : List Tuple). Contains xs z) (sym l) has)) (λ has. inr (subst (λ (xs : List Tuple). Contains xs z) (sym r) has)),
      );
    }

keeps : (left right left_now right_now m : List Tuple) (t : Tuple) → TakesLast left right (Some t) left_now right_now → Kept left right left_now right_now m t
keeps left right left_now right_now m t (inl one) = subst (λ (xs : List Tuple). Kept left right left_now xs m t) (sym one.1) (keeps_left left right left_now m t one.0 one.2)
keeps left right left_now right_now m t (inr (inl one)) = subst (λ (xs : List Tuple). Kept left right xs right_now m t) (sym one.1) (keeps_right left right right_now m t one.0 one.2)
keeps left right left_now right_now m t (inr (inr two)) = keeps_both left right left_now right_now m t two.0 two.1

pub goes_on : (left_first right_first left right taken : List Tuple) (t : Tuple) (left_now right_now : List Tuple) → Merging left_first right_first left right taken
    → TakesLast left right (Some t) left_now right_now → Merging left_first right_first left_now right_now (taken ++ t ∷ [])
goes_on left_first right_first left right taken t left_now right_now old takes =
    let kept = keeps left right left_now right_now (reverse taken) t takes in
    let is = taken_is taken t in
    record {
      left_ascends = λ a b. subst (λ (m : List Tuple). AreAscending (left_now ++ m)) is (kept.left_ascends (old.left_ascends a b) (old.right_ascends a b));
      right_ascends = λ a b. subst (λ (m : List Tuple). AreAscending (right_now ++ m)) is (kept.right_ascends (old.left_ascends a b) (old.right_ascends a b));
      has = λ z. (
        λ has. subst (λ (m : List Tuple). Either (left_now ++ m) (right_now ++ m) z) is ((kept.has z).0 ((old.has z).0 has)),
        λ has. (old.has z).1 ((kept.has z).1 (subst (λ (m : List Tuple). Either (left_now ++ m) (right_now ++ m) z) (sym is) has)),
      );
    }

pub ends : (left right left_last right_last taken : List Tuple) → Merging left right left_last right_last taken → left_last ≡ [] → right_last ≡ []
    → AreAscending left → AreAscending right → IsMerged left right (reverse taken)
ends left right left_last right_last taken old no_left no_right asc_left asc_right =
    let same_left : left_last ++ reverse taken ≡ reverse taken = ap (λ (xs : List Tuple). xs ++ reverse taken) no_left in
    let same_right : right_last ++ reverse taken ≡ reverse taken = ap (λ (xs : List Tuple). xs ++ reverse taken) no_right in
    record {
      ascending = subst AreAscending same_left (old.left_ascends asc_left asc_right);
      has = λ t. (
        λ has. (old.has t).1 (inl (subst (λ (xs : List Tuple). Contains xs t) (sym same_left) has)),
        λ has. ⊎_elim (λ l. subst (λ (xs : List Tuple). Contains xs t) same_left l) (λ r. subst (λ (xs : List Tuple). Contains xs t) same_right r) ((old.has t).0 has),
      );
    }
