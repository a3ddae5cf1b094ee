-- Small sets of tuples, computed: a chain of usersets, and a ring.
use Rattle.std.proofs.Common.{◌≡◌, ◌⊎◌, inl, inr, ⊎_elim, ℕ, Bool, true, false, true≢false, List, [], ◌∷◌, refl, sym, subst, ◌∙◌}
use Rattle.std.proofs.lemmas.Bool.{or_cases}
use Rattle.std.specs.Ordering.{is_eq}
use Rattle.tuples.specs.declared.object.Userset.{Userset}
use Rattle.tuples.specs.declared.tuple.Tuple.{Tuple}
use Rattle.tuples.specs.declared.user.User.TheVariants.{Id, Set}
use Rattle.tuples.specs.Changes.{has_tuple}
use Rattle.tuples.specs.Checking.{IsChain, IsMember, IsReached, end_of_chain, holding}
use Rattle.tuples.specs.Order.{tuple_eq, userset_cmp}
use Rattle.tuples.specs.Walking.{meets_check}
use Rattle.tuples.proofs.Same.{userset_same}

-- g:x#m, for a byte x
abbrev userset : ℕ → Userset
userset x = record { object = record { namespace = 103 ∷ []; id = x ∷ [] }; relation = 109 ∷ [] }

-- a holds b, and b holds the user 1
abbrev chain : Tuple → Bool
chain t = has_tuple t (holding (userset 97) (Set (userset 98)) ∷ holding (userset 98) (Id (49 ∷ [])) ∷ [])

member_through_another : IsMember chain (Id (49 ∷ [])) (userset 97)
unfolding tuple_eq
member_through_another = record { through = userset 98 ∷ []; chain = (refl, tt); last = refl }

member_at_once : IsMember chain (Id (49 ∷ [])) (userset 98)
unfolding tuple_eq
member_at_once = record { through = []; chain = tt; last = refl }

-- a userset is a user too
userset_as_member : IsMember chain (Set (userset 98)) (userset 97)
unfolding tuple_eq
userset_as_member = record { through = []; chain = tt; last = refl }

reached_in_one : IsReached chain (userset 97) (userset 98)
unfolding tuple_eq
reached_in_one = record { through = userset 98 ∷ []; chain = (refl, tt); last = refl }

reaches_itself : IsReached chain (userset 97) (userset 97)
reaches_itself = record { through = []; chain = tt; last = refl }

-- a and b hold each other, and nobody else
abbrev ring : Tuple → Bool
ring t = has_tuple t (holding (userset 97) (Set (userset 98)) ∷ holding (userset 98) (Set (userset 97)) ∷ [])

round_the_ring : IsReached ring (userset 97) (userset 97)
unfolding tuple_eq
round_the_ring = record { through = userset 98 ∷ userset 97 ∷ []; chain = (refl, (refl, tt)); last = refl }

abbrev IsInRing : Userset → Type 0
IsInRing x = (x ≡ userset 97) ⊎ (x ≡ userset 98)

-- what one of the two holds is one of the two
stays_in_ring : (x y : Userset) → IsInRing x → ring (holding x (Set y)) ≡ true → IsInRing y
unfolding tuple_eq
stays_in_ring x y (inl a) is = inr (from_a (subst (λ z. ring (holding z (Set y)) ≡ true) a is))
  where
    from_a : ring (holding (userset 97) (Set y)) ≡ true → y ≡ userset 98
    from_a h = ⊎_elim (λ e. userset_same y (userset 98) e) (λ e. absurd (true≢false (sym e))) (or_cases (is_eq (userset_cmp y (userset 98))) false h)
stays_in_ring x y (inr b) is = inl (from_b (subst (λ z. ring (holding z (Set y)) ≡ true) b is))
  where
    from_b : ring (holding (userset 98) (Set y)) ≡ true → y ≡ userset 97
    from_b h = ⊎_elim (λ e. userset_same y (userset 97) e) (λ e. absurd (true≢false (sym e))) (or_cases (is_eq (userset_cmp y (userset 97))) false h)

ends_in_ring : (x : Userset) (ys : List Userset) → IsInRing x → IsChain ring x ys → IsInRing (end_of_chain x ys)
ends_in_ring x [] here there = here
ends_in_ring x (y ∷ ys) here there = ends_in_ring y ys (stays_in_ring x y here there.0) there.1

no_user_in_ring : (x : Userset) → IsInRing x → ring (holding x (Id (49 ∷ []))) ≡ false
unfolding tuple_eq
no_user_in_ring x (inl a) = subst (λ z. ring (holding z (Id (49 ∷ []))) ≡ false) (sym a) refl
no_user_in_ring x (inr b) = subst (λ z. ring (holding z (Id (49 ∷ []))) ≡ false) (sym b) refl

no_member_of_a_ring : IsMember ring (Id (49 ∷ [])) (userset 97) → ⊥
no_member_of_a_ring m = true≢false (sym m.last ∙ no_user_in_ring (end_of_chain (userset 97) m.through) (ends_in_ring (userset 97) m.through (inl refl) m.chain))

-- a check of the user 1 asks of a for the user's own tuple and for that of b, for no other user, and for nothing of b
asks_for_the_user : meets_check (userset 97) (Id (49 ∷ [])) (holding (userset 97) (Id (49 ∷ []))) ≡ true
asks_for_the_user = refl

asks_for_usersets : meets_check (userset 97) (Id (49 ∷ [])) (holding (userset 97) (Set (userset 98))) ≡ true
asks_for_usersets = refl

asks_for_no_other_user : meets_check (userset 97) (Id (49 ∷ [])) (holding (userset 97) (Id (50 ∷ []))) ≡ false
asks_for_no_other_user = refl

asks_of_one_userset : meets_check (userset 97) (Id (49 ∷ [])) (holding (userset 98) (Id (49 ∷ []))) ≡ false
asks_of_one_userset = refl
