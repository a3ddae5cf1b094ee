-- The order of tuples is strict and total, and ties only a tuple with itself.
use Rattle.std.proofs.Common.{◌≡◌, ◌⊎◌, ℕ, true, false, List, refl, sym, ap, ◌∙◌, inl, inr, rules, [], ◌∷◌}
use Rattle.std.specs.Ordering.{ordering_reverse, is_eq, is_lt}
use Rattle.std.specs.declared.cmp.Ordering.{Ordering}
use Rattle.std.specs.declared.cmp.Ordering.TheVariants.{Less, Equal, Greater}
use Rattle.std.proofs.lemmas.Cmp.{tied_itself, nat_list_cmp_total}
use Rattle.tuples.specs.declared.object.Object.{Object}
use Rattle.tuples.specs.declared.user.User.{User}
use Rattle.tuples.specs.declared.tuple.Tuple.{Tuple}
use Rattle.tuples.specs.Order.{name_cmp, object_cmp, user_cmp, tuple_cmp, tuple_eq, tuple_lt}
use Rattle.tuples.specs.contracts.tuple.TupleOrd.TheImpl.{ghosts}
pub use Rattle.tuples.specs.ByUser.{object_total, userset_total, user_total, tuple_total}
use Rattle.tuples.specs.Reads.{AreAscending}
use Rattle.tuples.proofs.Same.{tuple_same}
use Rattle.tuples.proofs.Options.{same_tests}

-- the order that the type derives is that of tuples
pub same_order : (a b : Tuple) → ghosts.cmp a b ≡ tuple_cmp a b
same_order a b = search rules

pub same_tie : (a b : Tuple) → is_eq (ghosts.cmp a b) ≡ tuple_eq a b
unfolding tuple_eq
same_tie a b = ap is_eq (same_order a b)

-- equality

pub tuple_eq_refl : (a : Tuple) → tuple_eq a a ≡ true
unfolding tuple_eq
tuple_eq_refl a = ap is_eq (tied_itself tuple_total a)

pub tuple_eq_from_same : (a b : Tuple) → a ≡ b → tuple_eq a b ≡ true
tuple_eq_from_same a b e = ap (λ (t : Tuple). tuple_eq a t) (sym e) ∙ tuple_eq_refl a

pub tuple_eq_symm : (a b : Tuple) → tuple_eq a b ≡ tuple_eq b a
tuple_eq_symm a b = same_tests (tuple_eq a b) (tuple_eq b a) (λ h. tuple_eq_from_same b a (sym (tuple_same a b h))) (λ h. tuple_eq_from_same a b (sym (tuple_same b a h)))

pub name_tied : (a : List ℕ) → is_eq (name_cmp a a) ≡ true
name_tied a = ap is_eq (tied_itself nat_list_cmp_total a)

pub object_tied : (a : Object) → is_eq (object_cmp a a) ≡ true
object_tied a = ap is_eq (tied_itself object_total a)

pub user_tied : (a : User) → is_eq (user_cmp a a) ≡ true
user_tied a = ap is_eq (tied_itself user_total a)

-- the strict order

pub tuple_lt_irrefl : (a : Tuple) → tuple_lt a a ≡ false
unfolding tuple_lt
tuple_lt_irrefl a = ap is_lt (tied_itself tuple_total a)

less_from_lt : (o : Ordering) → is_lt o ≡ true → o ≡ Less
less_from_lt Less h = refl
less_from_lt Equal h = absurd cc
less_from_lt Greater h = absurd cc

pub tuple_lt_trans : (a b d : Tuple) → tuple_lt a b ≡ true → tuple_lt b d ≡ true → tuple_lt a d ≡ true
unfolding tuple_lt
tuple_lt_trans a b d h k = ap is_lt (tuple_total.trans a b d (less_from_lt (tuple_cmp a b) h) (less_from_lt (tuple_cmp b d) k))

pub tuple_lt_asymm : (a b : Tuple) → tuple_lt a b ≡ true → tuple_lt b a ≡ false
unfolding tuple_lt
tuple_lt_asymm a b h = ap is_lt (tuple_total.antisymm b a ∙ ap ordering_reverse (less_from_lt (tuple_cmp a b) h))

pub tuple_lt_apart : (a b : Tuple) → tuple_lt a b ≡ true → tuple_eq a b ≡ false
unfolding tuple_lt tuple_eq
tuple_lt_apart a b h = ap is_eq (less_from_lt (tuple_cmp a b) h)

which : (o p : Ordering) → p ≡ ordering_reverse o → (is_lt o ≡ true) ⊎ ((is_eq o ≡ true) ⊎ (is_lt p ≡ true))
which Less p e = inl refl
which Equal p e = inr (inl refl)
which Greater p e = inr (inr (ap is_lt e))

which_tuple : (a b : Tuple) → (tuple_lt a b ≡ true) ⊎ ((tuple_eq a b ≡ true) ⊎ (tuple_lt b a ≡ true))
unfolding tuple_lt tuple_eq
which_tuple a b = which (tuple_cmp a b) (tuple_cmp b a) (tuple_total.antisymm b a)

by_case : (a b : Tuple) → (tuple_lt a b ≡ true) ⊎ ((tuple_eq a b ≡ true) ⊎ (tuple_lt b a ≡ true)) → (tuple_lt a b ≡ true) ⊎ ((a ≡ b) ⊎ (tuple_lt b a ≡ true))
by_case a b (inl h) = inl h
by_case a b (inr (inl h)) = inr (inl (tuple_same a b h))
by_case a b (inr (inr h)) = inr (inr h)

-- of two tuples one stands first, or they are one
pub tuple_lt_total : (a b : Tuple) → (tuple_lt a b ≡ true) ⊎ ((a ≡ b) ⊎ (tuple_lt b a ≡ true))
tuple_lt_total a b = by_case a b (which_tuple a b)

-- the list without its first tuple ascends too
pub rest_ascends : (t : Tuple) (ts : List Tuple) → AreAscending (t ∷ ts) → AreAscending ts
rest_ascends t [] asc = tt
rest_ascends t (u ∷ ts) asc = asc.1
