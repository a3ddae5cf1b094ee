-- Usersets that can be reached from one another, and who is a member of them.
use Rattle.std.proofs.Common.{◌≡◌, Bool, true, false, true≢false, List, [], ◌∷◌, ◌++◌, Contains, refl, sym, ◌∙◌, subst}
use Rattle.tuples.specs.declared.object.Userset.{Userset}
use Rattle.tuples.specs.declared.tuple.Tuple.{Tuple}
use Rattle.tuples.specs.declared.user.User.{User}
use Rattle.tuples.specs.declared.user.User.TheVariants.{Set}
use Rattle.tuples.specs.Checking.{IsChain, IsMember, IsReached, end_of_chain, holding}

end_of_push : (x : Userset) (ys : List Userset) (z : Userset) → end_of_chain x (ys ++ z ∷ []) ≡ z
end_of_push x [] z = refl
end_of_push x (y ∷ ys) z = end_of_push y ys z

chain_push : (there : Tuple → Bool) (x : Userset) (ys : List Userset) (z : Userset) → IsChain there x ys → there (holding (end_of_chain x ys) (Set z)) ≡ true → IsChain there x (ys ++ z ∷ [])
chain_push there x [] z chain is = (is, tt)
chain_push there x (y ∷ ys) z chain is = (chain.0, chain_push there y ys z chain.1 is)

-- a userset is reached from itself
pub reaches_itself : (there : Tuple → Bool) (x : Userset) → IsReached there x x
reaches_itself there x = record { through = []; chain = tt; last = refl }

-- what a reached userset holds is reached
pub reaches_further : (there : Tuple → Bool) (x y z : Userset) → IsReached there x y → there (holding y (Set z)) ≡ true → IsReached there x z
reaches_further there x y z reached is = record {
  through = reached.through ++ z ∷ [];
  chain = chain_push there x reached.through z reached.chain (subst (λ (e : Userset). there (holding e (Set z)) ≡ true) (sym reached.last) is);
  last = end_of_push x reached.through z;
}

-- whom a reached userset holds is a member
pub reached_is_member : (there : Tuple → Bool) (u : User) (x y : Userset) → IsReached there x y → there (holding y u) ≡ true → IsMember there u x
reached_is_member there u x y reached is = record {
  through = reached.through;
  chain = reached.chain;
  last = subst (λ (e : Userset). there (holding e u) ≡ true) (sym reached.last) is;
}

-- usersets that hold only each other, and none of which holds the user
pub record AreClosed (there : Tuple → Bool) (u : User) (xs : List Userset) : Type 0 where
  pub none : (y : Userset) → Contains xs y → there (holding y u) ≡ false
  pub further : (y z : Userset) → Contains xs y → there (holding y (Set z)) ≡ true → Contains xs z

stays_closed : (there : Tuple → Bool) (u : User) (xs : List Userset) (x : Userset) (ys : List Userset) → AreClosed there u xs → Contains xs x → IsChain there x ys → Contains xs (end_of_chain x ys)
stays_closed there u xs x [] closed here chain = here
stays_closed there u xs x (y ∷ ys) closed here chain = stays_closed there u xs y ys closed (closed.further x y here chain.0) chain.1

-- the user is a member of none of them
pub closed_has_no_member : (there : Tuple → Bool) (u : User) (xs : List Userset) (x : Userset) → AreClosed there u xs → Contains xs x → IsMember there u x → ⊥
closed_has_no_member there u xs x closed here m = true≢false (sym m.last ∙ closed.none (end_of_chain x m.through) (stays_closed there u xs x m.through closed here m.chain))
