-- A small list beside what callers began, and mistakes, each refused by a clause.
use Rattle.std.proofs.Common.{◌≡◌, inr, ⊎_elim, ℕ, zero, suc, true, false, List, [], ◌∷◌, Some, slice_get, refl, sym, subst, ◌∙◌, arith}
use Rattle.std.proofs.lemmas.Option.{same_Some}
use Rattle.tuples.specs.declared.entry.Entry.{Entry}
use Rattle.accord.specs.declared.goods.Begun.{Begun}
use Rattle.accord.specs.declared.parts.ListPart.{ListPart}
use Rattle.accord.specs.OwnedLists.{Goods, IsOwned, IsPlaced, WasGiven}
use Rattle.accord.proofs.SmallOwners.{decided_only, first_write, goods_of, of_first, one_agrees, one_begun}

-- the first writes of epoch 1, of which so many ids were given
abbrev listed_of : ℕ → List Entry → ℕ → ListPart
listed_of found log given = record { found = found; log = log; open_writes = []; epoch = 1; given = given }

only_first : (j : ℕ) (w : Entry) → slice_get (first_write ∷ []) j ≡ Some w → (j ≡ 0) × (first_write ≡ w)
only_first zero w at = (refl, same_Some _ _ at)
only_first (suc j) w at = absurd cc

first_given : WasGiven (listed_of 0 (first_write ∷ []) 1) first_write.id
first_given = inr (refl, omega arith, omega arith)

abbrev decided_first : Goods
decided_first = goods_of (one_begun first_write true ∷ []) []

-- one write, which the first caller began and decided
one_is_owned : IsOwned (listed_of 0 (first_write ∷ []) 1) decided_first
one_is_owned = record {
  owners = one_agrees;
  distinct = λ i j v w at_i at_j same. (only_first i v at_i).0 ∙ sym (only_first j w at_j).0;
  listed = λ j w at. subst (λ (v : Entry). WasGiven (listed_of 0 (first_write ∷ []) 1) v.id) (only_first j w at).1 first_given;
  begun = λ k i b own. subst (λ (d : Begun). WasGiven (listed_of 0 (first_write ∷ []) 1) d.write.id) (decided_only k i b own).2 first_given;
}

-- a write is listed twice
no_write_twice : (goods : Goods) → IsOwned (listed_of 2 (first_write ∷ first_write ∷ []) 1) goods → ⊥
no_write_twice goods a = let same = a.distinct 0 1 first_write first_write refl refl refl in omega (arith, same)

-- an id is begun before it was given, so that it would be given again
no_id_ahead : IsOwned (listed_of 0 [] 0) (goods_of (one_begun first_write false ∷ []) []) → ⊥
no_id_ahead a = ⊎_elim (λ lt. omega (arith, lt)) (λ now. let low = now.2 in omega (arith, low)) (a.begun 0 0 _ (of_first first_write false []))

-- an id is found that was not given yet
no_listed_id_ahead : (goods : Goods) → IsOwned (listed_of 1 (first_write ∷ []) 0) goods → ⊥
no_listed_id_ahead goods a = ⊎_elim (λ lt. omega (arith, lt)) (λ now. let low = now.2 in omega (arith, low)) (a.listed 0 first_write refl)

-- a write is placed where another stands
no_wrong_place : IsPlaced (listed_of 0 (first_write ∷ []) 1) (record { epoch = 1; place = 2; write = first_write }) → ⊥
no_wrong_place placed = ⊎_elim
    (λ lt. omega (arith, lt))
    (λ now. let place = now.1.1 in let at = (only_first now.1.0 first_write now.1.2).0 in omega (arith, place, at))
    placed
