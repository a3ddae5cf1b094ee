-- What callers have once one of them began a write, or decided one.
use Rattle.std.proofs.Common.{◌≡◌, ◌⊎◌, inl, inr, ⊎_elim, ℕ, zero, suc, List, [], ◌∷◌, ◌++◌, length, Some, slice_get, refl, sym, ◌∙◌, ap, subst, arith}
use Rattle.std.proofs.lemmas.Option.{same_Some}
use Rattle.tuples.specs.declared.entry.Entry.{Entry}
use Rattle.tuples.proofs.Lists.{slice_get_last, slice_get_longer, slice_get_push}
use Rattle.laws.proofs.Locks.{same_or_not}
use Rattle.accord.specs.declared.goods.Begun.{Begun}
use Rattle.accord.specs.OwnedLists.{Goods, IsPut, undecided}
use Rattle.accord.specs.Owning.{GivesUp, Owned, decided_of}

-- between others stands the one
at_between : {X : Type 0} (xs ys : List X) (x : X) → slice_get (xs ++ x ∷ ys) (length xs) ≡ Some x
at_between [] ys x = refl
at_between (z ∷ xs) ys x = at_between xs ys x

-- and beside it the others, whichever it is
beside : {X : Type 0} (xs ys : List X) (x y : X) (j : ℕ) → (j ≡ length xs → ⊥) → slice_get (xs ++ x ∷ ys) j ≡ slice_get (xs ++ y ∷ ys) j
beside [] ys x y zero apart = absurd (apart refl)
beside [] ys x y (suc j) apart = refl
beside (z ∷ xs) ys x y zero apart = refl
beside (z ∷ xs) ys x y (suc j) apart = beside xs ys x y j (λ same. apart (omega (arith, same)))

module _ (old new : Goods) (k : ℕ) (begun : List Begun) (put : IsPut old new k begun) where
  -- what others have they had, and what they had they have
  pub other_was : (l j : ℕ) (d : Begun) → (l ≡ k → ⊥) → Owned new l j d → Owned old l j d
  other_was l j d ne own = record { begun = own.begun; has = sym (put.others l ne) ∙ own.has; there = own.there }

  pub other_is : (l j : ℕ) (d : Begun) → (l ≡ k → ⊥) → Owned old l j d → Owned new l j d
  other_is l j d ne own = record { begun = own.begun; has = put.others l ne ∙ own.has; there = own.there }

  -- what the one has is among these
  pub its_own : (j : ℕ) (d : Begun) → Owned new k j d → slice_get begun j ≡ Some d
  its_own j d own = ap (λ (bs : List Begun). slice_get bs j) (same_Some _ _ (sym put.here ∙ own.has)) ∙ own.there

  pub is_its_own : (j : ℕ) (d : Begun) → slice_get begun j ≡ Some d → Owned new k j d
  is_its_own j d there = record { begun = begun; has = put.here; there = there }

-- what it had is among what it is known to have had
had : (goods : Goods) (k : ℕ) (begun : List Begun) → goods k ≡ Some begun → (j : ℕ) (d : Begun) → Owned goods k j d → slice_get begun j ≡ Some d
had goods k begun is j d own = ap (λ (bs : List Begun). slice_get bs j) (same_Some _ _ (sym is ∙ own.has)) ∙ own.there

module _ (old new : Goods) (k : ℕ) (before : List Begun) (w : Entry) (after : List Begun) where
  abbrev one : Begun
  one = undecided w

  abbrev all : List Begun
  all = before ++ decided_of one ∷ after

  pub gives_up : old k ≡ Some (before ++ one ∷ after) → IsPut old new k all → GivesUp old new k (length before) one
  gives_up is put = record {
    was = record { begun = before ++ one ∷ after; has = is; there = at_between before after one };
    here = is_its_own old new k all put (length before) (decided_of one) (at_between before after (decided_of one));
    back = λ l j d own. ⊎_elim
        (λ (same : l ≡ k).
        let there = its_own old new k all put j d (subst (λ (m : ℕ). Owned new m j d) same own) in
        ⊎_elim
        (λ (here : j ≡ length before).
        let at : slice_get all (length before) ≡ Some d = subst (λ (m : ℕ). slice_get all m ≡ Some d) here there in
        inl (same, here, same_Some _ _ (sym at ∙ at_between before after (decided_of one))))
        (λ ne.
        let was : Owned old k j d = record { begun = before ++ one ∷ after; has = is; there = beside before after one (decided_of one) j ne ∙ there } in
        inr ((λ is_k is_j. ne is_j), subst (λ (m : ℕ). Owned old m j d) (sym same) was))
        (same_or_not j (length before)))
        (λ ne. inr ((λ is_k is_j. ne is_k), other_was old new k all put l j d ne own))
        (same_or_not l k);
    stays = λ l j d apart own. ⊎_elim
        (λ (same : l ≡ k).
        let there = had old k (before ++ one ∷ after) is j d (subst (λ (m : ℕ). Owned old m j d) same own) in
        let now = is_its_own old new k all put j d (beside before after (decided_of one) one j (λ here. apart same here) ∙ there) in
        subst (λ (m : ℕ). Owned new m j d) (sym same) now)
        (λ ne. other_is old new k all put l j d ne own)
        (same_or_not l k);
  }

module _ (old new : Goods) (k : ℕ) (begun : List Begun) (b : Begun) (is : old k ≡ Some begun) (put : IsPut old new k (begun ++ b ∷ [])) where
  abbrev more : List Begun
  more = begun ++ b ∷ []

  -- one caller has one more
  pub last_is : Owned new k (length begun) b
  last_is = is_its_own old new k more put (length begun) b (slice_get_last begun b)

  pub last_or_was : (l j : ℕ) (d : Begun) → Owned new l j d → ((l ≡ k) × (j ≡ length begun) × (b ≡ d)) ⊎ Owned old l j d
  last_or_was l j d own = ⊎_elim
      (λ (same : l ≡ k).
      let there = its_own old new k more put j d (subst (λ (m : ℕ). Owned new m j d) same own) in
      ⊎_elim
      (λ at. let was : Owned old k j d = record { begun = begun; has = is; there = at } in inr (subst (λ (m : ℕ). Owned old m j d) (sym same) was))
      (λ last. inl (same, last.0, last.1))
      (slice_get_push begun b d j there))
      (λ ne. inr (other_was old new k more put l j d ne own))
      (same_or_not l k)

  pub was_is : (l j : ℕ) (d : Begun) → Owned old l j d → Owned new l j d
  was_is l j d own = ⊎_elim
      (λ (same : l ≡ k).
      let there = had old k begun is j d (subst (λ (m : ℕ). Owned old m j d) same own) in
      subst (λ (m : ℕ). Owned new m j d) (sym same) (is_its_own old new k more put j d (slice_get_longer begun (b ∷ []) j d there)))
      (λ ne. other_is old new k more put l j d ne own)
      (same_or_not l k)
