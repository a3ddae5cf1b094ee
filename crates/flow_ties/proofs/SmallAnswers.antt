-- Small answers: over a list of no writes, what is one, and what is none; and what is a reason to give none.
use Rattle.std.proofs.Common.{◌≡◌, inl, inr, ⊎_elim, ℕ, zero, suc, true, false, true≢false, List, [], ◌∷◌, Some, slice_get, refl, sym, ◌∙◌, subst, arith}
use Rattle.std.proofs.lemmas.Option.{same_Some}
use Rattle.flow_ties.proofs.Words.{AreRowsAt, exact, Future, HasReason, IsAsAsked, IsMembershipAt, IsSelection, IsTooFar, Key, latest, Tuple, Tupleset, User, Userset}
use Rattle.tuples.specs.Log.{is_at}

-- no tuple is there
none_there : (t : Tuple) → is_at [] 0 t ≡ false
unfolding is_at
none_there t = refl

module _ (t : Tuple) where
  nothing_selected : IsSelection (is_at [] 0) (Key t) []
  nothing_selected = record {
    ascending = tt;
    exact = λ u. (λ has. absurd (omega (arith, has.1)), λ is. absurd (true≢false (sym is.0 ∙ none_there u)));
  }

  -- no row is the answer
  no_row : AreRowsAt [] latest (Key t ∷ []) 0 ([] ∷ [])
  no_row = record { there = omega arith; wanted = tt; all = refl; each = each }
    where
      each : (i : ℕ) (q : Tupleset) (rows : List Tuple) → slice_get (Key t ∷ []) i ≡ Some q → slice_get ([] ∷ []) i ≡ Some rows → IsSelection (is_at [] 0) q rows
      each zero q rows at_set at_row = subst (λ (x : Tupleset). IsSelection (is_at [] 0) x rows) (same_Some (Key t) q at_set)
          (subst (λ (x : List Tuple). IsSelection (is_at [] 0) (Key t) x) (same_Some [] rows at_row) nothing_selected)
      each (suc i) q rows at_set at_row = absurd (cc at_set)

  -- a row that was never written is no answer
  never_written : AreRowsAt [] latest (Key t ∷ []) 0 ((t ∷ []) ∷ []) → ⊥
  never_written answer = let selects = answer.each 0 (Key t) (t ∷ []) refl refl in true≢false (sym ((selects.exact t).0 (0, omega arith, refl)).0 ∙ none_there t)

  -- an answer to another number of questions is no answer
  one_too_few : AreRowsAt [] latest (Key t ∷ []) 0 [] → ⊥
  one_too_few answer = let all = answer.all in omega (arith, all)

  -- nor is one at a place that the list does not have, or at another than was asked for
  no_such_place : AreRowsAt [] latest (Key t ∷ []) 1 ([] ∷ []) → ⊥
  no_such_place answer = let there = answer.there in omega (arith, there)

  another_place : AreRowsAt [] (exact 3) (Key t ∷ []) 0 ([] ∷ []) → ⊥
  another_place answer = let wanted = answer.wanted in omega (arith, wanted)

-- nobody is a member
nobody : (x : Userset) (u : User) → IsMembershipAt [] latest x u 0 true → ⊥
nobody x u answer = let member = answer.member.0 refl in true≢false (sym member.last ∙ none_there _)

-- nor is it too far to go at a place if nobody asked, whatever can be reached there
elsewhere : (x : Userset) → IsTooFar [] (IsAsAsked (exact 3)) x → ⊥
elsewhere x far =
    let there = far.there in
    let wanted = far.wanted in
    omega (arith, there, wanted)

-- a place that lies above all that there is has a reason to be refused
above_all : HasReason [] (exact 3) [] 0 Future
above_all = inr (inr (inl (refl, omega arith)))

-- and one that is there has none, if no reply has told any
is_there : HasReason [] (exact 0) [] 0 Future → ⊥
is_there reason = ⊎_elim
    (λ told. absurd (cc told))
    (λ rest. ⊎_elim
    (λ memory. absurd (cc memory))
    (λ place. ⊎_elim (λ above. omega (arith, above.1)) (λ below. omega (arith, below.1)) place)
    rest)
    reason
