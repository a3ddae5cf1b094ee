-- A check walks from userset to userset: what it has met, and what that says of membership.
use Rattle.std.proofs.Common.{◌≡◌, ◌⊎◌, inl, inr, ⊎_elim, ◌==◌, ◌+◌, ◌≤◌, ◌<◌, ℕ, Bool, true, false, List, [], ◌∷◌, ◌++◌, length, Contains, All, refl, sym, ◌∙◌, ap, subst, arith}
use Rattle.std.proofs.lemmas.Bool.{and_from, and_parts, cases_Bool, eq-eqb}
use Rattle.std.proofs.lemmas.List.{append-nil, length-append}
use Rattle.std.proofs.lemmas.List.Elements.{All-contains_itself, All-weaker, Contains-append_cases, Contains-append_left, Contains-append_right}
use Rattle.std.proofs.lemmas.Option.{slice_get_within}
use Rattle.tuples.specs.declared.entry.Entry.{Entry}
use Rattle.tuples.specs.declared.object.Userset.{Userset}
use Rattle.tuples.specs.declared.tuple.Tuple.{Tuple}
use Rattle.tuples.specs.declared.user.User.{User}
use Rattle.tuples.specs.declared.user.User.TheVariants.{Set}
use Rattle.tuples.specs.Checking.{AreOnce, IsMember, IsReached, holding}
use Rattle.tuples.specs.Limits.{max_walked}
use Rattle.tuples.specs.Log.{is_at}
use Rattle.tuples.specs.Parts.{shard_of}
use Rattle.tuples.specs.Walking.{IsCheckSelection, meets_check}
use Rattle.tuples.proofs.Reaching.{closed_has_no_member, reached_is_member, reaches_further, reaches_itself}
use Rattle.tuples.proofs.Walked.{asked_of, set_asked, user_asked}
use Rattle.tuples.proofs.Lists.{first_or_later}
use Rattle.tuples.proofs.OnceEach.{once_right, once_apart, once_both}
use Rattle.decisions.specs.Flows.{CheckHolds}
use Rattle.decisions.specs.Walks.{Walks}
use Rattle.laws.specs.Shards.{there_of}
use Rattle.laws.specs.Walks.{IsWalk}

-- all that a check asks of a userset has the shard of the userset's object
pub one_shard_is_asked : (shards s : ℕ) (log : List Entry) (place : ℕ) (y : Userset) (u : User) (rows : List Tuple) → s ≡ shard_of shards y.object
    → IsCheckSelection (there_of shards s log place) y u rows → IsCheckSelection (is_at log place) y u rows
one_shard_is_asked shards s log place y u rows own here = record {
  ascending = here.ascending;
  exact = λ t. (
    λ has. let is = (here.exact t).0 has in ((and_parts (is_at log place t) (shard_of shards t.object == s) is.0).0, is.1),
    λ is. (here.exact t).1 (and_from (is_at log place t) (shard_of shards t.object == s) is.0 (eq-eqb (shard_of shards t.object) s (of_shard t is.1)), is.1),
  );
}
  where
    of_shard : (t : Tuple) → meets_check y u t ≡ true → shard_of shards t.object ≡ s
    of_shard t is = ap (λ (v : Tuple). shard_of shards v.object) (asked_of y u t is) ∙ sym own

-- Given what a check has met
module _ (there : Tuple → Bool) (x : Userset) (u : User) (h : CheckHolds) (walk : IsWalk there x u h.walked h.waiting) where
  abbrev met : List Userset
  met = h.walked ++ h.waiting

  reached : (y : Userset) → Contains met y → IsReached there x y
  reached y has = walk.reached y has

  pub says_yes : (y : Userset) → Contains h.waiting y → there (holding y u) ≡ true → IsMember there u x
  says_yes y waits holds = reached_is_member there u x y (reached y (Contains-append_right h.walked h.waiting y waits)) holds

  pub says_no : h.waiting ≡ [] → IsMember there u x → ⊥
  says_no none = closed_has_no_member there u h.walked x (record {
    none = λ y has. walk.none y has;
    further = λ y z has holds. all_walked z (walk.further y z has holds);
  }) (all_walked x walk.asked)
    where
      all_walked : (z : Userset) → Contains met z → Contains h.walked z
      all_walked z has = subst (λ (l : List Userset). Contains l z) (ap (λ (l : List Userset). h.walked ++ l) none ∙ append-nil h.walked) has

  pub many_reached : (y : Userset) → max_walked ≤ length h.walked → Contains h.waiting y → max_walked < length met
  many_reached y many waits =
      let size : length met ≡ length h.walked + length h.waiting = length-append h.walked h.waiting in
      let some = waits.1 in
      omega (arith, size, many, some)

  pub all_reached : All (IsReached there x) met
  all_reached = All-weaker (Contains met) (IsReached there x) reached met (All-contains_itself met)

  -- Given the next userset, which does not hold the user
  module _ (next : CheckHolds) (y : Userset) (rows : List Tuple) (walks : Walks y rows h next) (selected : IsCheckSelection there y u rows) (lacks : Contains rows (holding y u) → ⊥) where
    abbrev met_next : List Userset
    met_next = next.walked ++ next.waiting

    waits : Contains h.waiting y
    waits = subst (λ (l : List Userset). Contains l y) (sym walks.first) (0, omega arith, refl)

    y_met : Contains met y
    y_met = Contains-append_right h.walked h.waiting y waits

    of_rest : (z : Userset) → Contains walks.rest z → Contains h.waiting z
    of_rest z has = subst (λ (l : List Userset). Contains l z) (sym walks.first) (Contains-append_right (y ∷ []) walks.rest z has)

    -- what is met then was met before, or is held by this one
    met_or_new : (z : Userset) → Contains met_next z → Contains met z ⊎ Contains walks.more z
    met_or_new z has = ⊎_elim
        (λ walked. ⊎_elim
        (λ old. inl (Contains-append_left h.walked h.waiting z old))
        (λ (is : z ≡ y). inl (subst (Contains met) (sym is) y_met))
        ((walks.walked.has z).0 walked))
        (λ waiting. ⊎_elim
        (λ rest. inl (Contains-append_right h.walked h.waiting z (of_rest z rest)))
        (λ new. inr new)
        (Contains-append_cases walks.rest walks.more z (subst (λ (l : List Userset). Contains l z) walks.waiting waiting)))
        (Contains-append_cases next.walked next.waiting z has)

    -- and all that was met before is met
    still_met : (z : Userset) → Contains met z → Contains met_next z
    still_met z has = ⊎_elim
        (λ walked. Contains-append_left next.walked next.waiting z ((walks.walked.has z).1 (inl walked)))
        (λ waiting. ⊎_elim
        (λ (is : y ≡ z). Contains-append_left next.walked next.waiting z ((walks.walked.has z).1 (inr (sym is))))
        (λ rest. Contains-append_right next.walked next.waiting z (subst (λ (l : List Userset). Contains l z) (sym walks.waiting) (Contains-append_left walks.rest walks.more z rest)))
        (first_or_later y z walks.rest (subst (λ (l : List Userset). Contains l z) walks.first waiting)))
        (Contains-append_cases h.walked h.waiting z has)

    -- what this one holds is met
    held_met : (z : Userset) → there (holding y (Set z)) ≡ true → Contains met_next z
    held_met z holds = ⊎_elim
        (λ old. still_met z old)
        (λ new. Contains-append_right next.walked next.waiting z (subst (λ (l : List Userset). Contains l z) (sym walks.waiting) (Contains-append_right walks.rest walks.more z new)))
        (walks.all z ((selected.exact (holding y (Set z))).1 (holds, set_asked y z u)))

    once : AreOnce met_next
    once = once_both next.walked next.waiting walks.walked.once waiting_once apart
      where
        old : AreOnce (y ∷ walks.rest)
        old = subst AreOnce walks.first (once_right h.walked h.waiting walk.once)

        waiting_once : AreOnce next.waiting
        waiting_once = subst AreOnce (sym walks.waiting) (once_both walks.rest walks.more (once_right (y ∷ []) walks.rest old) walks.once
            (λ z rest more. walks.new z more (Contains-append_right h.walked h.waiting z (of_rest z rest))))

        -- what was walked before is not what waits
        walked_apart : (z : Userset) → Contains h.walked z ⊎ (z ≡ y) → Contains walks.rest z → ⊥
        walked_apart z (inl walked) rest = once_apart h.walked h.waiting z walk.once walked (of_rest z rest)
        walked_apart z (inr is) rest = once_apart (y ∷ []) walks.rest y old (0, omega arith, refl) (subst (Contains walks.rest) is rest)

        walked_met : (z : Userset) → Contains h.walked z ⊎ (z ≡ y) → Contains met z
        walked_met z (inl walked) = Contains-append_left h.walked h.waiting z walked
        walked_met z (inr is) = subst (Contains met) (sym is) y_met

        apart : (z : Userset) → Contains next.walked z → Contains next.waiting z → ⊥
        apart z walked waiting = ⊎_elim
            (λ rest. walked_apart z ((walks.walked.has z).0 walked) rest)
            (λ more. walks.new z more (walked_met z ((walks.walked.has z).0 walked)))
            (Contains-append_cases walks.rest walks.more z (subst (λ (l : List Userset). Contains l z) walks.waiting waiting))

    reached_next : (z : Userset) → Contains met_next z → IsReached there x z
    reached_next z has = ⊎_elim
        (λ old. reached z old)
        (λ new. reaches_further there x y z (reached y y_met) ((selected.exact (holding y (Set z))).0 (walks.held z new)).0)
        (met_or_new z has)

    none_next : (z : Userset) → Contains next.walked z → there (holding z u) ≡ false
    none_next z has = ⊎_elim
        (λ old. walk.none z old)
        (λ (is : z ≡ y). subst (λ (v : Userset). there (holding v u) ≡ false) (sym is) y_lacks)
        ((walks.walked.has z).0 has)
      where
        y_lacks : there (holding y u) ≡ false
        y_lacks = ⊎_elim
            (λ holds. absurd (lacks ((selected.exact (holding y u)).1 (holds, user_asked y u))))
            (λ none. none)
            (cases_Bool (there (holding y u)))

    further_next : (v z : Userset) → Contains next.walked v → there (holding v (Set z)) ≡ true → Contains met_next z
    further_next v z has holds = ⊎_elim
        (λ old. still_met z (walk.further v z old holds))
        (λ (is : v ≡ y). held_met z (subst (λ (w : Userset). there (holding w (Set z)) ≡ true) is holds))
        ((walks.walked.has v).0 has)

    pub goes_on : IsWalk there x u next.walked next.waiting
    goes_on = record { asked = still_met x walk.asked; once = once; reached = reached_next; none = none_next; further = further_next }

-- it begins at the asked one
pub walk_begins : (there : Tuple → Bool) (x : Userset) (u : User) → IsWalk there x u [] (x ∷ [])
walk_begins there x u = record {
  asked = (0, omega arith, refl);
  once = λ i j y is_i is_j. let a = slice_get_within (x ∷ []) i y is_i in let b = slice_get_within (x ∷ []) j y is_j in omega (arith, a, b);
  reached = λ y has. subst (IsReached there x) (only y has) (reaches_itself there x);
  none = λ y never. absurd (omega (arith, never.1));
  further = λ y z never holds. absurd (omega (arith, never.1));
}
  where
    only : (y : Userset) → Contains (x ∷ []) y → x ≡ y
    only y has = ⊎_elim (λ is. is) (λ never. absurd (omega (arith, never.1))) (first_or_later x y [] has)
