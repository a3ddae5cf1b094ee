-- The shards of a write one after another: which have prepared, and that their votes are all.
use Rattle.std.proofs.Common.{◌≡◌, ◌≢◌, ◌⊎◌, inl, inr, ⊎_elim, ◌<◌, ◌≤◌, ◌+◌, ◌++◌, ℕ, zero, suc, Bool, true, false, List, [], ◌∷◌, length, map, get_or, Contains, refl, sym, ap, ◌∙◌, subst, arith}
use Rattle.std.specs.Prelude.{if◌then◌else◌}
use Rattle.std.specs.List.{AllPairs}
use Rattle.std.proofs.lemmas.Bool.{cases_eq, cases_Bool}
use Rattle.std.proofs.lemmas.List.{append-nil, get_or-map, length-map, map-append}
use Rattle.std.proofs.lemmas.List.Elements.{Contains-append_left, Contains-append_right, Contains-get_or, Contains-push, Contains-push_cases}
use Rattle.std.proofs.lemmas.List.Quantifiers.{all_pairs_push}
use Rattle.tuples.specs.declared.entry.Entry.{Entry}
use Rattle.tuples.specs.declared.entry.WriteId.{WriteId}
use Rattle.tuples.specs.Parts.{takes_part}
use Rattle.decisions.specs.Values.{TicketValue, VoteValue}
use Rattle.decisions.specs.Coordinators.{HaveVoted}
use Rattle.commit_flow.specs.Views.{ticket_value}
use Rattle.commit_flow.specs.WriteHolds.{HeldTicket}
use Rattle.commit_flow.specs.Participants.{ArePartsOf, AreVotesFor, participants_below, ticket_shards, vote_shards}

same_bool : (a b : Bool) → ((a ≡ true) → b ≡ true) → ((b ≡ true) → a ≡ true) → a ≡ b
same_bool true b there back = sym (there refl)
same_bool false true there back = back refl
same_bool false false there back = refl

module _ (shards : ℕ) (w : Entry) where
  pub below_takes : (n : ℕ) → takes_part shards n w ≡ true → participants_below shards w (suc n) ≡ participants_below shards w n ++ n ∷ []
  unfolding participants_below
  below_takes n takes = ap (λ (b : Bool). participants_below shards w n ++ (if b then n ∷ [] else [])) takes

  below_passes : (n : ℕ) → takes_part shards n w ≡ false → participants_below shards w (suc n) ≡ participants_below shards w n
  unfolding participants_below
  below_passes n passes = ap (λ (b : Bool). participants_below shards w n ++ (if b then n ∷ [] else [])) passes ∙ append-nil (participants_below shards w n)

  -- if none takes part from a number on, there are no more
  pub below_skips : (from n : ℕ) → from ≤ n → ((t : ℕ) → from ≤ t → t < n → takes_part shards t w ≡ true → ⊥) → participants_below shards w n ≡ participants_below shards w from
  unfolding participants_below
  below_skips from zero le none = let e : from ≡ 0 = omega (arith, le) in subst (λ (k : ℕ). participants_below shards w 0 ≡ participants_below shards w k) (sym e) refl
  below_skips from (suc n) le none = ⊎_elim
      (λ here. subst (λ (k : ℕ). participants_below shards w (suc n) ≡ participants_below shards w k) (sym here) refl)
      (λ lt. below_passes n (⊎_elim (λ takes. absurd (none n (omega (arith, lt)) (omega arith) takes)) (λ passes. passes) (cases_Bool (takes_part shards n w)))
      ∙ below_skips from n (omega (arith, lt)) (λ t ge less. none t ge (omega (arith, less))))
      (at_end from n le)
    where
      at_end : (from n : ℕ) → from ≤ suc n → (from ≡ suc n) ⊎ (from < suc n)
      at_end from n le = ⊎_elim (λ same. inl same) (λ other. inr (omega (arith, le, other))) (cases_eq from (suc n))

  -- each of them is below the number, and takes part
  below_are : (n s : ℕ) → Contains (participants_below shards w n) s → (s < n) × (takes_part shards s w ≡ true)
  unfolding participants_below
  below_are zero s (i, lt, e) = absurd (omega (arith, lt))
  below_are (suc n) s there = ⊎_elim
      (λ takes. ⊎_elim
      (λ early. let was = below_are n s early in let lt = was.0 in (omega (arith, lt), was.1))
      (λ is. let e : s ≡ n = cc in (omega (arith, e), subst (λ (k : ℕ). takes_part shards k w ≡ true) (sym e) takes))
      (Contains-push_cases (participants_below shards w n) n s (subst (λ (xs : List ℕ). Contains xs s) (below_takes n takes) there)))
      (λ passes. let was = below_are n s (subst (λ (xs : List ℕ). Contains xs s) (below_passes n passes) there) in let lt = was.0 in (omega (arith, lt), was.1))
      (cases_Bool (takes_part shards n w))

  -- and each that is so is one of them
  below_has : (n s : ℕ) → s < n → takes_part shards s w ≡ true → Contains (participants_below shards w n) s
  unfolding participants_below
  below_has zero s lt takes = absurd (omega (arith, lt))
  below_has (suc n) s lt takes = ⊎_elim
      (λ here. subst (λ (xs : List ℕ). Contains xs s) (sym (below_takes n (subst (λ (k : ℕ). takes_part shards k w ≡ true) here takes)))
      (subst (λ (k : ℕ). Contains (participants_below shards w n ++ n ∷ []) k) (sym here) (Contains-push (participants_below shards w n) n)))
      (λ less. Contains-append_left (participants_below shards w n) (if takes_part shards n w then n ∷ [] else []) s (below_has n s less takes))
      (at_end n s lt)
    where
      at_end : (n s : ℕ) → s < suc n → (s ≡ n) ⊎ (s < n)
      at_end n s lt = ⊎_elim (λ same. inl same) (λ other. inr (omega (arith, lt, other))) (cases_eq s n)

  -- no one stands there twice
  below_apart : (n : ℕ) → AllPairs (λ (s t : ℕ). s ≢ t) (participants_below shards w n)
  unfolding participants_below
  below_apart zero = λ i j d less lt. absurd (omega (arith, lt))
  below_apart (suc n) = ⊎_elim
      (λ takes. subst (AllPairs (λ (s t : ℕ). s ≢ t)) (sym (below_takes n takes)) (all_pairs_push (λ (s t : ℕ). s ≢ t) (participants_below shards w n) n (below_apart n)
      (λ k d lt same. let was = (below_are n (get_or (participants_below shards w n) k d) (Contains-get_or (participants_below shards w n) k d lt)).0 in omega (arith, was, same))))
      (λ passes. subst (AllPairs (λ (s t : ℕ). s ≢ t)) (sym (below_passes n passes)) (below_apart n))
      (cases_Bool (takes_part shards n w))

-- what an element of a list of votes gives
vote_of : (votes : List VoteValue) (s : ℕ) → Contains (vote_shards votes) s → (v : VoteValue) × Contains votes v × (v.shard ≡ s)
vote_of [] s (i, lt, e) = absurd (omega (arith, lt))
vote_of (v ∷ votes) s (zero, lt, e) = (v, (0, omega arith, refl), e)
vote_of (v ∷ votes) s (suc i, lt, e) = let later = vote_of votes s (i, omega (arith, lt), e) in (later.0, Contains-append_right (v ∷ []) votes later.0 later.1, later.2)

-- the votes are those of all shards that take part: they have voted
pub have_voted : (shards : ℕ) (w : Entry) (votes : List VoteValue) → vote_shards votes ≡ participants_below shards w shards → AreVotesFor w.id votes → HaveVoted shards w votes
have_voted shards w votes all for = record {
  each = λ s lt takes. vote_of votes s (subst (λ (xs : List ℕ). Contains xs s) (sym all) (below_has shards w shards s lt takes));
  own = λ k d lt. let at = at_shard k d lt in let are = below_are shards w shards (get_or (vote_shards votes) k (get_or votes k d).shard) (subst (λ (xs : List ℕ). Contains xs (get_or (vote_shards votes) k (get_or votes k d).shard)) all (there k d lt)) in record {
    id = sym (get_or-map (λ (v : VoteValue). v.id) votes k d w.id lt) ∙ ap (λ (xs : List WriteId). get_or xs k w.id) for ∙ get_or-map (λ (v : VoteValue). w.id) votes k d w.id lt;
    shard = let less = are.0 in omega (arith, less, at);
    participant = subst (λ (s : ℕ). takes_part shards s w ≡ true) at are.1;
  };
  once = λ i j d less lt same.
      let first : i < length votes = omega (arith, less, lt) in
      let apart = subst (AllPairs (λ (s t : ℕ). s ≢ t)) (sym all) (below_apart shards w shards) i j 0 less (longer j lt) in
      apart (get_or-map (λ (v : VoteValue). v.shard) votes i d 0 first ∙ same ∙ sym (get_or-map (λ (v : VoteValue). v.shard) votes j d 0 lt));
}
  where
    longer : (j : ℕ) → j < length votes → j < length (vote_shards votes)
    longer j lt = let e = length-map votes (λ (v : VoteValue). v.shard) in omega (arith, lt, e)

    at_shard : (k : ℕ) (d : VoteValue) → k < length votes → get_or (vote_shards votes) k (get_or votes k d).shard ≡ (get_or votes k d).shard
    at_shard k d lt = get_or-map (λ (v : VoteValue). v.shard) votes k d (get_or votes k d).shard lt

    there : (k : ℕ) (d : VoteValue) → k < length votes → Contains (vote_shards votes) (get_or (vote_shards votes) k (get_or votes k d).shard)
    there k d lt = Contains-get_or (vote_shards votes) k (get_or votes k d).shard (longer k lt)

-- writes with the same bits have the same shards
pub same_below : (bits shards : ℕ) (v w : Entry) → ArePartsOf bits shards v → ArePartsOf bits shards w → (n : ℕ) → participants_below shards v n ≡ participants_below shards w n
unfolding participants_below
same_below bits shards v w of_v of_w zero = refl
same_below bits shards v w of_v of_w (suc n) =
    let same = same_bool (takes_part shards n v) (takes_part shards n w) (λ t. (of_w n).0 ((of_v n).1 t)) (λ t. (of_v n).0 ((of_w n).1 t)) in
    ap (λ (xs : List ℕ). xs ++ (if takes_part shards n v then n ∷ [] else [])) (same_below bits shards v w of_v of_w n)
    ∙ ap (λ (b : Bool). participants_below shards w n ++ (if b then n ∷ [] else [])) same

-- what the shards gave is of shards below the one that is asked next
shard_there : (tickets : List (ℕ × TicketValue)) (t : HeldTicket) → Contains (map ticket_value tickets) t → Contains (ticket_shards tickets) t.shard
shard_there [] t (i, lt, e) = absurd (omega (arith, lt))
shard_there (x ∷ tickets) t (zero, lt, e) = (0, omega arith, ap (λ (y : HeldTicket). y.shard) e)
shard_there (x ∷ tickets) t (suc i, lt, e) = Contains-append_right (x.0 ∷ []) (ticket_shards tickets) t.shard (shard_there tickets t (i, omega (arith, lt), e))

pub given_below : (shards : ℕ) (w : Entry) (tickets : List (ℕ × TicketValue)) (s : ℕ) → ticket_shards tickets ≡ participants_below shards w s
    → (t : HeldTicket) → Contains (map ticket_value tickets) t → t.shard < s
given_below shards w tickets s asked t has = (below_are shards w s t.shard (subst (λ (xs : List ℕ). Contains xs t.shard) asked (shard_there tickets t has))).0

-- before the first shard none was asked
pub none_asked : (shards : ℕ) (w : Entry) (tickets : List (ℕ × TicketValue)) → tickets ≡ [] → ticket_shards tickets ≡ participants_below shards w 0
unfolding participants_below
none_asked shards w tickets none = ap ticket_shards none

-- and after one that gave a ticket there is one more
pub one_asked : (shards : ℕ) (w : Entry) (tickets : List (ℕ × TicketValue)) (s : ℕ) (t : TicketValue) → ticket_shards tickets ≡ participants_below shards w s → takes_part shards s w ≡ true
    → ticket_shards (tickets ++ (s, t) ∷ []) ≡ participants_below shards w (s + 1)
one_asked shards w tickets s t asked takes =
    let next : s + 1 ≡ suc s = omega arith in
    map-append (λ (t : ℕ × TicketValue). t.0) tickets ((s, t) ∷ []) ∙ ap (λ (xs : List ℕ). xs ++ s ∷ []) asked ∙ sym (below_takes shards w s takes)
    ∙ ap (λ (n : ℕ). participants_below shards w n) (sym next)
