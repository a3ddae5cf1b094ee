-- A shard of a store that stands stages one more record: what flows hold stays right.
use Rattle.std.proofs.Common.{◌≡◌, ◌⊎◌, inl, inr, ⊎_elim, ℕ, true, List, [], ◌∷◌, ◌++◌, Some, refl, sym, ◌∙◌, ap, subst, Bool, false, arith}
use Rattle.std.proofs.lemmas.List.Elements.{All-append, All-cons, All-nil, Contains-append_left, Contains-append_right}
use Rattle.stores.proofs.Words.{Entry, HeldTicket, HoldAfter, IsOpen, IsRight, IsRightOwn, IsRightTicket, IsStaging, IsUndecided, Moment, NodeName, Nodes, Record, Running, ShardKnows, ShardState, WriteHolds, find_in_doubt, id_of, leaves, part, shard, shard_state, takes_part, with_nodes}
use Rattle.stores.proofs.FlowBegins.{alone}
use Rattle.stores.proofs.Frames.{IsDoubt, KeepsStore, KeepsWrite, decision_on, frame, intent_on, same_knew, same_taken, ticket_on, undecided_on, verdict_on, vote_on}
use Rattle.stores.proofs.ShardStages.{is_open, left_now, longer, memory, memory_left, same_coordinator, same_given, shard_knew, shard_knows, was_open}

module _ (store shards : ℕ) (left : NodeName → List Record → Type 0) (now : Moment) (next : Nodes) (s : ℕ) (r : Record) (st : IsStaging store shards left now next s r) where
  -- What the record leaves of a write: what the shard has in doubt of it now it had before, or the record prepares it, and it is its part, whose
  -- conditions hold if it is open; and if it is open the shard has its part in doubt if it had it before.
  pub record StagesDoubts (prepares : Bool) (w : Entry) : Type 0 where
    pub found : (p : Entry) → find_in_doubt w.id (shard_state (longer store shards left now next s r st)).in_doubt ≡ Some p
        → (find_in_doubt w.id (shard_state (memory store shards left now next s r st)).in_doubt ≡ Some p)
        ⊎ ((prepares ≡ true) × (takes_part shards s w ≡ true) × (p ≡ part shards s w) × (IsOpen now.nodes w → HoldAfter now.machine.log p.conditions))
    pub promised : IsOpen now.nodes w → find_in_doubt w.id (shard_state (memory store shards left now next s r st)).in_doubt ≡ Some (part shards s w)
        → find_in_doubt w.id (shard_state (longer store shards left now next s r st)).in_doubt ≡ Some (part shards s w)
    pub epoch : (shard_state (longer store shards left now next s r st)).epoch ≡ (shard_state (memory store shards left now next s r st)).epoch

  keeps : KeepsStore shards left left now (with_nodes now next) false
  keeps = record {
    kept = omega arith;
    horizon = omega arith;
    same_log = refl;
    listed = λ j w is. inl is;
    was_open = λ w given. was_open store shards left now next s r st w;
    coordinator_knew = λ kept m knows. inl (same_knew shards left left now (with_nodes now next) false (same_coordinator store shards left now next s r st)
        (let same = same_given store shards left now next s r st in omega (arith, same)) (λ j w is. is) refl kept m knows);
    given_out = λ id g. g.epoch;
    epochs = λ t epoch is. is;
    settled = λ t place is. is;
    taken = λ unopened. same_taken shards left left now (with_nodes now next) false (same_coordinator store shards left now next s r st) (omega arith);
    named = λ x is. is;
  }

  module _ (prepares : Bool) (w : Entry) (stages : StagesDoubts prepares w) where
    memory_at : (t : ℕ) → t ≡ s → leaves left now.nodes (shard t) (memory store shards left now next s r st)
    memory_at t same = subst (λ (j : ℕ). leaves left now.nodes (shard j) (memory store shards left now next s r st)) (sym same) (memory_left store shards left now next s r st)

    promised_at : (t : ℕ) → t ≡ s → IsOpen now.nodes w → find_in_doubt w.id (shard_state (memory store shards left now next s r st)).in_doubt ≡ Some (part shards t w)
        → find_in_doubt w.id (shard_state (longer store shards left now next s r st)).in_doubt ≡ Some (part shards t w)
    promised_at t same here was = stages.promised here (was ∙ ap (λ (j : ℕ). Some (part shards j w)) same) ∙ ap (λ (j : ℕ). Some (part shards j w)) (sym same)

    keeps_write : KeepsWrite shards left left now (with_nodes now next) false prepares w
    keeps_write = record {
      is_open = λ unopened. is_open store shards left now next s r st w;
      unlisted = λ is. is;
      conditions = λ u here t found p lt is has hold. hold;
      doubts = record {
        doubt = λ t found p is has. ⊎_elim
            (λ before. inl (found, before, has))
            (λ after.
            let has_now = ap (λ (l : List Record). find_in_doubt w.id (shard_state l).in_doubt) (sym after.1) ∙ has in
            subst (λ (j : ℕ). IsDoubt shards left left now (with_nodes now next) false prepares w j p) (sym after.0)
            (⊎_elim (λ was. inl (memory store shards left now next s r st, memory_left store shards left now next s r st, was)) (λ new. inr new) (stages.found p has_now)))
            (left_now store shards left now next s r st t found is);
        promised = λ here t was found is. ⊎_elim
            (λ before. was found before)
            (λ after. ap (λ (l : List Record). find_in_doubt w.id (shard_state l).in_doubt) after.1 ∙ promised_at t after.0 here (was (memory store shards left now next s r st) (memory_at t after.0)))
            (left_now store shards left now next s r st t found is);
        knew = λ t m knows. inl (⊎_elim
            (λ before. (m, before, refl, λ here has. has))
            (λ after. (
              shard_state (memory store shards left now next s r st),
              subst (λ (j : ℕ). ShardKnows now.nodes j (shard_state (memory store shards left now next s r st))) (sym after.0) (shard_knew store shards left now next s r st),
              sym stages.epoch ∙ ap (λ (n : ShardState). n.epoch) (sym after.1),
              λ here has. ap (λ (n : ShardState). find_in_doubt w.id n.in_doubt) after.1 ∙ promised_at t after.0 here has,
            ))
            (shard_knows store shards left now next s r st t m knows));
      };
    }

    -- with one more ticket of this shard, what the flow holds is right though the record is a prepare of its write
    pub kept_with_ticket : (f : Running) (h : WriteHolds) (t : HeldTicket) → t.shard ≡ s → IsRightTicket shards left (with_nodes now next) w t → IsUndecided shards left now w → IsRightOwn shards left now f w h
        → IsRightOwn shards left (with_nodes now next) f w (record h { tickets = h.tickets ++ t ∷ [] })
    kept_with_ticket f h t of_shard ticket u k = record {
      undecided = λ none. undecided_on shards left left now (with_nodes now next) false keeps prepares w u.given keeps_write.unlisted keeps_write.doubts u;
      intent = λ i is. ((k.intent i is).0, intent_on shards left left now (with_nodes now next) false keeps prepares w u.given keeps_write u i (k.intent i is).1);
      tickets = All-append (IsRightTicket shards left (with_nodes now next) w) h.tickets (t ∷ [])
          (λ j d lt. ticket_on shards left left now (with_nodes now next) false keeps prepares w u.given keeps_write.doubts _ (k.tickets j d lt))
          (All-cons (IsRightTicket shards left (with_nodes now next) w) t [] ticket (All-nil (IsRightTicket shards left (with_nodes now next) w)));
      votes = λ j d lt. vote_on shards left left now (with_nodes now next) false keeps prepares w u.given keeps_write.doubts _ (k.votes j d lt);
      decision = λ d is. decision_on shards left left now (with_nodes now next) false keeps w d (k.decision d is);
      verdict = λ id is. ((k.verdict id is).0, verdict_on shards left left now (with_nodes now next) false keeps id (k.verdict id is).1);
      not_reopened = λ i is not_since. is_open store shards left now next s r st w (k.not_reopened i is not_since);
      gave = λ way none j found p lt is has. ⊎_elim
          (λ before. ⊎_elim
          (λ held. inl (held.0, Contains-append_left h.tickets (t ∷ []) held.0 held.1, held.2))
          (λ held. inr held)
          (k.gave way none j found p lt before has))
          (λ after. inl (t, Contains-append_right h.tickets (t ∷ []) t (alone t []), of_shard ∙ sym after.0))
          (left_now store shards left now next s r st j found is);
    }

  -- what a flow holds is right, if its own write is kept
  pub kept_flow : (f : Running) → ((w : Entry) → id_of f.holds ≡ Some w.id → StagesDoubts false w) → IsRight shards left now f f.asked f.holds → IsRight shards left (with_nodes now next) f f.asked f.holds
  kept_flow f stages = frame shards left left now (with_nodes now next) false keeps f f.asked f.holds (λ w is. keeps_write false w (stages w is))
