-- Why a write is refused with Aborted: an opening cut its flow off.
use Rattle.std.proofs.Common.{◌≡◌, ◌⊎◌, inl, inr, ⊎_elim, ℕ, ◌≤◌, ◌<◌, true, List, ◌++◌, Some, Contains, refl, sym, ◌∙◌, ap, subst, arith}
use Rattle.std.proofs.lemmas.Bool.{cases_Bool, cases_lt}
use Rattle.std.proofs.lemmas.List.Elements.{All-contains}
use Rattle.stores.proofs.Words.{CoordinatorKnows, CoordinatorState, Entry, HeldTicket, IntentValue, IsCutOff, IsOpen, IsRight, IsRightOwn, IsRightTicket, IsRightWrite, IsUndecidedFlow, Moment, NodeName, NodeState, Record, Running, ShardKnows, ShardState, Stands, WriteHolds, coordinator, coordinator_state, down, empty_shard, find_in_doubt, part, refused, shard, shard_from, shard_from-append, up, writing}
use Rattle.records.specs.Replays.{shard_state}
use Rattle.stores.specs.AbortLaws.{RefusedIntents, RefusedTickets}
use Rattle.stores.specs.Causes.{IsLost}
use Rattle.stores.proofs.WriteBegins.{one_memory}
use Rattle.stores.proofs.ShardFlush.{epoch_stays}

module _ (store shards : ℕ) (left : NodeName → List Record → Type 0) (now : Moment) (r : Running) (h : WriteHolds) (w : Entry) (intent : IntentValue) (st : Stands store shards left now) (flow : IsUndecidedFlow now r h w)
    (has_it : h.intent ≡ Some intent) where
  right : IsRightWrite shards left now r w.changes w.conditions h
  right = subst (λ a. IsRight shards left now r a (writing h)) flow.asked (subst (λ x. IsRight shards left now r r.asked x) flow.holds (st.flows.held r flow.running))

  own : IsRightOwn shards left now r w h
  own = right.own w.id flow.id

  -- the coordinator is of a later epoch, or the write is open
  later_or_open : (kept memory : CoordinatorState) → CoordinatorKnows now.nodes kept memory → (w.id.epoch < memory.epoch) ⊎ IsOpen now.nodes w
  later_or_open kept memory knows = ⊎_elim
      (λ earlier. inl earlier)
      (λ of_now. inr ((own.intent intent has_it).1.opened kept memory knows (sym of_now.0)))
      ((own.undecided flow.undecided).given.now kept memory knows)

  -- if its write is not open, the coordinator was opened since
  lost : (IsOpen now.nodes w → ⊥) → IsLost now.nodes r w.id
  lost closed = record {
    reopened = ⊎_elim (λ yes. yes) (λ no. absurd (closed (own.not_reopened intent has_it no))) (cases_Bool r.is_reopened);
    later = λ kept memory knows. ⊎_elim (λ earlier. earlier) (λ here. absurd (closed here)) (later_or_open kept memory knows);
  }

  module _ (t : HeldTicket) (memory : ShardState) (has_t : Contains h.tickets t) (knows : ShardKnows now.nodes t.shard memory) (gone : find_in_doubt t.id memory.in_doubt ≡ Some (part shards t.shard w) → ⊥) where
    ticket : IsRightTicket shards left now w t
    ticket = All-contains (IsRightTicket shards left now w) h.tickets t own.tickets has_t

    -- the shard is of the ticket's epoch, or of a later one
    not_earlier : t.epoch ≤ memory.epoch
    unfolding shard_state
    not_earlier =
        let durable : left (shard t.shard) knows.durable = (st.nodes.durable (shard t.shard) knows.durable knows.staged knows.durable knows.is_up).1 refl in
        let low : t.epoch ≤ (shard_state knows.durable).epoch = ticket.epoch knows.durable durable in
        let same : (shard_state (knows.durable ++ knows.staged)).epoch ≡ (shard_state knows.durable).epoch =
        ap (λ (m : ShardState). m.epoch) (shard_from-append empty_shard knows.durable knows.staged)
        ∙ epoch_stays (shard_from empty_shard knows.durable) knows.staged (λ a b c d has. st.nodes.no_opening (shard t.shard) knows.durable knows.staged a b c d knows.is_up has) in
        let is : memory.epoch ≡ (shard_state (knows.durable ++ knows.staged)).epoch = ap (λ (m : ShardState). m.epoch) knows.replayed in
        omega (arith, low, same, is)

    -- while the write is open the shard loses its prepare only by an opening
    by_shard : IsOpen now.nodes w → t.epoch < memory.epoch
    by_shard here = ⊎_elim
        (λ (lt : t.epoch < memory.epoch). lt)
        (λ (le : memory.epoch ≤ t.epoch). let low = not_earlier in absurd (gone (ticket.prepared here memory knows (omega (arith, low, le)))))
        (cases_lt t.epoch memory.epoch)

    of_shard : IsOpen now.nodes w → IsCutOff now.nodes r (writing h)
    of_shard here = inr (t, memory, has_t, knows, by_shard here)

    by_coordinator : r.is_reopened ≡ true → (n : NodeState) → now.nodes.at coordinator ≡ n → IsCutOff now.nodes r (writing h)
    by_coordinator since (up durable staged) is =
        let known : CoordinatorKnows now.nodes (coordinator_state durable) (coordinator_state (durable ++ staged)) = record { durable = durable; staged = staged; is_up = is; durable_state = refl; replayed = refl } in
        ⊎_elim
        (λ (earlier : w.id.epoch < (coordinator_state (durable ++ staged)).epoch). inl (
          w.id,
          flow.id,
          record {
            reopened = since;
            later = λ kept m k. subst (λ (c : CoordinatorState). w.id.epoch < c.epoch) (one_memory now.nodes (coordinator_state durable) (coordinator_state (durable ++ staged)) kept m known k) earlier;
          },
        ))
        (λ here. of_shard here)
        (later_or_open (coordinator_state durable) (coordinator_state (durable ++ staged)) known)
    by_coordinator since down is = inl (w.id, flow.id, record { reopened = since; later = λ kept m k. let both : down ≡ up k.durable k.staged = sym is ∙ k.is_up in absurd cc })
    by_coordinator since (refused e) is = inl (w.id, flow.id, record { reopened = since; later = λ kept m k. let both : refused e ≡ up k.durable k.staged = sym is ∙ k.is_up in absurd cc })

    cut_off : IsCutOff now.nodes r (writing h)
    cut_off = ⊎_elim
        (λ since. by_coordinator since (now.nodes.at coordinator) refl)
        (λ no. of_shard (own.not_reopened intent has_it no))
        (cases_Bool r.is_reopened)

pub refused_intents : (store shards : ℕ) (left : NodeName → List Record → Type 0) → RefusedIntents store shards left
refused_intents store shards left now r h w intent st flow has_it closed = inl (w.id, flow.id, lost store shards left now r h w intent st flow has_it closed)

pub refused_tickets : (store shards : ℕ) (left : NodeName → List Record → Type 0) → RefusedTickets store shards left
refused_tickets store shards left now r h w intent t memory st flow has_it has_t knows gone = cut_off store shards left now r h w intent st flow has_it t memory has_t knows gone
