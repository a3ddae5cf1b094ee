-- A flow begins: what the others hold stays right, and it holds nothing that is wrong.
use Rattle.std.proofs.Common.{◌≡◌, inl, ⊎_elim, ◌==◌, ℕ, zero, suc, Bool, true, false, List, [], ◌∷◌, ◌++◌, Option, Some, None, slice_get, slice_index_or, Contains, refl, sym, ◌∙◌, ap, subst, arith, if◌then◌else◌}
use Rattle.std.proofs.lemmas.Bool.{eq-eqb, false≢true}
use Rattle.std.proofs.lemmas.List.Elements.{All-nil, Contains-append_right}
use Rattle.std.proofs.lemmas.Option.{none-some, same_Some}
use Rattle.stores.proofs.Words.{AreHeldHeads, Asked, Entry, HasSeenBelow, IsQuietFlow, IsRight, IsRightResolved, IsRightSettled, IsRightVerdict, Moment, NodeName, Record, Refusal, Running, WriteId, begun, flow_at, id_of, named_by, onward, outward, to_check, to_collect, to_flush, to_learn, to_raise, to_read, to_resolve, to_watch, to_write, with_flow}
use Rattle.stores.specs.Flows.{nothing_held}
use Rattle.stores.specs.FlowLaws.{FlowsBegin}
use Rattle.stores.proofs.Frames.{KeepsStore, KeepsWrite, frame, same_doubts, same_knew}
use Rattle.tuples.proofs.Lists.{first_or_later}

module _ (shards : ℕ) (left : NodeName → List Record → Type 0) (now : Moment) (running : List Running) (told : List WriteId) (named : List ℕ) where
  -- the moment with other flows
  abbrev next : Moment
  next = record now { running = running; told = told; named = named }

  pub same_verdict : (id : WriteId) → IsRightVerdict shards left now id → IsRightVerdict shards left next id
  same_verdict id v = record { given = v.given; closed = v.closed; none = v.none }

  -- What a flow holds stays right while the machine and the nodes are the same.
  pub same_right : (r : Running) → ((x : ℕ) → Contains now.named x → Contains named x) → IsRight shards left now r r.asked r.holds → IsRight shards left next r r.asked r.holds
  same_right r more = frame shards left left now next false keeps r r.asked r.holds (λ w is. keeps_write w)
    where
      keeps : KeepsStore shards left left now next false
      keeps = record {
        kept = omega arith;
        horizon = omega arith;
        same_log = refl;
        listed = λ j w is. inl is;
        was_open = λ w given is. is;
        coordinator_knew = λ kept memory knows. inl (same_knew shards left left now next false refl (omega arith) (λ j w is. is) refl kept memory knows);
        given_out = λ id g. g.epoch;
        epochs = λ t epoch is. is;
        settled = λ t place is. is;
        taken = λ unopened x is. is;
        named = more;
      }

      keeps_write : (w : Entry) → KeepsWrite shards left left now next false false w
      keeps_write w = record {
        is_open = λ unopened is. is;
        unlisted = λ is. is;
        conditions = λ u here t found p lt is has hold. hold;
        doubts = same_doubts shards left left now next false (λ t. refl) (λ t rs is. is) w;
      }

-- no flow stands in a slot that is free
free_slot : (slot : ℕ) (rs : List Running) (j : ℕ) (r : Running) → flow_at slot rs ≡ None → slice_get rs j ≡ Some r → r.slot ≡ slot → ⊥
free_slot slot [] zero r free is same = none-some _ is
free_slot slot [] (suc j) r free is same = none-some _ is
free_slot slot (q ∷ rs) j r free is same = by_slot j is (q.slot == slot) refl (λ k more is_k. free_slot slot rs k r more is_k same)
  where
    by_slot : (k : ℕ) → slice_get (q ∷ rs) k ≡ Some r → (b : Bool) → (q.slot == slot) ≡ b → ((k : ℕ) → flow_at slot rs ≡ None → slice_get rs k ≡ Some r → ⊥) → ⊥
    by_slot zero here b eq rest = none-some _ (sym free ∙ ap (λ c. if c then Some q else flow_at slot rs) (eq-eqb q.slot slot (ap (λ (x : Running). x.slot) (same_Some q r here) ∙ same)))
    by_slot (suc k) there true eq rest = none-some _ (sym free ∙ ap (λ c. if c then Some q else flow_at slot rs) eq)
    by_slot (suc k) there false eq rest = rest k (ap (λ c. if c then Some q else flow_at slot rs) (sym eq) ∙ free) there

-- a flow that begins has no write yet
pub no_id : (asked : Asked) → id_of (nothing_held asked) ≡ None
no_id (to_write changes conditions) = refl
no_id (to_read fresh sets) = refl
no_id (to_check fresh x u) = refl
no_id (to_watch c limit names) = refl
no_id (to_flush n) = refl
no_id (to_learn s) = refl
no_id (to_resolve s) = refl
no_id (to_raise x) = refl
no_id (to_collect s) = refl

pub alone : {X : Type 0} (x : X) (xs : List X) → Contains (x ∷ xs) x
alone x xs = (0, omega arith, refl)

module _ (store shards : ℕ) (left : NodeName → List Record → Type 0) (now : Moment) (slot : ℕ) where
  no_heads_right : (asked : Asked) → AreHeldHeads shards left (with_flow now slot asked) (begun slot asked) (record { heads = None; batch = None })
  no_heads_right asked = record { heads = λ h is. absurd (none-some _ is); batch = λ b is. absurd (none-some _ is) }

  -- what a flow holds before its first call is right
  begun_right : (asked : Asked) → IsRight shards left (with_flow now slot asked) (begun slot asked) asked (nothing_held asked)
  begun_right (to_write changes conditions) = record {
    nothing = λ none. record { intent = refl; tickets = refl; votes = refl; decided = refl; verdict = refl };
    own = λ id is. absurd (none-some _ is);
    same_decision = refl;
    batch = λ b is. absurd (none-some _ is);
    out = λ met is. absurd (not_out met is);
    cancelled = λ is none. absurd (false≢true is);
    refused_or_cancelled = λ is. absurd (not_out None is);
  }
    where
      not_out : (met : Option Refusal) → onward ≡ outward met → ⊥
      not_out met is = cc
  begun_right (to_read fresh sets) = record {
    heads = λ h is. absurd (none-some _ is);
    place = λ s is. absurd (none-some _ is);
    done = λ s i q rows is at_q at_rows. absurd (none-some _ is);
    few = omega arith;
    rows = λ s q is at_q. absurd (none-some _ is);
    nothing = λ none. (refl, refl, refl);
    batch = λ b is. absurd (none-some _ is);
  }
  begun_right (to_check fresh x u) = record {
    heads = λ h is. absurd (none-some _ is);
    place = λ s is. absurd (none-some _ is);
    nothing = λ none. (refl, refl);
    walk = λ s is. absurd (none-some _ is);
    batch = λ b is. absurd (none-some _ is);
  }
  begun_right (to_watch c limit names) = no_heads_right (to_watch c limit names)
  begun_right (to_flush n) = tt
  begun_right (to_learn s) = no_heads_right (to_learn s)
  begun_right (to_resolve s) = record {
    found = All-nil (IsRightResolved shards left (with_flow now slot (to_resolve s)));
    verdict = λ id is. absurd (none-some _ is);
    batch = λ b is. absurd (none-some _ is);
  }
  begun_right (to_raise x) = record {
    named = alone x now.named;
    heads = λ h is. absurd (none-some _ is);
    settled = All-nil (IsRightSettled shards left x);
    batch = λ b is. absurd (none-some _ is);
    raised = λ is same. absurd (false≢true is);
  }
  begun_right (to_collect s) = no_heads_right (to_collect s)

pub flows_begin : (store shards : ℕ) (left : NodeName → List Record → Type 0) → FlowsBegin store shards left
flows_begin store shards left now slot asked free few st = record {
  rests = st.rests;
  nodes = st.nodes;
  heads = st.heads;
  listed = st.listed;
  locks = st.locks;
  ids = st.ids;
  flows = record {
    few = omega (arith, few);
    slots = slots;
    ids = ids;
    held = λ r has. ⊎_elim
        (λ new. subst (λ (q : Running). IsRight shards left (with_flow now slot asked) q q.asked q.holds) new (begun_right store shards left now slot asked))
        (λ old. same_right shards left now (begun slot asked ∷ now.running) now.told (named_by asked ++ now.named) r (λ x is. Contains-append_right (named_by asked) now.named x is) (st.flows.held r old))
        (first_or_later (begun slot asked) r now.running has);
    seen = λ r has. ⊎_elim
        (λ new. subst (HasSeenBelow now.machine) new (λ m none. absurd (omega (arith, none.1))))
        (λ old. st.flows.seen r old)
        (first_or_later (begun slot asked) r now.running has);
    quiet = λ r has. ⊎_elim (λ new. subst IsQuietFlow new (λ no_write. (refl, refl))) (λ old. st.flows.quiet r old) (first_or_later (begun slot asked) r now.running has);
  };
  told = λ j d lt. same_verdict shards left now (begun slot asked ∷ now.running) now.told (named_by asked ++ now.named) (slice_index_or now.told j d) (st.told j d lt);
}
  where
    slots : (i j : ℕ) (q r : Running) → slice_get (begun slot asked ∷ now.running) i ≡ Some q → slice_get (begun slot asked ∷ now.running) j ≡ Some r → q.slot ≡ r.slot → i ≡ j
    slots zero zero q r is_q is_r same = refl
    slots zero (suc j) q r is_q is_r same = absurd (free_slot slot now.running j r free is_r (sym same ∙ sym (ap (λ (x : Running). x.slot) (same_Some _ _ is_q))))
    slots (suc i) zero q r is_q is_r same = absurd (free_slot slot now.running i q free is_q (same ∙ sym (ap (λ (x : Running). x.slot) (same_Some _ _ is_r))))
    slots (suc i) (suc j) q r is_q is_r same = ap suc (st.flows.slots i j q r is_q is_r same)

    ids : (i j : ℕ) (q r : Running) (id : WriteId) → slice_get (begun slot asked ∷ now.running) i ≡ Some q → slice_get (begun slot asked ∷ now.running) j ≡ Some r
        → id_of q.holds ≡ Some id → id_of r.holds ≡ Some id → i ≡ j
    ids zero j q r id is_q is_r has also = absurd (none-some _ (sym (no_id asked) ∙ ap (λ (x : Running). id_of x.holds) (same_Some _ _ is_q) ∙ has))
    ids (suc i) zero q r id is_q is_r has also = absurd (none-some _ (sym (no_id asked) ∙ ap (λ (x : Running). id_of x.holds) (same_Some _ _ is_r) ∙ also))
    ids (suc i) (suc j) q r id is_q is_r has also = ap suc (st.flows.ids i j q r id is_q is_r has also)
