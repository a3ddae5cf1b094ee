-- What a shard's own contracts of a read, of what is in doubt and of what is settled say makes turns of a run.
use Rattle.std.proofs.Common.{◌≡◌, inl, ⊎_elim, ℕ, zero, suc, ◌<◌, ◌+◌, List, [], ◌∷◌, ◌++◌, Some, Contains, refl, sym, ◌∙◌, ap, subst, arith}
use Rattle.std.proofs.lemmas.List.Elements.{All-append, All-cons, All-nil, Contains-append_right}
use Rattle.turns.proofs.Words.{Asked, Collected, Entry, Freshness, HasItsCause, Holds, Identity, IsAsWanted, IsBelow, IsRight, IsRightRaise, IsRightRead, IsRightSettled, IsSelection, IsSettled, Moment, NoMemory, NodeName, RaiseHolds, ReadHolds, Record, Running, ShardIsSeen, ShardView, Stands, StandsAndTurns, State, TakesMemory, Tuple, Tupleset, Unsure, WantsBelow, WasGiven, WriteId, at_least, coordinator, exact, id_of, latest, memory, place_of, raising, reading, shard, there_of, to_raise, to_read, with_call}
use Rattle.shard.specs.Calls.{ReadsAt}
use Rattle.shard.specs.Shards.{ids}
use Rattle.stores.proofs.Batches.{known_means, shards_settle}
use Rattle.stores.proofs.FlowBegins.{alone}
use Rattle.stores.proofs.ReadAnswer.{all_replies_select, reads_finish, reads_go_on_all}
use Rattle.turns.specs.ShardSeamLaws.{ReadOneTurns, ReadTurns, RefusedReadsHaveCause, SettleTurns, ToldDoubtsAreGiven}
use Rattle.turns.proofs.QuietTurns.{nothing_changes, quiet_calls_turn}
use Rattle.laws.proofs.ReadRows.{one_shard_is_enough}
use Rattle.turns.proofs.SeesOn.{sees_on}
use Rattle.turns.proofs.ShardSeam.{known_left, knows}

-- a write with an id that is told
named_so : (ws : List Entry) (id : WriteId) → Contains (ids ws) id → (w : Entry) × Contains ws w × (w.id ≡ id)
named_so [] id has = absurd (omega (arith, has.1))
named_so (w ∷ ws) id (zero, lt, same) = (w, alone w ws, same)
named_so (w ∷ ws) id (suc k, lt, same) = let rest = named_so ws id (k, omega (arith, lt), same) in (rest.0, Contains-append_right (w ∷ []) ws rest.0 rest.1, rest.2)

pub told_doubts_are_given : (store shards : ℕ) (left : NodeName → List Record → Type 0) {D : Type 0} (state : D → State) (honest : D → Type 0) → ToldDoubtsAreGiven store shards left state honest
told_doubts_are_given store shards left state honest now old s told id st seen doubts has =
    let named = named_so (memory old).in_doubt id ((doubts.all id).0 has) in
    subst (WasGiven shards left now.nodes) named.2
    (st.ids.prepares_given s (old.durable ++ old.staged) named.0 seen.there (known_left store shards left now old s seen st) named.1)

-- a place that a flow reads at and that lies below the horizon is the cause of Collected
pub wants_below : (r : Running) (f : Freshness) (h place : ℕ) → place_of r.holds ≡ Some place → IsAsWanted f r place → place < h → WantsBelow h r f
wants_below r latest h place found wanted low = (place, (found, wanted, low))
wants_below r (at_least z) h place found wanted low = (place, (found, wanted.0, low))
wants_below r (exact z) h place found wanted low = let same = wanted.0 in omega (arith, same, low)

module _ (store shards : ℕ) (left : NodeName → List Record → Type 0) {D : Type 0} (now : Moment) (old : ShardView D) (r : Running) (st : Stands store shards left now) (running : Contains now.running r) where
  -- the flow goes on with other rows
  module _ (fresh : Freshness) (sets : List Tupleset) (h : ReadHolds) (asked : r.asked ≡ to_read fresh sets) (holds : r.holds ≡ reading h) where
    held : IsRightRead shards left now r fresh sets h
    held = subst (λ (a : Asked). IsRight shards left now r a (reading h)) asked (subst (λ (x : Holds). IsRight shards left now r r.asked x) holds (st.flows.held r running))

    reads_with : (k : ReadHolds) → IsRightRead shards left now r fresh sets k → StandsAndTurns store shards left now now.nodes r (with_call r (reading k) r.met now.machine)
    reads_with k right = quiet_calls_turn store shards left left now now.nodes now.machine r (reading k) r.met
        (record {
          call = nothing_changes store shards left now st;
          running = running;
          same_id = sym (ap id_of holds);
          right = subst (λ (a : Asked). IsRight shards left now (with_call r (reading k) r.met now.machine) a (reading k)) (sym asked)
              (sees_on shards left now r (reading k) now.machine k.batch right.batch (to_read fresh sets) (reading k) right);
        })
        (inl refl)

    selects : (s place : ℕ) (q : Tupleset) (rows : List Tuple) → ShardIsSeen store shards s now.nodes old → ((found : List Record) × left coordinator found) → h.place ≡ Some place → ReadsAt old place q rows
        → IsSelection (there_of shards s now.machine.log place) q rows
    selects s place q rows seen some at_place reply = all_replies_select store shards left now s place q rows st some seen.there (held.place place at_place).kept
        (record { memory = memory old; knows = knows store shards left now old s seen; learned = reply.learned; above = reply.above; selected = reply.rows_are })

    collected : (s place : ℕ) → ShardIsSeen store shards s now.nodes old → h.place ≡ Some place → place < (memory old).horizon → IsBelow now.machine.horizon r r.asked
    collected s place seen at_place low =
        let means = known_means store shards left now s (memory old) st seen.there (knows store shards left now old s seen) in
        subst (IsBelow now.machine.horizon r) (sym asked) (wants_below r fresh now.machine.horizon place (ap place_of holds ∙ at_place) (held.place place at_place).wanted (omega (arith, low, means.horizon)))

pub read_turns : (store shards : ℕ) (left : NodeName → List Record → Type 0) {D : Type 0} (state : D → State) (honest : D → Type 0) → ReadTurns store shards left state honest
read_turns store shards left state honest now old fresh sets place q rows merged r h st some seen running asked holds is_reading reply is_merged =
    reads_with store shards left now old r st running fresh sets h asked holds (record h { below = h.below + 1; rows = merged })
    (reads_go_on_all store shards left now r fresh sets h place q rows merged (held store shards left now old r st running fresh sets h asked holds) is_reading
    (selects store shards left now old r st running fresh sets h asked holds h.below place q rows seen some is_reading.at_place reply) is_merged)

pub read_one_turns : (store shards : ℕ) (left : NodeName → List Record → Type 0) {D : Type 0} (state : D → State) (honest : D → Type 0) → ReadOneTurns store shards left state honest
read_one_turns store shards left state honest now old s fresh sets place q rows r h st some seen running asked holds is_reading only reply =
    reads_with store shards left now old r st running fresh sets h asked holds (record h { done = h.done ++ rows ∷ []; below = 0; rows = [] })
    (reads_finish store shards left now r fresh sets h place q rows (held store shards left now old r st running fresh sets h asked holds) is_reading
    (one_shard_is_enough shards s now.machine.log place q rows only (selects store shards left now old r st running fresh sets h asked holds s place q rows seen some is_reading.at_place reply)))

pub refused_reads_have_cause : (store shards : ℕ) (left : NodeName → List Record → Type 0) {D : Type 0} (state : D → State) (honest : D → Type 0) → RefusedReadsHaveCause store shards left state honest
refused_reads_have_cause store shards left state honest now behind old s fresh sets place e r h st seen running asked holds at_place is_of = ⊎_elim
    (λ is. (
      subst (HasItsCause shards (shard s) now behind r) (sym is.0) (inl (collected store shards left now old r st running fresh sets h asked holds s place seen at_place is.1)),
      λ same. let both : Collected ≡ Unsure = sym is.0 ∙ same in cc,
    ))
    (λ is. (subst (HasItsCause shards (shard s) now behind r) (sym is) (inl (subst TakesMemory (sym asked) tt)), λ same. let both : NoMemory ≡ Unsure = sym is ∙ same in cc))
    is_of

pub settle_turns : (store shards : ℕ) (left : NodeName → List Record → Type 0) {D : Type 0} (state : D → State) (honest : D → Type 0) → SettleTurns store shards left state honest
settle_turns store shards left state honest now old s x v r h st seen running asked holds enough call = quiet_calls_turn store shards left left now now.nodes now.machine r (raising k) r.met
    (record {
      call = nothing_changes store shards left now st;
      running = running;
      same_id = sym (ap id_of holds);
      right = subst (λ (a : Asked). IsRight shards left now (with_call r (raising k) r.met now.machine) a (raising k)) (sym asked)
          (sees_on shards left now r (raising k) now.machine k.batch right.batch (to_raise x) (raising k) right);
    })
    (inl refl)
  where
    k : RaiseHolds
    k = record h { settled = h.settled ++ v ∷ [] }

    was : IsRightRaise shards left now r x h
    was = subst (λ (a : Asked). IsRight shards left now r a (raising h)) asked (subst (λ (y : Holds). IsRight shards left now r r.asked y) holds (st.flows.held r running))

    of_shard : v.shard ≡ s
    of_shard = call.shard ∙ ap (λ (i : Identity). i.node) seen.me

    settled : IsRightSettled shards left x v
    settled = record {
      there = subst (λ (n : ℕ). n < shards) (sym of_shard) seen.there;
      enough = enough;
      learned = subst (λ (n : ℕ). IsSettled (left (shard n)) v.place) (sym of_shard) (shards_settle store shards left now s v.place old.durable old.staged st seen.at call.place);
    }

    right : IsRightRaise shards left now r x k
    right = record {
      named = was.named;
      heads = was.heads;
      settled = All-append (IsRightSettled shards left x) h.settled (v ∷ []) was.settled (All-cons (IsRightSettled shards left x) v [] settled (All-nil (IsRightSettled shards left x)));
      batch = was.batch;
      raised = was.raised;
    }
