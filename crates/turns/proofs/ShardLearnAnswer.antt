-- A learning is done if its shard learns up to the kept place of its heads.
use Rattle.std.proofs.Common.{◌≡◌, ◌⊎◌, inl, inr, ⊎_elim, ℕ, ◌≤◌, ◌<◌, ◌+◌, true, true≢false, List, length, Some, Contains, refl, sym, ap, subst, arith}
use Rattle.std.proofs.lemmas.Bool.{cases_lt}
use Rattle.turns.proofs.Words.{AreHeldHeads, Asked, HeadsHeld, HeadsValue, Holds, IsRight, IsRightBatch, Moment, NodeName, Record, Running, ShardKnows, ShardState, ShardView, Stands, State, behind_shard, learns, memory, to_learn}
use Rattle.records.specs.Replays.{shard_step}
use Rattle.shard.specs.Shards.{learning}
use Rattle.turns.specs.ShardSeamLaws.{LearnAnswers}
use Rattle.turns.proofs.AnswerTurns.{learns_end}
use Rattle.turns.proofs.SeesOn.{heads_on}
use Rattle.turns.proofs.ShardLearnSeam.{learns_quietly}
use Rattle.turns.proofs.ShardSeam.{here, memory_after}

module _ (store shards : ℕ) (left : NodeName → List Record → Type 0) (now : Moment) (s : ℕ) (heads : HeadsValue) (r : Running) (h : HeadsHeld)
    (st : Stands store shards left now) (running : Contains now.running r) (asked : r.asked ≡ to_learn s) (holds : r.holds ≡ learns h) (has : h.heads ≡ Some heads) where
  held : AreHeldHeads shards left now r h
  held = subst (λ (a : Asked). IsRight shards left now r a (learns h)) asked (subst (λ (x : Holds). IsRight shards left now r r.asked x) holds (st.flows.held r running))

pub learn_answers : (store shards : ℕ) (left : NodeName → List Record → Type 0) {D : Type 0} (state : D → State) (honest : D → Type 0) → LearnAnswers store shards left state honest
unfolding shard_step
learn_answers store shards left {D} state honest now old new s b heads r h st seen running asked holds has batch call reaches =
    let k : AreHeldHeads shards left now r h = held store shards left now s heads r h st running asked holds has in
    let right : IsRightBatch now.machine b = k.batch b batch in
    let quiet = learns_quietly store shards left state honest now old s r st seen b right new true call in
    let turn = learns_end store shards left left now (behind_shard s now.nodes new) now.machine r s heads (memory new) quiet.1 running asked (heads_on r r.holds now.machine now.machine heads (k.heads heads has)) known (learned (cases_lt (memory old).learned (b.from + length b.writes))) in
    (quiet.0, turn.0, turn.1)
  where
    known : ShardKnows (behind_shard s now.nodes new) s (memory new)
    known = record { durable = new.durable; staged = new.staged; is_up = here s now.nodes new; replayed = refl }

    -- by the record of learning
    to_end : b.from ≤ (memory old).learned → (memory old).learned < b.from + length b.writes → heads.kept ≤ (memory new).learned
    to_end low high =
        let ok = call.more (record { from = low; to = high }) in
        let is : (memory new).learned ≡ b.from + length b.writes = ap (λ (m : ShardState). m.learned) (memory_after store shards left now old s seen new (learning old.me (memory old) b.from b.writes) ok.1 (memory new) known) in
        omega (arith, is, reaches)

    learned : ((memory old).learned < b.from + length b.writes) ⊎ (b.from + length b.writes ≤ (memory old).learned) → heads.kept ≤ (memory new).learned
    learned (inl high) = ⊎_elim
        (λ ahead. absurd (true≢false (call.ahead ahead).0))
        (λ low. to_end low high)
        (cases_lt (memory old).learned b.from)
    learned (inr all) = let same : (memory old).learned ≡ (memory new).learned = ap (λ (v : ShardView D). (memory v).learned) (sym (call.known all).1) in omega (arith, same, all, reaches)
