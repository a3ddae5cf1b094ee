-- The calls of a shard leave it tied.
use Rattle.std.proofs.Common.{◌≡◌, ◌⊎◌, inl, inr, ⊎_elim, ℕ, ◌+◌, ◌-◌, ◌≤◌, ◌<◌, List, [], ◌∷◌, ◌++◌, length, take, drop, Some, slice_get, refl, sym, ◌∙◌, ap, subst, arith, append_assoc}
use Rattle.std.proofs.lemmas.Bool.{both_ways, cases_lt}
use Rattle.std.proofs.lemmas.List.{append-nil, drop-drop, drop-take, length-drop, length-take}
use Rattle.std.proofs.lemmas.Option.{slice_get_within}
use Rattle.ties.proofs.Words.{AreAlike, AreRowsOf, AreWhole, Dropped, Entry, Horizon, Identity, IsShardTiedUp, Learned, memory, of_shard, Prepare, Record, shard_node, shard_push, ShardState, ShardView, slice_get_taken, State, WriteId}
use Rattle.tuples.specs.declared.version.Version.{Version}
use Rattle.tuples.specs.Parts.{part}
use Rattle.tuples.specs.Versions.{versions}
use Rattle.tuples.proofs.Options.{none_or_some}
use Rattle.tuples.proofs.Lists.{slice_get_drop, slice_get_take}
use Rattle.records.specs.Replays.{find_in_doubt, shard_state, shard_step}
use Rattle.decisions.specs.Values.{BatchValue}
use Rattle.shard.specs.Shards.{ArePreparedHere, IsUp, Stages, learning, placed_ids_from, unlearned}
use Rattle.laws.proofs.CollectStep.{rows_collected}
use Rattle.laws.proofs.LearnStep.{rows_learned}
use Rattle.ties.specs.ShardTieLaws.{CollectionsStayTied, DropsStayTied, LearningsStayTied, PreparesStayTied, ShardFlushesStayTied}
use Rattle.ties.specs.TellingLaws.{IsBatchOf}
use Rattle.journal.proofs.Staged.{room_or_none}

-- Given a shard that is up and tied
module _ {D : Type 0} (state : D → State) (honest : D → Type 0) (store shards s : ℕ) (old new : ShardView D) (seen : List Entry) (low : ℕ) (tied : IsShardTiedUp state honest store shards s old seen low) where
  -- one more record is staged, which leaves rows of the list
  staged_one : (r : Record) → Stages old r new → IsUp state honest new → AreRowsOf shards s seen low (shard_step (memory old) r) → IsShardTiedUp state honest store shards s new seen low
  staged_one r stages up rows = record {
    up = up;
    now = subst (AreRowsOf shards s seen low) (sym pushed) rows;
    kept = subst (λ (v : ShardView D). AreRowsOf shards s seen low (shard_state v.durable)) (sym stages) tied.kept;
    me = ap (λ (v : ShardView D). v.me) stages ∙ tied.me;
  }
    where
      pushed : memory new ≡ shard_step (memory old) r
      pushed = ap (λ (v : ShardView D). memory v) stages ∙ ap shard_state (sym (append_assoc old.durable old.staged (r ∷ []))) ∙ shard_push (old.durable ++ old.staged) r

  unchanged : new ≡ old → IsShardTiedUp state honest store shards s new seen low
  unchanged same = subst (λ (v : ShardView D). IsShardTiedUp state honest store shards s v seen low) (sym same) tied

  -- a prepare or a drop changes no row
  same_rows : (st : ShardState) → st.learned ≡ (memory old).learned → st.horizon ≡ (memory old).horizon → st.rows ≡ (memory old).rows → AreRowsOf shards s seen low st
  same_rows st learned horizon rows = record {
    learned = let l = tied.now.learned in omega (arith, l, learned);
    horizon = let h = tied.now.horizon in omega (arith, h, horizon);
    within = let w = tied.now.within in omega (arith, w, learned, horizon);
    whole = subst (λ n. AreWhole (take n seen)) (sym learned) tied.now.whole;
    rows = subst (λ (rs : List Version). AreAlike rs (of_shard shards s (versions seen st.learned st.horizon))) (sym rows)
        (subst (λ n. AreAlike (memory old).rows (of_shard shards s (versions seen st.learned n))) (sym horizon)
        (subst (λ n. AreAlike (memory old).rows (of_shard shards s (versions seen n (memory old).horizon))) (sym learned) tied.now.rows));
  }

  pub prepared : (w : Entry) → Stages old (Prepare w) new → IsUp state honest new → IsShardTiedUp state honest store shards s new seen low
  unfolding shard_step
  prepared w stages up = staged_one (Prepare w) stages up (same_rows (shard_step (memory old) (Prepare w)) refl refl refl)

  pub dropped : (id : WriteId) → Stages old (Dropped id) new → IsUp state honest new → IsShardTiedUp state honest store shards s new seen low
  unfolding shard_step
  dropped id stages up = staged_one (Dropped id) stages up (same_rows (shard_step (memory old) (Dropped id)) refl refl refl)

  pub collects : (h : ℕ) → h ≤ low → (memory old).horizon < h → h ≤ (memory old).learned → Stages old (Horizon h) new → IsUp state honest new → IsShardTiedUp state honest store shards s new seen low
  unfolding shard_step
  collects h below above within stages up = staged_one (Horizon h) stages up (record {
    learned = tied.now.learned;
    horizon = below;
    within = within;
    whole = tied.now.whole;
    rows = rows_collected shards s seen (memory old).rows (memory old).learned (memory old).horizon h (omega (arith, above)) tied.now.rows;
  })

  -- Given a batch of the list that goes on from what the shard has learned
  module _ (b : BatchValue) (of_list : IsBatchOf seen b) (from : b.from ≤ (memory old).learned) (more : (memory old).learned < b.from + length b.writes) where
    abbrev p : ℕ
    p = (memory old).learned

    abbrev to : ℕ
    to = b.from + length b.writes

    abbrev seg : List Entry
    seg = take (to - p) (drop p seen)

    within : to ≤ length seen
    within =
        let l = length-take (length b.writes) (drop b.from seen) in
        let d = length-drop b.from seen in
        let s = tied.now.learned in
        omega (arith, ap length of_list.of_list, l, d, s, from, more)

    next_are : unlearned (memory old) b.from b.writes ≡ seg
    next_are =
        let k = p - b.from in
        let cut : length b.writes ≡ k + (to - p) = omega (arith, from, more) in
        let place : b.from + k ≡ p = omega (arith, from) in
        ap (drop k) of_list.of_list
        ∙ ap (λ (l : ℕ). drop k (take l (drop b.from seen))) cut
        ∙ drop-take k (to - p) (drop b.from seen)
        ∙ ap (take (to - p)) (drop-drop k b.from seen ∙ ap (λ n. drop n seen) place)

    whole_to : AreWhole (take to seen)
    whole_to j w is = ⊎_elim
        (λ (lt : j < p). tied.now.whole j w (slice_get_take p seen j lt ∙ there))
        (λ (le : p ≤ j). of_list.whole (j - b.from) w (in_writes le))
        (cases_lt j p)
      where
        there : slice_get seen j ≡ Some w
        there = slice_get_taken to seen j w is

        below : j < to
        below =
            let n = slice_get_within (take to seen) j w is in
            let l = length-take to seen in
            omega (arith, n, l)

        in_writes : p ≤ j → slice_get b.writes (j - b.from) ≡ Some w
        in_writes le =
            let back : b.from + (j - b.from) ≡ j = omega (arith, from, le) in
            ap (λ (l : List Entry). slice_get l (j - b.from)) of_list.of_list
            ∙ slice_get_take (length b.writes) (drop b.from seen) (j - b.from) (omega (arith, from, le, below))
            ∙ slice_get_drop b.from seen (j - b.from) ∙ ap (slice_get seen) back ∙ there

    pub learns : ArePreparedHere old.me (memory old) (unlearned (memory old) b.from b.writes) → Stages old (learning old.me (memory old) b.from b.writes) new → IsUp state honest new
        → IsShardTiedUp state honest store shards s new seen low × (to ≤ (memory new).learned)
    unfolding shard_step
    learns prepared_here stages up = (
      staged_one record_of (stages ∙ ap (λ (r : Record). record old { staged = old.staged ++ r ∷ [] }) record_is) up rows,
      omega (arith, ap (λ (st : ShardState). st.learned) (memory_is (stages ∙ ap (λ (r : Record). record old { staged = old.staged ++ r ∷ [] }) record_is))),
    )
      where
        record_of : Record
        record_of = Learned to (placed_ids_from shards s (p + 1) seg)

        record_is : learning old.me (memory old) b.from b.writes ≡ record_of
        record_is =
            ap (λ (me : Identity). learning me (memory old) b.from b.writes) tied.me
            ∙ ap (λ (l : List Entry). Learned to (placed_ids_from shards s (p + 1) l)) next_are

        memory_is : Stages old record_of new → memory new ≡ shard_step (memory old) record_of
        memory_is is = ap (λ (v : ShardView D). memory v) is ∙ ap shard_state (sym (append_assoc old.durable old.staged (record_of ∷ []))) ∙ shard_push (old.durable ++ old.staged) record_of

        here : ArePreparedHere (shard_node store shards s) (memory old) seg
        here = subst (λ (l : List Entry). ArePreparedHere (shard_node store shards s) (memory old) l) next_are
            (subst (λ (me : Identity). ArePreparedHere me (memory old) (unlearned (memory old) b.from b.writes)) tied.me prepared_here)

        rows : AreRowsOf shards s seen low (shard_step (memory old) record_of)
        rows = record {
          learned = within;
          horizon = tied.now.horizon;
          within = let w = tied.now.within in omega (arith, w, more);
          whole = whole_to;
          rows = rows_learned shards s seen (memory old).rows (memory old).in_doubt p to (memory old).horizon tied.now.within (omega (arith, more)) tied.now.learned tied.now.rows here;
        }

module _ {D : Type 0} (state : D → State) (honest : D → Type 0) (store shards s : ℕ) where
  pub prepares_stay_tied : PreparesStayTied state honest store shards s
  prepares_stay_tied old new w t seen low tied prepares = prepared state honest store shards s old new seen low tied (part old.me.shards old.me.node w) prepares.stages prepares.up

  pub drops_stay_tied : DropsStayTied state honest store shards s
  drops_stay_tied old new id seen low tied drops = ⊎_elim
      (λ none. unchanged state honest store shards s old new seen low tied (drops.not_here none))
      (λ some. ⊎_elim
      (λ full. unchanged state honest store shards s old new seen low tied (drops.full full))
      (λ room. let d = drops.dropped some room in dropped state honest store shards s old new seen low tied id d.0 d.1)
      (room_or_none old.staged (Dropped id)))
      (none_or_some (find_in_doubt id (memory old).in_doubt))

  pub learnings_stay_tied : LearningsStayTied state honest store shards s
  learnings_stay_tied old new b is_known seen low tied of_list call = ⊎_elim
      (λ (ahead : (memory old).learned < b.from).
      let n = call.ahead ahead in (
        unchanged state honest store shards s old new seen low tied n.1,
        λ known. absurd (both_ways is_known n.0 known),
      ))
      (λ (low_enough : b.from ≤ (memory old).learned). ⊎_elim
      (λ (more : (memory old).learned < b.from + length b.writes).
      let n = call.more (record { from = low_enough; to = more }) in
      let l = learns state honest store shards s old new seen low tied b of_list low_enough more n.3.prepared n.1 n.2 in
      (l.0, λ known. l.1))
      (λ (all : b.from + length b.writes ≤ (memory old).learned).
      let n = call.known all in (
        unchanged state honest store shards s old new seen low tied n.1,
        λ known. subst (λ (v : ShardView D). b.from + length b.writes ≤ (memory v).learned) (sym n.1) all,
      ))
      (cases_lt (memory old).learned (b.from + length b.writes)))
      (cases_lt (memory old).learned b.from)

  pub collections_stay_tied : CollectionsStayTied state honest store shards s
  collections_stay_tied old new h seen low tied below call = ⊎_elim
      (λ (above : (memory old).horizon < h). ⊎_elim
      (λ (far : (memory old).learned < h). unchanged state honest store shards s old new seen low tied (call.nothing (inl far)))
      (λ (within : h ≤ (memory old).learned). let c = call.raised above within in collects state honest store shards s old new seen low tied h below above within c.0 c.1)
      (cases_lt (memory old).learned h))
      (λ (known : h ≤ (memory old).horizon). unchanged state honest store shards s old new seen low tied (call.nothing (inr known)))
      (cases_lt (memory old).horizon h)

  pub shard_flushes_stay_tied : ShardFlushesStayTied state honest store shards s
  shard_flushes_stay_tied old new seen low tied flushes me =
      let durable : shard_state new.durable ≡ memory old = ap shard_state flushes.durable in
      let now : memory new ≡ memory old = ap (λ (l : List Record). shard_state (new.durable ++ l)) flushes.staged ∙ ap shard_state (append-nil new.durable) ∙ durable in
      record {
        up = flushes.up;
        now = subst (AreRowsOf shards s seen low) (sym now) tied.now;
        kept = subst (AreRowsOf shards s seen low) (sym durable) tied.now;
        me = me ∙ tied.me;
      }
