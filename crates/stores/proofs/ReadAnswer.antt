-- What shards answer, one after another, is what a tupleset selects of the whole store.
use Rattle.std.proofs.Common.{◌≡◌, inl, inr, ⊎_elim, ◌==◌, ◌&&◌, ℕ, Bool, ◌≤◌, ◌<◌, ◌+◌, List, [], ◌∷◌, ◌++◌, length, take, Some, None, slice_get, refl, sym, ◌∙◌, ap, subst, arith}
use Rattle.std.proofs.Math.Path.{fun_ext}
use Rattle.std.proofs.lemmas.List.{length_push}
use Rattle.std.proofs.lemmas.Option.{same_Some, slice_get_within}
use Rattle.tuples.specs.declared.tuple.Tuple.{Tuple}
use Rattle.tuples.specs.declared.tupleset.Tupleset.{Tupleset}
use Rattle.tuples.specs.Log.{is_at}
use Rattle.tuples.specs.Parts.{shard_of}
use Rattle.tuples.specs.Reads.{IsSelection}
use Rattle.tuples.specs.Versions.{there_at}
use Rattle.tuples.proofs.Lists.{slice_get_push}
use Rattle.records.specs.declared.record.Record.{Record}
use Rattle.records.specs.Coordinators.{coordinator_state}
use Rattle.records.specs.Replays.{ShardState}
use Rattle.stores.specs.Flows.{Freshness, ReadHolds}
use Rattle.stores.specs.Held.{IsRightRead}
use Rattle.stores.specs.Moments.{Moment, Running}
use Rattle.laws.specs.Nodes.{NodeName, NodeState, ShardKnows, coordinator, leaves, shard, staged_of}
use Rattle.stores.specs.ReadingLaws.{IsMerged, IsReading, IsShardReply, ReadsAgree, ReadsAskAll, ReadsBegin, ReadsFinishOne, ReadsGoOn, RepliesSelect, ShardRowsShowSnapshots, there_of}
use Rattle.stores.specs.Replies.{IsPlaceOf, IsReadAnswer}
use Rattle.laws.specs.Shards.{ShardMeans, there_below}
use Rattle.stores.specs.Stands.{Stands}
use Rattle.laws.proofs.Lists.{slice_get_taken}
use Rattle.laws.proofs.Logs.{log_taken}
use Rattle.laws.proofs.ReadRows.{first_writes, none_below, rows_go_on, rows_of_all}
use Rattle.laws.proofs.ShardRows.{rows_show_parts}

pub shard_rows_show_snapshots : ShardRowsShowSnapshots
shard_rows_show_snapshots shards s log hc h state place t is_log m above within =
    rows_show_parts shards s log state.rows state.learned state.horizon place t (λ j w at. is_log.whole j w (slice_get_taken state.learned log j w at)) m.rows above within

pub reads_begin : (store shards : ℕ) (left : NodeName → List Record → Type 0) → ReadsBegin store shards left
reads_begin store shards left now r fresh sets h place right none found =
    let empty = right.nothing none in
    record {
      heads = right.heads;
      place = λ s is. subst (IsPlaceOf fresh r now.machine) (same_Some place s is) found;
      done = λ s i q rows is at_set at_row. let within = slice_get_within h.done i rows at_row in absurd (omega (arith, within, ap length empty.0));
      few = right.few;
      rows = λ s q is at. subst (λ (rows : List Tuple). IsSelection (there_below shards h.below now.machine.log s) q rows) (sym empty.2)
          (subst (λ (n : ℕ). IsSelection (there_below shards n now.machine.log s) q []) (sym empty.1) (none_below shards now.machine.log s q));
      nothing = λ is. absurd cc;
      batch = right.batch;
    }

module _ (store shards : ℕ) (left : NodeName → List Record → Type 0) (now : Moment) where
  -- a shard's rows show at a kept place which of its own tuples were there
  pub rows_show : (s place : ℕ) (memory : ShardState) → Stands store shards left now → ((found : List Record) × left coordinator found) → s < shards → place ≤ now.machine.kept
      → ShardKnows now.nodes s memory → memory.horizon ≤ place → place ≤ memory.learned → there_at memory.rows place ≡ there_of shards s now.machine.log place
  rows_show s place memory st some lt low k above learned =
      let was = st.rests.each some.0 (some.0, some.1, inl refl) in
      let durable : left (shard s) k.durable = (st.nodes.durable (shard s) k.durable k.staged k.durable k.is_up).1 refl in
      let here : leaves left now.nodes (shard s) (k.durable ++ k.staged) = (k.durable, durable, inr (ap (λ (n : NodeState). k.durable ++ staged_of n) (sym k.is_up))) in
      let means : ShardMeans shards s (take was.0 now.machine.log) (coordinator_state some.0).horizon now.machine.horizon memory = subst (λ (x : ShardState). ShardMeans shards s (take was.0 now.machine.log) (coordinator_state some.0).horizon now.machine.horizon x) (sym k.replayed) (was.3.each_shard s (k.durable ++ k.staged) lt here).means in
      fun_ext (λ t.
      shard_rows_show_snapshots shards s (take was.0 now.machine.log) (coordinator_state some.0).horizon now.machine.horizon memory place t (log_taken was.0 now.machine.log was.2 st.rests.is_log) means above learned
      ∙ ap (λ (b : Bool). b && (shard_of shards t.object == s)) (first_writes now.machine.log was.0 place (omega (arith, low, was.1)) t))

  pub replies_select : (s place : ℕ) (q : Tupleset) (rows : List Tuple) → Stands store shards left now
      → ((found : List Record) × left coordinator found) → s < shards → place ≤ now.machine.kept → IsShardReply now s place q rows
      → IsSelection (there_of shards s now.machine.log place) q rows
  replies_select s place q rows st some lt low reply =
      subst (λ (there : Tuple → Bool). IsSelection there q rows) (rows_show s place reply.memory st some lt low reply.knows reply.above reply.learned) reply.selected

  module _ (r : Running) (fresh : Freshness) (sets : List Tupleset) (h : ReadHolds) (place : ℕ) (right : IsRightRead shards left now r fresh sets h) where
    same_place : (s : ℕ) → h.place ≡ Some place → h.place ≡ Some s → place ≡ s
    same_place s at is = same_Some place s (sym at ∙ is)

    pub reads_go_on : (q : Tupleset) (more merged : List Tuple) → IsReading sets h place q → IsSelection (there_of shards h.below now.machine.log place) q more → IsMerged h.rows more merged
        → IsRightRead shards left now r fresh sets (record h { below = h.below + 1; rows = merged })
    reads_go_on q more merged reading selects merges = record {
      heads = right.heads;
      place = right.place;
      done = right.done;
      few = right.few;
      rows = λ s p is at.
          let same : q ≡ p = same_Some q p (sym reading.next ∙ at) in
          subst (λ (x : Tupleset). IsSelection (there_below shards (h.below + 1) now.machine.log s) x merged) same
          (subst (λ (x : ℕ). IsSelection (there_below shards (h.below + 1) now.machine.log x) q merged) (same_place s reading.at_place is) selected);
      nothing = λ none. let both : None ≡ Some place = sym none ∙ reading.at_place in absurd cc;
      batch = right.batch;
    }
      where
        selected : IsSelection (there_below shards (h.below + 1) now.machine.log place) q merged
        selected = rows_go_on shards now.machine.log place q h.below h.rows more merged (right.rows place q reading.at_place reading.next) selects merges

    pub reads_ask_all : (q : Tupleset) → 1 ≤ shards → IsReading sets h place q → h.below ≡ shards → IsSelection (is_at now.machine.log place) q h.rows
    reads_ask_all q some reading all = rows_of_all shards now.machine.log place q h.rows h.below some all (right.rows place q reading.at_place reading.next)

    pub reads_finish_one : (q : Tupleset) (rows : List Tuple) → IsReading sets h place q → IsSelection (is_at now.machine.log place) q rows
        → IsRightRead shards left now r fresh sets (record h { done = h.done ++ rows ∷ []; below = 0; rows = [] })
    reads_finish_one q rows reading selects = record {
      heads = right.heads;
      place = right.place;
      done = λ s i p row is at_set at_row. ⊎_elim
          (λ old. right.done s i p row is at_set old)
          (λ new.
          let same_set : q ≡ p = same_Some q p (sym reading.next ∙ ap (slice_get sets) (sym new.0) ∙ at_set) in
          subst (λ (x : ℕ). IsSelection (is_at now.machine.log x) p row) (same_place s reading.at_place is)
          (subst (λ (x : Tupleset). IsSelection (is_at now.machine.log place) x row) same_set
          (subst (λ (x : List Tuple). IsSelection (is_at now.machine.log place) q x) new.1 selects)))
          (slice_get_push h.done rows row i at_row);
      few = let lt : length h.done < length sets = slice_get_within sets (length h.done) q reading.next in omega (arith, lt, length_push h.done rows);
      rows = λ s p is at. none_below shards now.machine.log s p;
      nothing = λ none. let both : None ≡ Some place = sym none ∙ reading.at_place in absurd cc;
      batch = right.batch;
    }

    pub reads_agree : h.place ≡ Some place → length h.done ≡ length sets → IsReadAnswer fresh sets r now.machine place h.done
    reads_agree at all = record { place = right.place place at; all = all; each = λ i q row at_set at_row. right.done place i q row at at_set at_row }

pub reads_go_on_all : (store shards : ℕ) (left : NodeName → List Record → Type 0) → ReadsGoOn store shards left
reads_go_on_all store shards left now r fresh sets h place q more merged right reading selects merges = reads_go_on store shards left now r fresh sets h place right q more merged reading selects merges

pub reads_ask_all_of : (store shards : ℕ) (left : NodeName → List Record → Type 0) → ReadsAskAll store shards left
reads_ask_all_of store shards left now r fresh sets h place q some right reading all = reads_ask_all store shards left now r fresh sets h place right q some reading all

pub reads_finish : (store shards : ℕ) (left : NodeName → List Record → Type 0) → ReadsFinishOne store shards left
reads_finish store shards left now r fresh sets h place q rows right reading selects = reads_finish_one store shards left now r fresh sets h place right q rows reading selects

pub reads_answer : (store shards : ℕ) (left : NodeName → List Record → Type 0) → ReadsAgree store shards left
reads_answer store shards left now r fresh sets h place right at all = reads_agree store shards left now r fresh sets h place right at all

pub all_replies_select : (store shards : ℕ) (left : NodeName → List Record → Type 0) → RepliesSelect store shards left
all_replies_select store shards left now s place q rows st some lt low reply = replies_select store shards left now s place q rows st some lt low reply
