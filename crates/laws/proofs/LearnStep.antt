-- A shard learns a batch of decisions.
use Rattle.std.proofs.Common.{◌≡◌, inl, inr, ⊎_elim, ℕ, zero, suc, true, false, ◌+◌, ◌-◌, ◌<◌, ◌≤◌, List, [], ◌∷◌, ◌++◌, length, take, drop, Some, None, slice_get, refl, sym, ◌∙◌, ap, arith}
use Rattle.std.proofs.lemmas.Bool.{cases_Bool, cases_lt}
use Rattle.std.proofs.lemmas.List.{length-take-le, length-take}
use Rattle.std.proofs.lemmas.List.Elements.{filter-append}
use Rattle.std.proofs.Math.Seq.{take-add}
use Rattle.std.proofs.lemmas.Option.{slice_get_within}
use Rattle.laws.specs.Shards.{ShardMeans}
use Rattle.records.specs.Replays.{ShardState, shard_step, learned_rows, find_in_doubt}
use Rattle.shard.specs.Shards.{placed_ids_from}
use Rattle.tuples.specs.Log.{AreNew}
use Rattle.tuples.specs.Parts.{expected, part, takes_part}
use Rattle.tuples.specs.Versions.{changes_from, of_shard, collected, versions}
use Rattle.tuples.specs.declared.entry.Entry.{Entry}
use Rattle.tuples.specs.declared.entry.WriteId.{WriteId}
use Rattle.tuples.specs.declared.version.Version.{Version}
use Rattle.tuples.proofs.Lists.{slice_get_drop, slice_get_take}
use Rattle.records.specs.declared.record.PlacedId.{PlacedId}
use Rattle.records.specs.declared.record.Record.TheVariants.{Learned}
use Rattle.replay.proofs.Doubts.{HasPlacedId, none_stays, find_learned, find_not_learned}
use Rattle.laws.proofs.Rows.{ArePreparedIn, above_changes, changes_from-append, collected-append, rows_of_segment}
use Rattle.versions.proofs.Alike.{alike_refl, alike_same, alike_trans, append_alike}
use Rattle.versions.specs.Alike.{AreAlike}

has_placed_id : (shards s place : ℕ) (seg : List Entry) (j : ℕ) (w : Entry) → slice_get seg j ≡ Some w → takes_part shards s w ≡ true → HasPlacedId w.id (placed_ids_from shards s place seg)
has_placed_id shards s place [] j w is takes = absurd cc
has_placed_id shards s place (v ∷ seg) zero w is takes =
    let same : v ≡ w = cc in
    let yes : takes_part shards s v ≡ true = ap (takes_part shards s) same ∙ takes in
    rw yes (inl (ap (λ (u : Entry). u.id) same))
has_placed_id shards s place (v ∷ seg) (suc j) w is takes =
    let there = has_placed_id shards s (place + 1) seg j w is takes in
    ⊎_elim (λ yes. rw yes (inr there)) (λ none. rw none there) (cases_Bool (takes_part shards s v))

pub part_is_from : (shards s place : ℕ) (seg : List Entry) (id : WriteId) → HasPlacedId id (placed_ids_from shards s place seg) → (j : ℕ) × (w : Entry) × (slice_get seg j ≡ Some w) × (w.id ≡ id)
part_is_from shards s place [] id has = absurd has
part_is_from shards s place (v ∷ seg) id has = ⊎_elim
    (λ yes. ⊎_elim
    (λ here. (zero, v, refl, here))
    (λ there. let r = part_is_from shards s (place + 1) seg id there in (suc r.0, r.1, r.2, r.3))
    (rw yes at has))
    (λ none. let r = part_is_from shards s (place + 1) seg id (rw none at has) in (suc r.0, r.1, r.2, r.3))
    (cases_Bool (takes_part shards s v))

-- rows that stand for the first writes of a list stand for more of them with the rows that learning those adds
pub rows_learned : (shards s : ℕ) (log : List Entry) (rows : List Version) (ws : List Entry) (p to h : ℕ) → h ≤ p → p ≤ to → p ≤ length log
    → AreAlike rows (of_shard shards s (versions log p h)) → ArePreparedIn shards s ws (take (to - p) (drop p log))
    → AreAlike (rows ++ learned_rows (placed_ids_from shards s (p + 1) (take (to - p) (drop p log))) ws) (of_shard shards s (versions log to h))
unfolding versions
rows_learned shards s log rows ws p to h low from within alike prepared =
    let seg : List Entry = take (to - p) (drop p log) in
    let first : List Version = collected h (changes_from 1 (take p log)) in
    let split : take to log ≡ take p log ++ seg = ap (λ n. take n log) (let e : to ≡ p + (to - p) = omega arith in e) ∙ take-add p (to - p) log in
    let len : length (take p log) ≡ p = length-take-le p log within in
    let start : 1 + length (take p log) ≡ p + 1 = omega arith in
    let all : changes_from 1 (take to log) ≡ changes_from 1 (take p log) ++ changes_from (p + 1) seg =
    ap (changes_from 1) split ∙ changes_from-append 1 (take p log) seg ∙ ap (λ n. changes_from 1 (take p log) ++ changes_from n seg) start in
    let kept : collected h (changes_from 1 (take to log)) ≡ first ++ changes_from (p + 1) seg =
    ap (collected h) all ∙ collected-append h (changes_from 1 (take p log)) (changes_from (p + 1) seg) (above_changes h (p + 1) seg (omega (arith, low))) in
    alike_trans
    (append_alike alike (alike_refl (learned_rows (placed_ids_from shards s (p + 1) seg) ws)))
    (alike_same _ _ (ap (λ (l : List Version). of_shard shards s first ++ l) (rows_of_segment shards s (p + 1) seg ws prepared)
    ∙ sym (filter-append _ first (changes_from (p + 1) seg))
    ∙ ap (of_shard shards s) (sym kept)))

module _ (shards s : ℕ) (log : List Entry) (hc h : ℕ) (state : ShardState) (to : ℕ) (m : ShardMeans shards s log hc h state) (le_h : h ≤ hc) (from : state.learned ≤ to) (within : to ≤ length log) (new : AreNew log) where
  p : ℕ
  p = state.learned

  abbrev seg : List Entry
  seg = take (to - state.learned) (drop state.learned log)

  abbrev placed_ids : List PlacedId
  placed_ids = placed_ids_from shards s (state.learned + 1) seg

  in_log : (j : ℕ) (w : Entry) → slice_get seg j ≡ Some w → (j < to - state.learned) × (slice_get log (state.learned + j) ≡ Some w)
  in_log j w is =
      let lt : j < length seg = slice_get_within seg j w is in
      let len : length seg ≤ to - state.learned = omega (arith, length-take (to - state.learned) (drop state.learned log)) in
      let below : j < to - state.learned = omega arith in
      (below, sym (slice_get_drop state.learned log j) ∙ sym (slice_get_take (to - state.learned) (drop state.learned log) j below) ∙ is)

  in_seg : (j : ℕ) (w : Entry) → slice_get log j ≡ Some w → state.learned ≤ j → j < to → slice_get seg (j - state.learned) ≡ Some w
  in_seg j w is le lt =
      let back : state.learned + (j - state.learned) ≡ j = omega arith in
      slice_get_take (to - state.learned) (drop state.learned log) (j - state.learned) (omega arith) ∙ slice_get_drop state.learned log (j - state.learned) ∙ ap (slice_get log) back ∙ is

  found_all : (j : ℕ) (w : Entry) → slice_get seg j ≡ Some w → find_in_doubt w.id state.in_doubt ≡ expected shards s w
  found_all j w is = let at = in_log j w is in m.in_doubt.above (state.learned + j) w at.1 (omega arith)

  taken : (w : Entry) → takes_part shards s w ≡ true → expected shards s w ≡ Some (part shards s w)
  unfolding expected
  taken w takes = rw takes refl

  rows_after : AreAlike (state.rows ++ learned_rows placed_ids state.in_doubt) (of_shard shards s (versions log to state.horizon))
  rows_after = rows_learned shards s log state.rows state.in_doubt state.learned to state.horizon (omega (arith, m.horizon, m.settled, le_h)) from m.learned m.rows (λ j w is takes. found_all j w is ∙ taken w takes)

  absent : (w : Entry) → takes_part shards s w ≡ false → expected shards s w ≡ None
  unfolding expected
  absent w none = rw none refl

  pub learned_means : ShardMeans shards s log hc h (shard_step state (Learned to placed_ids))
  unfolding shard_step
  learned_means = record {
    learned = within;
    horizon = m.horizon;
    rows = rows_after;
    settled = omega (arith, m.settled);
    in_doubt = record {
      above = λ j w is le.
          find_not_learned w.id placed_ids state.in_doubt (λ has.
          let r = part_is_from shards s (state.learned + 1) seg w.id has in
          let at = in_log r.0 r.1 r.2 in
          let same : state.learned + r.0 ≡ j = new (state.learned + r.0) j r.1 w at.1 is r.3 in
          omega (arith, at.0, same, le))
          ∙ m.in_doubt.above j w is (omega (arith, from, le));
      below = λ j w is lt. ⊎_elim
          (λ before. none_stays w.id placed_ids state.in_doubt (m.in_doubt.below j w is before))
          (λ after.
          let here = in_seg j w is after lt in
          ⊎_elim
          (λ yes. find_learned w.id placed_ids state.in_doubt (has_placed_id shards s (state.learned + 1) seg (j - state.learned) w here yes))
          (λ none. none_stays w.id placed_ids state.in_doubt (m.in_doubt.above j w is after ∙ absent w none))
          (cases_Bool (takes_part shards s w)))
          (cases_lt j state.learned);
    };
  }
