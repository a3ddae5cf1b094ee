-- What stops leave of a shard, what an opening finds, and what a shard that is tied reads.
use Rattle.std.proofs.Common.{◌≡◌, inl, inr, ⊎_elim, ℕ, ◌≤◌, Bool, true≢false, List, [], ◌∷◌, ◌++◌, length, Some, sym, ◌∙◌, ap, subst, arith, length-append}
use Rattle.std.proofs.Math.Path.{fun_ext}
use Rattle.std.proofs.lemmas.List.{append-nil, take-append-le}
use Rattle.std.proofs.lemmas.Option.{same_Some}
use mathlib.Core.List.{IsPrefix}
use Rattle.ties.proofs.Words.{AreAlike, AreRowsOf, AreWhole, changes_from, device_left, Entry, Identity, IsShardTiedUp, LeavesBoth, memory, of_shard, Record, RowsAnywhere, shard_node, shard_push, ShardState, ShardView, State}
use Rattle.tuples.specs.declared.tuple.Tuple.{Tuple}
use Rattle.tuples.specs.Reads.{IsSelection}
use Rattle.tuples.specs.Walking.{IsCheckSelection}
use Rattle.tuples.specs.Versions.{collected, there_at, versions}
use Rattle.records.specs.Replays.{shard_state, shard_step}
use Rattle.journal.specs.Records.{found}
use Rattle.shard.specs.Shards.{IsOpenedShard, WasLeftOrOpened, opening}
use Rattle.calls.specs.Views.{coordinator, shard, refused}
use Rattle.laws.specs.Shards.{there_of}
use Rattle.laws.proofs.ShardRows.{rows_show_parts}
use Rattle.ties.specs.ShardTieLaws.{CheckReadsAreSeen, FailedShardFlushesStayTied, LongerListsStayTied, ReadsAreSeen, RefusedShardOpeningsStayTied, ShardOpeningsStayTied, ShardTiedUpIsTied}

-- the first writes of a longer list have the same versions
pub same_versions : (seen more : List Entry) (p h : ℕ) → p ≤ length seen → versions (seen ++ more) p h ≡ versions seen p h
unfolding versions
same_versions seen more p h le = ap (λ (l : List Entry). collected h (changes_from 1 l)) (take-append-le p seen more le)

pub rows_longer : (shards s : ℕ) (seen more : List Entry) (low later : ℕ) (st : ShardState) → low ≤ later → AreRowsOf shards s seen low st → AreRowsOf shards s (seen ++ more) later st
rows_longer shards s seen more low later st le rows = record {
  learned = let l = rows.learned in omega (arith, l, length-append seen more);
  horizon = let h = rows.horizon in omega (arith, h, le);
  within = rows.within;
  whole = subst AreWhole (sym (take-append-le st.learned seen more rows.learned)) rows.whole;
  rows = subst (λ v. AreAlike st.rows (of_shard shards s v)) (sym (same_versions seen more st.learned st.horizon rows.learned)) rows.rows;
}

module _ {D : Type 0} (state : D → State) (honest : D → Type 0) (store shards s : ℕ) where
  on_prefix : (seen longer : List Entry) (low later : ℕ) (st : ShardState) → IsPrefix seen longer → low ≤ later → AreRowsOf shards s seen low st → AreRowsOf shards s longer later st
  on_prefix seen longer low later st pre le rows = subst (λ (l : List Entry). AreRowsOf shards s l later st) pre.1 (rows_longer shards s seen pre.0 low later st le rows)

  anywhere_longer : (a b : D) (seen longer : List Entry) (low later : ℕ) → IsPrefix seen longer → low ≤ later → RowsAnywhere state honest shards s a b seen low → RowsAnywhere state honest shards s a b longer later
  anywhere_longer a b seen longer low later pre le was = record {
    honest_a = was.honest_a;
    honest_b = was.honest_b;
    each = λ rs finds. on_prefix seen longer low later (shard_state rs) pre le (was.each rs finds);
  }

  up_longer : (v : ShardView D) (seen longer : List Entry) (low later : ℕ) → IsPrefix seen longer → low ≤ later → IsShardTiedUp state honest store shards s v seen low → IsShardTiedUp state honest store shards s v longer later
  up_longer v seen longer low later pre le tied = record {
    up = tied.up;
    now = on_prefix seen longer low later (memory v) pre le tied.now;
    kept = on_prefix seen longer low later (shard_state v.durable) pre le tied.kept;
    me = tied.me;
  }

  pub longer_lists_stay_tied : LongerListsStayTied state honest store shards s
  longer_lists_stay_tied (shard v) seen longer low later tied pre le = record {
    up = λ up. up_longer v seen longer low later pre le (tied.up up);
    anywhere = anywhere_longer v.a v.b seen longer low later pre le tied.anywhere;
    me = tied.me;
  }
  longer_lists_stay_tied (refused e a b) seen longer low later tied pre le = anywhere_longer a b seen longer low later pre le tied
  longer_lists_stay_tied (coordinator v) seen longer low later tied pre le = absurd tied

  pub shard_tied_up_is_tied : ShardTiedUpIsTied state honest store shards s
  shard_tied_up_is_tied v seen low tied = record {
    up = λ up. tied;
    anywhere = record {
      honest_a = tied.up.honest_a;
      honest_b = tied.up.honest_b;
      each = λ rs finds.
          let same : v.durable ≡ rs = same_Some v.durable rs (sym (tied.up.rest finds.0 finds.1 finds.2 finds.3) ∙ finds.4) in
          subst (λ (l : List Record). AreRowsOf shards s seen low (shard_state l)) same tied.kept;
    };
    me = tied.me;
  }

  -- the rows show the list, of the tuples of this shard
  shows : (v : ShardView D) (place : ℕ) (seen : List Entry) (low : ℕ) → IsShardTiedUp state honest store shards s v seen low → (memory v).horizon ≤ place → place ≤ (memory v).learned
      → there_at (memory v).rows place ≡ there_of shards s seen place
  shows v place seen low tied above within =
      fun_ext (λ t. rows_show_parts shards s seen (memory v).rows (memory v).learned (memory v).horizon place t tied.now.whole tied.now.rows above within)

  pub reads_are_seen : ReadsAreSeen state honest store shards s
  reads_are_seen v place q rows seen low tied reads = (
    let l = tied.now.learned in let p = reads.learned in omega (arith, l, p),
    subst (λ (there : Tuple → Bool). IsSelection there q rows) (shows v place seen low tied reads.above reads.learned) reads.rows_are,
  )

  pub check_reads_are_seen : CheckReadsAreSeen state honest store shards s
  check_reads_are_seen v place x u rows seen low tied reads = (
    let l = tied.now.learned in let p = reads.learned in omega (arith, l, p),
    subst (λ (there : Tuple → Bool). IsCheckSelection there x u rows) (shows v place seen low tied reads.above reads.learned) reads.rows_are,
  )

-- one more opening changes no row
reopened : (me : Identity) (shards s : ℕ) (seen : List Entry) (low : ℕ) (rs : List Record) → AreRowsOf shards s seen low (shard_state rs) → AreRowsOf shards s seen low (shard_state (rs ++ opening me rs ∷ []))
unfolding shard_step
reopened me shards s seen low rs rows = subst (AreRowsOf shards s seen low) (sym (shard_push rs (opening me rs)))
    (record { learned = rows.learned; horizon = rows.horizon; within = rows.within; whole = rows.whole; rows = rows.rows })

-- Given also how often a stop may have come at a device, and what a stop since then may have left, now among it
module _ {D : Type 0} (state : D → State) (honest : D → Type 0) (moment : D → ℕ) (left_since : D → ℕ → List ℕ → Type 0)
    (counts_now : (d : D) (t : ℕ) (c : List ℕ) → honest d → t ≤ moment d → device_left (state d) c → left_since d t c) (store shards s : ℕ) where
  pub failed_shard_flushes_stay_tied : FailedShardFlushesStayTied state honest moment left_since store shards s
  failed_shard_flushes_stay_tied old new seen low tied me honest_a honest_b down leaves = record {
    up = λ up. absurd (true≢false (sym down ∙ up));
    anywhere = record {
      honest_a = honest_a;
      honest_b = honest_b;
      each = λ rs finds. ⊎_elim
          (λ before.
          let same : old.durable ≡ rs = same_Some old.durable rs (sym before ∙ finds.4) in
          subst (λ (l : List Record). AreRowsOf shards s seen low (shard_state l)) same tied.kept)
          (λ after.
          let same : old.durable ++ old.staged ≡ rs = same_Some (old.durable ++ old.staged) rs (sym after ∙ finds.4) in
          subst (λ (l : List Record). AreRowsOf shards s seen low (shard_state l)) same tied.now)
          (leaves.each finds.0 finds.1 (counts_now new.a (moment old.a) finds.0 honest_a leaves.later_a finds.2) (counts_now new.b (moment old.b) finds.1 honest_b leaves.later_b finds.3));
    };
    me = me ∙ tied.me;
  }

  -- Given two devices that read what a stop may leave of them
  module _ (a b : D) (seen : List Entry) (low : ℕ) (was : RowsAnywhere state honest shards s a b seen low) (reads_a : device_left (state a) (state a).seen) (reads_b : device_left (state b) (state b).seen) where
    found_rows : (rs : List Record) → found (state a).seen (state b).seen ≡ Some rs → AreRowsOf shards s seen low (shard_state rs)
    found_rows rs is = was.each rs ((state a).seen, (state b).seen, reads_a, reads_b, is)

    pub left_rows : (x y : List ℕ) (rs : List Record) → found x y ≡ Some rs → WasLeftOrOpened (shard_node store shards s) (state a) (state b) x y → AreRowsOf shards s seen low (shard_state rs)
    left_rows x y rs is (inl before) = was.each rs (before.0, before.1, before.2, before.3, sym before.4 ∙ is)
    left_rows x y rs is (inr more) =
        subst (λ (l : List Record). AreRowsOf shards s seen low (shard_state l)) (same_Some (more.0 ++ opening (shard_node store shards s) more.0 ∷ []) rs (sym more.3 ∙ is))
        (reopened (shard_node store shards s) shards s seen low more.0 (found_rows more.0 more.1))

    pub left_anywhere : (x y : D) → honest x → honest y → LeavesBoth moment left_since a b x y (WasLeftOrOpened (shard_node store shards s) (state a) (state b)) → RowsAnywhere state honest shards s x y seen low
    left_anywhere x y honest_x honest_y leaves = record {
      honest_a = honest_x;
      honest_b = honest_y;
      each = λ rs finds. left_rows finds.0 finds.1 rs finds.4
          (leaves.each finds.0 finds.1 (counts_now x (moment a) finds.0 honest_x leaves.later_a finds.2) (counts_now y (moment b) finds.1 honest_y leaves.later_b finds.3));
    }

    pub opened_rows : (v : ShardView D) → IsOpenedShard state honest a b (shard_node store shards s) v → v.staged ≡ [] → v.me ≡ shard_node store shards s → IsShardTiedUp state honest store shards s v seen low
    opened_rows v opened fresh me =
        let kept : AreRowsOf shards s seen low (shard_state v.durable) =
        subst (λ (l : List Record). AreRowsOf shards s seen low (shard_state l)) (sym opened.durable) (reopened (shard_node store shards s) shards s seen low opened.rs (found_rows opened.rs opened.was)) in
        let nothing : v.durable ++ v.staged ≡ v.durable = ap (λ (l : List Record). v.durable ++ l) fresh ∙ append-nil v.durable in
        record {
          up = opened.up;
          now = subst (λ (l : List Record). AreRowsOf shards s seen low (shard_state l)) (sym nothing) kept;
          kept = kept;
          me = me;
        }

  pub shard_openings_stay_tied : ShardOpeningsStayTied state honest moment left_since store shards s
  shard_openings_stay_tied a b v seen low was reads_a reads_b comes =
      opened_rows a b seen low was reads_a reads_b v (comes.ok was.honest_a was.honest_b) comes.fresh.0 comes.fresh.2

  pub refused_shard_openings_stay_tied : RefusedShardOpeningsStayTied state honest moment left_since store shards s
  refused_shard_openings_stay_tied a b x y e seen low was reads_a reads_b stays =
      left_anywhere a b seen low was reads_a reads_b x y (stays.still_honest.0.0 was.honest_a) (stays.still_honest.1.0 was.honest_b) (stays.any_moment was.honest_a was.honest_b)
