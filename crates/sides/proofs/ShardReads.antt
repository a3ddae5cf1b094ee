-- What a shard under its lock reads is of the list that its pass has seen.
use Rattle.std.proofs.Common.{◌≡◌, ℕ, List, Result, Option, Some, Ok, Err, refl}
use Rattle.std.proofs.lemmas.Bool.{false_from_ne_true}
use Rattle.sides.proofs.Words.{Answered, AnsweredIn, Entry, from_shard, IsOpenedShardTied, IsShardTied, IsTiedIn, Known, NodeView, Read, ReadForCheck, Refusal, refused, Shard, shard, ShardCall, ShardView, State, TellsRows}
use Rattle.tuples.specs.declared.object.Userset.{Userset}
use Rattle.tuples.specs.declared.tupleset.Tupleset.{Tupleset}
use Rattle.tuples.specs.declared.user.User.{User}
use Rattle.shard.specs.declared.replies.ReadReply.{ReadReply}
use Rattle.shard.specs.declared.replies.ReadReply.TheVariants.{Rows, Behind}
use Rattle.calls.specs.Reading.{read_reply}
use Rattle.calls.specs.ShardAnswers.{ReadAnswers, ReadForCheckAnswers}
use Rattle.ties.proofs.ShardOpening.{check_reads_are_seen, reads_are_seen}

module _ {D : Type 0} (state : D → State) (honest : D → Type 0) (moment : D → ℕ) (left_since : D → ℕ → List ℕ → Type 0) (store shards s : ℕ) where
  -- Given what the pass has seen, and a place
  module _ (seen : List Entry) (low place : ℕ) where
    rows_of_shard : (set : Tupleset) (old : ShardView D) (r : Result ReadReply Refusal) → IsOpenedShardTied state honest store shards s old seen low → ReadAnswers state honest old place set r
        → TellsRows shards s seen (Read place set) r
    rows_of_shard set old (Ok (Rows rows)) tied a =
        let up = tied.up (false_from_ne_true old.is_down (λ down. cc (a.down.1 down))) in
        reads_are_seen state honest store shards s old place set rows.items seen low up (a.rows rows up.up refl)
    rows_of_shard set old (Ok Behind) tied a = tt
    rows_of_shard set old (Err e) tied a = tt

    check_rows_of_shard : (x : Userset) (u : User) (old : ShardView D) (r : Result ReadReply Refusal) → IsOpenedShardTied state honest store shards s old seen low → ReadForCheckAnswers state honest old place x u r
        → TellsRows shards s seen (ReadForCheck place x u) r
    check_rows_of_shard x u old (Ok (Rows rows)) tied a =
        let up = tied.up (false_from_ne_true old.is_down (λ down. cc (a.down.1 down))) in
        check_reads_are_seen state honest store shards s old place x u rows.items seen low up (a.rows rows up.up refl)
    check_rows_of_shard x u old (Ok Behind) tied a = tt
    check_rows_of_shard x u old (Err e) tied a = tt

  -- a shard whose opening was refused tells no rows
  no_rows : (seen : List Entry) (call : ShardCall) (e : Refusal) (r : Result ReadReply Refusal) → r ≡ Err e → TellsRows shards s seen call r
  no_rows seen (Read place set) e (Ok (Rows rows)) is = absurd cc
  no_rows seen (ReadForCheck place x u) e (Ok (Rows rows)) is = absurd cc
  no_rows seen call e r is = tt

  told_rows : (seen : List Entry) (low : ℕ) (call : ShardCall) (old : NodeView D) (r : Result ReadReply Refusal) (new : NodeView D) → IsShardTied state honest store shards s old seen low
      → Answered state honest moment left_since old (Shard s call) (from_shard (read_reply call r)) new → TellsRows shards s seen call r
  told_rows seen low (Read place set) (shard old) r (shard new) tied a = rows_of_shard seen low place set old r tied a.2
  told_rows seen low (ReadForCheck place x u) (shard old) r (shard new) tied a = check_rows_of_shard seen low place x u old r tied a.3
  told_rows seen low (Read place set) (refused e x y) r new tied a = no_rows seen (Read place set) e r a.1.1
  told_rows seen low (ReadForCheck place x u) (refused e y z) r new tied a = no_rows seen (ReadForCheck place x u) e r a.1.2
  told_rows seen low (Read place set) old r new tied a = absurd a
  told_rows seen low (ReadForCheck place x u) old r new tied a = absurd a
  told_rows seen low call old r new tied a = tt

  -- what is read is of the list
  pub rows_are_told : (old new : Option (NodeView D)) (pass : Known Entry) (call : ShardCall) (r : Result ReadReply Refusal) → IsTiedIn state honest store shards s old pass
      → AnsweredIn state honest moment left_since s old call (from_shard (read_reply call r)) new → TellsRows shards s pass.seen call r
  rows_are_told (Some old) (Some new) pass call r tied a = told_rows pass.seen pass.horizon call old r new tied a
  rows_are_told old new pass call r tied a = absurd a
