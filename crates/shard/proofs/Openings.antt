-- Opening a shard once more.
use Rattle.std.proofs.Common.{◌≡◌, ◌≤◌, ◌<◌, ◌+◌, ◌++◌, ℕ, List, [], ◌∷◌, Option, Some, None, refl, sym, ap, ◌∙◌, subst, arith, false, Contains}
use Rattle.std.proofs.lemmas.List.{append-nil}
use Rattle.std.proofs.lemmas.List.Elements.{Contains-append_right}
use Rattle.tuples.specs.declared.entry.WriteId.{WriteId}
use Rattle.records.specs.declared.record.Record.{Record}
use Rattle.records.specs.declared.record.Record.TheVariants.{Prepare, Learned, Dropped, Epoch, Decision, Horizon, Checkpoint}
use Rattle.records.specs.Identity.{IsIdentity}
use Rattle.records.specs.declared.mark.Inside.{Inside}
use Rattle.records.specs.Inside.{inside_of, inside_step}
use Rattle.records.proofs.Insides.{inside_push}
use Rattle.records.specs.Replays.{BeginsShardImage, Identity, IsShardImage, MayCome, MayComeInside, MayFollow, ShardState, empty_shard, greatest_number, shard_state, shard_step}
use Rattle.replay.specs.Alike.{IsAlike}
use Rattle.replay.specs.Reading.{ReadSoFar, TakesRecord, nothing_read as nothing_read_yet}
use Rattle.replay.proofs.Alike.{alike_same, alike_step, alike_sym, alike_trans, may_follow_alike}
use Rattle.replay.proofs.States.{image_empty, image_keeps, image_more, shard_push}
use Rattle.device.specs.Device.{State}
use Rattle.journal.specs.Records.{both, View}
use Rattle.journal.specs.Unread.{IsRead, Left}
use Rattle.journal.proofs.Left.{both-nil, read_among, read_more}
use Rattle.openings.specs.Openings.{AreReplayed, IsReopened}
use Rattle.shard.specs.Keeping.{IsKept, IsMemoryOf, prepared_ids}
use Rattle.shard.specs.Shards.{IsOpenedShard, opening, openings_in}
use Rattle.shard.proofs.Kept.{view_of}

some_is : {X : Type 0} (x y : X) → Some x ≡ Some y → x ≡ y
some_is x y is = cc

pub nothing_replayed : empty_shard ≡ shard_state []
unfolding shard_state
nothing_replayed = refl

-- records that were read are replayed
pub record SoFar (me : Identity) (whole : Option (List Record)) (left : Left) (m : ReadSoFar) : Type 0 where
  pub done : List Record
  pub all : whole ≡ both (Some done) left.records
  pub inside : m.inside ≡ inside_of done
  pub replayed : IsAlike m.state (shard_state done)
  pub begins : BeginsShardImage me done

pub nothing_read : (me : Identity) (left : Left) (m : ReadSoFar) → m ≡ nothing_read_yet → SoFar me left.records left m
unfolding inside_of
nothing_read me left m is = record {
  done = [];
  all = sym (both-nil left.records);
  inside = ap (λ (n : ReadSoFar). n.inside) is;
  replayed = alike_same _ _ (ap (λ (n : ReadSoFar). n.state) is ∙ nothing_replayed);
  begins = (image_empty me).each;
}

-- one more
module _ (me : Identity) (whole : Option (List Record)) (old : Left) (m : ReadSoFar) (so_far : SoFar me whole old m) (r : Record) (new : Left) (read : IsRead old r new) where
  pub one_replayed : (n : ReadSoFar) → MayFollow me m.inside m.state r → TakesRecord m r n → SoFar me whole new n
  one_replayed n may taken = record {
    done = so_far.done ++ r ∷ [];
    all = read_more whole so_far.done old so_far.all r new read;
    inside = taken.inside ∙ ap (λ (i : Option Inside). inside_step i r) so_far.inside ∙ sym (inside_push so_far.done r);
    replayed = alike_trans taken.state (subst (IsAlike (shard_step m.state r)) (sym (shard_push so_far.done r)) (alike_step so_far.replayed r));
    begins = image_more me so_far.done r so_far.begins (may_follow_alike so_far.replayed me (inside_of so_far.done) r (subst (λ (i : Option Inside). MayFollow me i m.state r) so_far.inside may));
  }

  pub may_follow : (rs : List Record) → whole ≡ Some rs → IsShardImage me rs → MayFollow me m.inside m.state r
  may_follow rs was image =
      let among = read_among whole so_far.done old so_far.all r new read rs was in
      subst (λ (i : Option Inside). MayFollow me i m.state r) (sym so_far.inside) (may_follow_alike (alike_sym so_far.replayed) me (inside_of so_far.done) r (image.each so_far.done among.0 r among.1))

-- all were read
module _ (me : Identity) (whole : Option (List Record)) (left : Left) (m : ReadSoFar) (so_far : SoFar me whole left m) (none : left.records ≡ Some []) where
  pub all_read : whole ≡ Some so_far.done
  all_read = so_far.all ∙ ap (both (Some so_far.done)) none ∙ ap (λ (rs : List Record). Some rs) (append-nil so_far.done)

  pub replayed_whole : m.inside ≡ None → AreReplayed IsShardImage IsMemoryOf me whole m.state
  replayed_whole ended = record {
    rs = so_far.done;
    found = all_read;
    image = record { each = so_far.begins; whole = sym so_far.inside ∙ ended };
    made_of = so_far.replayed;
  }

  pub ended_by : (rs : List Record) → whole ≡ Some rs → IsShardImage me rs → m.inside ≡ None
  ended_by rs was image = so_far.inside ∙ ap inside_of (some_is so_far.done rs (sym all_read ∙ was)) ∙ image.whole

step_epoch : (me : Identity) (s : ShardState) (r : Record) → s.epoch ≤ greatest_number → MayCome me s r → (shard_step s r).epoch ≤ greatest_number
unfolding shard_step
step_epoch me s (Prepare w) le may = le
step_epoch me s (Learned to placed_ids) le may = le
step_epoch me s (Dropped id) le may = le
step_epoch me s (Epoch epoch store shards node) le may = may.greatest
step_epoch me s (Decision place w) le may = le
step_epoch me s (Checkpoint mark) le may = le
step_epoch me s (Horizon place) le may = le

epoch_inside : (me : Identity) (i : Inside) (s : ShardState) (r : Record) → s.epoch ≤ greatest_number → MayComeInside me i s r → (shard_step s r).epoch ≤ greatest_number
unfolding shard_step
epoch_inside me i s (Prepare w) le may = le
epoch_inside me i s (Learned to placed_ids) le may = le
epoch_inside me i s (Dropped id) le may = le
epoch_inside me i s (Epoch epoch store shards node) le may = may.greatest
epoch_inside me i s (Decision place w) le may = le
epoch_inside me i s (Horizon place) le may = le
epoch_inside me i s (Checkpoint mark) le may = le

-- no shard was opened more often
pub most_openings : (me : Identity) (rs : List Record) → IsShardImage me rs → (shard_state rs).epoch ≤ greatest_number
unfolding shard_state shard_step
most_openings me rs image =
    image_keeps me (λ (s : ShardState). s.epoch ≤ greatest_number) (λ s r le may. step_epoch me s r le may) (λ i s r le may. epoch_inside me i s r le may) (λ s mark le. le) [] rs image.each (omega arith)

-- a shard goes on from the memory of the records that were found
module _ {D : Type 0} (state : D → State) (honest : D → Type 0) (a b : D) (me : Identity) (k : View D) (m : ShardState) (opened : IsReopened state honest IsShardImage IsMemoryOf openings_in a b me k m)
    (fresh : k.staged ≡ []) (back_a : honest k.a → honest a) (back_b : honest k.b → honest b) where
  abbrev now : List Record
  now = opened.rs ++ opening me opened.rs ∷ []

  whole : honest a → honest b → now ≡ k.durable ++ k.staged
  whole ha hb = sym (opened.durable ha hb) ∙ sym (append-nil k.durable) ∙ ap (λ (l : List Record). k.durable ++ l) (sym fresh)

  pub opened_shard : k.is_down ≡ false → honest a → honest b → honest k.a → honest k.b → IsOpenedShard state honest a b me (view_of k me)
  opened_shard up ha hb ka kb = record {
    rs = opened.rs;
    was = opened.was ha hb;
    image = opened.image;
    durable = opened.durable ha hb;
    up = record { honest_a = ka; honest_b = kb; up = up; rest = opened.rest ha hb; image = subst (IsShardImage me) (whole ha hb) opened.again };
  }

  module _ (n : ShardState) (ids : List WriteId) (settled e : ℕ) (next : e ≡ m.epoch + 1) (stepped : n ≡ record m { epoch = e }) (none : ids ≡ []) (place : settled ≡ n.learned) where
    all_replayed : IsAlike n (shard_state now)
    unfolding shard_step
    all_replayed =
        let old = opened.made_of in
        let same = old.epoch in
        let is : e ≡ (shard_state opened.rs).epoch + 1 = omega (arith, next, same) in
        let more : IsAlike (record m { epoch = e }) (shard_step (shard_state opened.rs) (opening me opened.rs)) = record { in_doubt = old.in_doubt; learned = old.learned; horizon = old.horizon; epoch = is; rows = old.rows } in
        subst (λ (s : ShardState). IsAlike s (shard_state now)) (sym stepped) (subst (IsAlike (record m { epoch = e })) (sym (shard_push opened.rs (opening me opened.rs))) more)

    pub opened_kept : IsIdentity me → me.node < me.shards → IsKept state honest k me n ids settled
    opened_kept identity node = record {
      rs = now;
      replayed = all_replayed;
      image = opened.again;
      opened = let one : n.epoch ≡ e = ap (λ (s : ShardState). s.epoch) stepped in omega (arith, one, next);
      some = identity.some;
      few = identity.few;
      node = node;
      backed = λ up ka kb. record { rest = opened.rest (back_a ka) (back_b kb); whole = whole (back_a ka) (back_b kb) };
      named = λ up ka kb. (
        (shard_state opened.rs).epoch + 1,
        me.store,
        me.shards,
        subst (λ (l : List Record). Contains l (opening me opened.rs)) (sym (opened.durable (back_a ka) (back_b kb))) (Contains-append_right opened.rs (opening me opened.rs ∷ []) (opening me opened.rs) (0, omega arith, refl)),
      );
      unflushed_are = λ up. none ∙ ap prepared_ids (sym fresh);
      settled_is = λ up ka kb. place ∙ all_replayed.learned ∙ ap (λ (l : List Record). (shard_state l).learned) (sym (opened.durable (back_a ka) (back_b kb)));
    }
