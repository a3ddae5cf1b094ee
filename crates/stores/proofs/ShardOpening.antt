-- A shard of a store that stands is opened.
use Rattle.std.proofs.Common.{◌≡◌, inl, inr, refl, ℕ, ◌+◌, ◌≤◌, List, [], ◌∷◌, ◌++◌, sym, ◌∙◌, ap, subst, arith}
use Rattle.stores.proofs.Words.{Epoch, IsShardImage, MayOpen, Moment, NodeName, Nodes, OpensShard, Record, ShardState, Stands, image_last, refused, shard_node, shard_push, shard_state, up}
use Rattle.records.specs.Replays.{shard_step}
use Rattle.stores.specs.OpeningLaws.{ShardOpeningsStand}
use Rattle.stores.proofs.Places.{IsInPlace, opened_place}
use Rattle.stores.proofs.ShardChanges.{ChangesShard, changed_stands, up_as}

-- an opening raises the epoch by one, and leaves what was learned as it is
module _ (store shards s : ℕ) (rs : List Record) (epoch : ℕ) (image : IsShardImage (shard_node store shards s) (rs ++ Epoch epoch store shards s ∷ [])) where
  may : MayOpen (shard_node store shards s) (shard_state rs) epoch store shards s
  may = image_last (shard_node store shards s) rs (Epoch epoch store shards s) image

  pub opened_epoch : (shard_state (rs ++ Epoch epoch store shards s ∷ [])).epoch ≡ (shard_state rs).epoch + 1
  unfolding shard_step
  opened_epoch = ap (λ (m : ShardState). m.epoch) (shard_push rs (Epoch epoch store shards s)) ∙ may.next

  pub same_learned : (shard_state (rs ++ Epoch epoch store shards s ∷ [])).learned ≡ (shard_state rs).learned
  unfolding shard_step
  same_learned = ap (λ (m : ShardState). m.learned) (shard_push rs (Epoch epoch store shards s))

module _ (store shards : ℕ) (left after : NodeName → List Record → Type 0) (now : Moment) (next : Nodes) (s : ℕ) (stands : Stands store shards left now) (opens : OpensShard store shards s left after now.nodes next)
    (image : IsShardImage (shard_node store shards s) (opens.found ++ Epoch opens.epoch store shards s ∷ [])) where
  abbrev longer : List Record
  longer = opens.found ++ Epoch opens.epoch store shards s ∷ []

  epoch_now : (shard_state longer).epoch ≡ (shard_state opens.found).epoch + 1
  epoch_now = opened_epoch store shards s opens.found opens.epoch image

  learned_now : (shard_state longer).learned ≡ (shard_state opens.found).learned
  learned_now = same_learned store shards s opens.found opens.epoch image

  changes : ChangesShard store shards s left after now next
  changes = record {
    stands = stands;
    others = opens.others;
    same = opens.same;
    here = λ rs is. subst (IsInPlace store shards left now.nodes s) (sym ((opens.here rs).0 is)) (opens.found, (opens.found, opens.was_left, inl refl), opened_place store shards s opens.found opens.epoch image);
    no_less = λ rs is.
        let same = (opens.here rs).0 is in
        let e = ap (λ (l : List Record). (shard_state l).epoch) same in
        let l = ap (λ (l : List Record). (shard_state l).learned) same in
        (opens.found, opens.was_left, let on = epoch_now in omega (arith, e, on), let on = learned_now in omega (arith, l, on));
    up_with = up_as store shards s left after now next longer opens.now (record {
      none_staged = refl;
      here = opens.here;
      opened = (let e = epoch_now in omega (arith, e));
      knew = inr (λ epoch old. let low : epoch ≤ (shard_state opens.found).epoch = old opens.found opens.was_left in let high = epoch_now in omega (arith, low, high));
    });
    sound = λ e is. let both : refused e ≡ up longer [] = sym is ∙ opens.now in absurd cc;
  }

pub shard_openings_stand : (store shards : ℕ) (left after : NodeName → List Record → Type 0) → ShardOpeningsStand store shards left after
shard_openings_stand store shards left after now next s stands opens image = changed_stands store shards s left after now next (changes store shards left after now next s stands opens image)
