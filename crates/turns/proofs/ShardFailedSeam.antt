-- What a shard's own contracts of an opening that is refused and of a flush that fails say makes steps of a run.
use Rattle.std.proofs.Common.{◌≡◌, ◌⊎◌, inl, inr, ℕ, ◌≤◌, ◌+◌, ◌++◌, List, [], ◌∷◌, Some, refl, sym, ◌∙◌, ap, subst}
use Rattle.std.proofs.lemmas.List.Elements.{All-nil}
use Rattle.turns.proofs.Words.{Finds, FlushesShard, Identity, IsHorizonIn, IsQuiet, IsReopenedShard, IsShardImage, MayRise, Record, State, device_left, down, found, opening, refused, shard, shard_node, shard_state, stops}
use Rattle.shard.specs.Shards.{WasLeftOrOpened}
use Rattle.stores.specs.FlushLaws.{IsOldOrSame}
use Rattle.turns.specs.ShardOpeningLaws.{FailedShardFlushesAreQuiet, RefusedOpeningsStep, put_at}
use Rattle.std.proofs.lemmas.Option.{same_Some}
use Rattle.stores.proofs.Places.{stand_for_itself}
use Rattle.stores.proofs.ShardFlush.{shard_flushes_stand}
use Rattle.turns.proofs.RefusedOpening.{refused_shards_stand}
use Rattle.turns.proofs.ShardOpeningSeam.{left_elsewhere, to_shard, was_left}
use Rattle.turns.proofs.ShardSeam.{put_elsewhere, put_here}
use Rattle.device.proofs.States.{revived_reads}

-- this moment of a device is one of those since an earlier one
abbrev CountsNow : {D : Type 0} → (D → State) → (D → Type 0) → (D → ℕ) → (D → ℕ → List ℕ → Type 0) → Type 0
CountsNow {D} state honest moment left_since = (d : D) (t : ℕ) (c : List ℕ) → honest d → t ≤ moment d → device_left (state d) c → left_since d t c

module _ {D : Type 0} (state : D → State) (honest : D → Type 0) (moment : D → ℕ) (left_since : D → ℕ → List ℕ → Type 0) (counts_now : CountsNow state honest moment left_since) (store shards : ℕ) where
  pub failed_shard_flushes_are_quiet : FailedShardFlushesAreQuiet state honest moment left_since store shards
  failed_shard_flushes_are_quiet old new now s was v st seen is_up honest_a honest_b moments over = record {
    stands = shard_flushes_stand store shards (stops state honest store shards old) (stops state honest store shards new) now (put_at s down now.nodes) s st flush
        (subst (λ (i : Identity). IsShardImage i (was.durable ++ was.staged)) seen.me is_up.image);
    moves = [];
    machine = refl;
    quiet = All-nil (IsQuiet (MayRise shards (IsHorizonIn store shards (stops state honest store shards old) now.nodes) now));
    node = shard s;
    others = flush.others;
    called = inr (inr (inr (record { durable = was.durable; staged = was.staged; was = seen.at; now = put_here s down now.nodes.at })));
    open_writes = record { open_writes = refl; given = refl };
  }
    where
      left_then : (rs : List Record) → Finds (device_left (state v.a)) (device_left (state v.b)) rs → IsOldOrSame (shard s) was.durable was.staged rs
      left_then rs finds =
          let one = moments.each finds.0 finds.1 (counts_now v.a (moment was.a) finds.0 honest_a moments.later_a finds.2) (counts_now v.b (moment was.b) finds.1 honest_b moments.later_b finds.3) in
          subst (IsOldOrSame (shard s) was.durable was.staged) (same_Some one.0 rs (sym one.1 ∙ finds.4)) one.2

      flush : FlushesShard s (stops state honest store shards old) (stops state honest store shards new) now.nodes (put_at s down now.nodes)
      flush = record {
        durable = was.durable;
        staged = was.staged;
        records = was.durable ++ was.staged;
        was = seen.at;
        stand_for = stand_for_itself (shard s) (was.durable ++ was.staged);
        others = record { others = put_elsewhere s down now.nodes.at; open_writes = λ ne. refl; given = λ ne. refl };
        same = λ n rs ne. left_elsewhere state honest moment left_since store shards old new s v.a v.b over n rs ne;
        here = λ rs is. left_then rs (to_shard state honest moment left_since store shards old new s v.a v.b over rs is);
        ended = inl (put_here s down now.nodes.at);
      }

  pub refused_openings_step : RefusedOpeningsStep state honest moment left_since store shards
  refused_openings_step old new now s a b a' b' e st revived honest_a honest_b moments of_opening over =
      refused_shards_stand store shards (stops state honest store shards old) (stops state honest store shards new) now (put_at s (refused e) now.nodes) s e st of_opening (record {
        now = put_here s (refused e) now.nodes.at;
        others = record { others = put_elsewhere s (refused e) now.nodes.at; open_writes = λ ne. refl; given = λ ne. refl };
        same = λ n rs ne. left_elsewhere state honest moment left_since store shards old new s a' b' over n rs ne;
        here = λ rs is. left_then rs (to_shard state honest moment left_since store shards old new s a' b' over rs is);
      })
    where
      was : (rs : List Record) → found (state a).seen (state b).seen ≡ Some rs → stops state honest store shards old (shard s) rs
      was rs is = was_left state honest moment left_since store shards old s a b revived rs is

      by_moment : (rs : List Record) (x y : List ℕ) → found x y ≡ Some rs → WasLeftOrOpened (shard_node store shards s) (state a) (state b) x y
          → stops state honest store shards old (shard s) rs ⊎ IsReopenedShard store shards s (stops state honest store shards old) rs
      by_moment rs x y is (inl could) = inl (was rs (
          ap (λ (c : List ℕ). found c (state b).seen) (sym (revived_reads (state (old (shard s)).0) (state a) revived.first could.0 could.2))
          ∙ ap (λ (c : List ℕ). found could.0 c) (sym (revived_reads (state (old (shard s)).1) (state b) revived.second could.1 could.3)) ∙ sym could.4 ∙ is))
      by_moment rs x y is (inr opened) = inr (
          let both : Some rs ≡ Some (opened.0 ++ opening (shard_node store shards s) opened.0 ∷ []) = sym is ∙ opened.3 in
          record {
            found = opened.0;
            epoch = (shard_state opened.0).epoch + 1;
            was_left = was opened.0 opened.1;
            is = cc;
            image = opened.2;
          })

      left_then : (rs : List Record) → Finds (device_left (state a')) (device_left (state b')) rs
          → stops state honest store shards old (shard s) rs ⊎ IsReopenedShard store shards s (stops state honest store shards old) rs
      left_then rs finds = by_moment rs finds.0 finds.1 finds.4
          (moments.each finds.0 finds.1 (counts_now a' (moment a) finds.0 honest_a moments.later_a finds.2) (counts_now b' (moment b) finds.1 honest_b moments.later_b finds.3))
