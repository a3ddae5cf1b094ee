-- What a shard's own contracts of its opening and of its flush say makes steps of a run.
use Rattle.std.proofs.Common.{◌≡◌, ◌≢◌, inl, inr, ⊎_elim, ℕ, ◌≤◌, ◌+◌, ◌++◌, ◌↔◌, List, [], ◌∷◌, Some, refl, sym, ◌∙◌, ap, subst, arith}
use Rattle.std.proofs.lemmas.List.{append-nil}
use Rattle.std.proofs.lemmas.List.Elements.{All-nil}
use Rattle.turns.proofs.Words.{AreRevived, Epoch, Finds, FlushesShard, HasFailed, Identity, IsHorizonIn, IsQuiet, IsShardImage, IsUp, MayRise, Moment, NodeName, Nodes, OpensShard, Record, ShardView, StandFor, Stands, State, behind_shard, device_left, found, opening, shard, shard_node, shard_state, stops, up}
use Rattle.shard.specs.Shards.{IsOpenedShard}
use Rattle.stores.proofs.ShardFlush.{shard_flushes_stand}
use Rattle.stores.proofs.ShardOpening.{shard_openings_stand}
use Rattle.turns.specs.ShardOpeningLaws.{FailedShardsHaveCause, FullShardsWereOpened, IsOver, NoShardIsDamaged, ShardFlushesAreQuiet, ShardOpeningsStep}
use Rattle.turns.proofs.RefusedOpening.{shard_openings_restart}
use Rattle.turns.proofs.ShardPrepareSeam.{last_sync}
use Rattle.turns.proofs.ShardSeam.{elsewhere, here}

-- what a stop leaves of the shard's new devices, and of the others
module _ {D : Type 0} (state : D → State) (honest : D → Type 0) (moment : D → ℕ) (left_since : D → ℕ → List ℕ → Type 0) (store shards : ℕ) (old new : NodeName → D × D) (s : ℕ) (a b : D)
    (over : IsOver state honest moment left_since store shards old s a b new) where
  pub to_shard : (rs : List Record) → stops state honest store shards new (shard s) rs → Finds (device_left (state a)) (device_left (state b)) rs
  to_shard rs finds = subst (λ (d : D). Finds (device_left (state a)) (device_left (state d)) rs) over.second (subst (λ (d : D). Finds (device_left (state d)) (device_left (state (new (shard s)).1)) rs) over.first finds)

  from_shard : (rs : List Record) → Finds (device_left (state a)) (device_left (state b)) rs → stops state honest store shards new (shard s) rs
  from_shard rs finds = subst (λ (d : D). Finds (device_left (state (new (shard s)).0)) (device_left (state d)) rs) (sym over.second) (subst (λ (d : D). Finds (device_left (state d)) (device_left (state b)) rs) (sym over.first) finds)

  pub left_elsewhere : (n : NodeName) (rs : List Record) → n ≢ shard s → stops state honest store shards new n rs ↔ stops state honest store shards old n rs
  left_elsewhere n rs ne = (
    subst (λ (d : D × D). Finds (device_left (state d.0)) (device_left (state d.1)) rs) (over.others n ne),
    subst (λ (d : D × D). Finds (device_left (state d.0)) (device_left (state d.1)) rs) (sym (over.others n ne)),
  )

-- a shard that is up over devices: every stop leaves its durable records, and no others
module _ {D : Type 0} (state : D → State) (honest : D → Type 0) (moment : D → ℕ) (left_since : D → ℕ → List ℕ → Type 0) (store shards : ℕ) (old new : NodeName → D × D) (s : ℕ) (v : ShardView D)
    (is_up : IsUp state honest v) (over : IsOver state honest moment left_since store shards old s v.a v.b new) where
  only : (rs : List Record) → Finds (device_left (state v.a)) (device_left (state v.b)) rs → rs ≡ v.durable
  only rs finds =
      let both : Some rs ≡ Some v.durable = sym finds.4 ∙ is_up.rest finds.0 finds.1 finds.2 finds.3 in
      cc

  some : Finds (device_left (state v.a)) (device_left (state v.b)) v.durable
  some = ((state v.a).durable, (state v.b).durable, last_sync (state v.a), last_sync (state v.b), is_up.rest (state v.a).durable (state v.b).durable (last_sync (state v.a)) (last_sync (state v.b)))

  left_durable : (rs : List Record) → stops state honest store shards new (shard s) rs ↔ (rs ≡ v.durable)
  left_durable rs = (
    λ finds. only rs (to_shard state honest moment left_since store shards old new s v.a v.b over rs finds),
    λ is. from_shard state honest moment left_since store shards old new s v.a v.b over rs (subst (Finds (device_left (state v.a)) (device_left (state v.b))) (sym is) some),
  )

module _ {D : Type 0} (state : D → State) (honest : D → Type 0) (moment : D → ℕ) (left_since : D → ℕ → List ℕ → Type 0) (store shards : ℕ) (old : NodeName → D × D) (s : ℕ) (a b : D)
    (revived : AreRevived state honest moment left_since store shards old (shard s) a b) where
  -- what reads then a stop could leave before
  pub was_left : (rs : List Record) → found (state a).seen (state b).seen ≡ Some rs → stops state honest store shards old (shard s) rs
  was_left rs is = ((state a).seen, (state b).seen, revived.first.found, revived.second.found, is)

  failed : (x y z : State) → x.failures ≤ y.failures → HasFailed y z → HasFailed x z
  failed x y z le has = ⊎_elim (λ more. inl (omega (arith, more, le))) (λ most. inr most) has

  module _ (new : NodeName → D × D) (now : Moment) (v : ShardView D) (st : Stands store shards (stops state honest store shards old) now) (opened : IsOpenedShard state honest a b (shard_node store shards s) v)
      (fresh : v.staged ≡ []) (me : v.me ≡ shard_node store shards s) (over : IsOver state honest moment left_since store shards old s v.a v.b new) where
    abbrev next : Nodes
    next = behind_shard s now.nodes v

    is_up : next.at (shard s) ≡ up (opened.rs ++ opening (shard_node store shards s) opened.rs ∷ []) []
    is_up = here s now.nodes v ∙ ap (λ (l : List Record). up l v.staged) opened.durable ∙ ap (λ (l : List Record). up (opened.rs ++ opening (shard_node store shards s) opened.rs ∷ []) l) fresh

    abbrev opens : OpensShard store shards s (stops state honest store shards old) (stops state honest store shards new) now.nodes next
    opens = record {
      found = opened.rs;
      epoch = (shard_state opened.rs).epoch + 1;
      was_left = was_left opened.rs opened.was;
      now = is_up;
      others = record { others = elsewhere s now.nodes v; open_writes = λ ne. refl; given = λ ne. refl };
      same = λ n rs ne. left_elsewhere state honest moment left_since store shards old new s v.a v.b over n rs ne;
      here = λ rs.
          let is = left_durable state honest moment left_since store shards old new s v opened.up over rs in
          (λ finds. is.0 finds ∙ opened.durable, λ same. is.1 (same ∙ sym opened.durable));
    }

    image : IsShardImage (shard_node store shards s) (opened.rs ++ Epoch ((shard_state opened.rs).epoch + 1) store shards s ∷ [])
    image =
        let whole : v.durable ++ v.staged ≡ opened.rs ++ opening (shard_node store shards s) opened.rs ∷ [] = ap (λ (l : List Record). v.durable ++ l) fresh ∙ append-nil v.durable ∙ opened.durable in
        subst (IsShardImage (shard_node store shards s)) whole (subst (λ (i : Identity). IsShardImage i (v.durable ++ v.staged)) me opened.up.image)

pub shard_openings_step : {D : Type 0} (state : D → State) (honest : D → Type 0) (moment : D → ℕ) (left_since : D → ℕ → List ℕ → Type 0) (store shards : ℕ) → ShardOpeningsStep state honest moment left_since store shards
shard_openings_step state honest moment left_since store shards old new now s a b v st lt revived opened fresh me over = (
  shard_openings_stand store shards (stops state honest store shards old) (stops state honest store shards new) now (behind_shard s now.nodes v) s st
      (opens state honest moment left_since store shards old s a b revived new now v st opened fresh me over)
      (image state honest moment left_since store shards old s a b revived new now v st opened fresh me over),
  shard_openings_restart store shards (stops state honest store shards old) (stops state honest store shards new) now (behind_shard s now.nodes v) s
      (opens state honest moment left_since store shards old s a b revived new now v st opened fresh me over),
  record {
    was = opened.rs;
    was_left = was_left state honest moment left_since store shards old s a b revived opened.rs opened.was;
    is_up = is_up state honest moment left_since store shards old s a b revived new now v st opened fresh me over;
  },
)

pub full_shards_were_opened : {D : Type 0} (state : D → State) (honest : D → Type 0) (moment : D → ℕ) (left_since : D → ℕ → List ℕ → Type 0) (store shards : ℕ) → FullShardsWereOpened state honest moment left_since store shards
full_shards_were_opened state honest moment left_since store shards old s a b revived full = (full.0, was_left state honest moment left_since store shards old s a b revived full.0 full.1, full.3)

pub failed_shards_have_cause : {D : Type 0} (state : D → State) (honest : D → Type 0) (moment : D → ℕ) (left_since : D → ℕ → List ℕ → Type 0) (store shards : ℕ) → FailedShardsHaveCause state honest moment left_since store shards
failed_shards_have_cause state honest moment left_since store shards old new s a b revived failure = ⊎_elim
    (λ of_a. inl (failed state honest moment left_since store shards old s a b revived (state (old (shard s)).0) (state a) (state (new (shard s)).0) revived.counts_a of_a))
    (λ of_b. inr (inl (failed state honest moment left_since store shards old s a b revived (state (old (shard s)).1) (state b) (state (new (shard s)).1) revived.counts_b of_b)))
    failure

pub no_shard_is_damaged : {D : Type 0} (state : D → State) (honest : D → Type 0) (moment : D → ℕ) (left_since : D → ℕ → List ℕ → Type 0) (store shards : ℕ) → NoShardIsDamaged state honest moment left_since store shards
no_shard_is_damaged state honest moment left_since store shards old s a b log kept h revived lt rests some readable damaged =
    let reads = readable (state a).seen (state b).seen revived.first.found revived.second.found in
    let means = (rests.each some.0 some.1).3 in
    damaged reads.0 reads.1 (means.each_shard s reads.0 lt (was_left state honest moment left_since store shards old s a b revived reads.0 reads.1)).image

pub shard_flushes_are_quiet : {D : Type 0} (state : D → State) (honest : D → Type 0) (moment : D → ℕ) (left_since : D → ℕ → List ℕ → Type 0) (store shards : ℕ) → ShardFlushesAreQuiet state honest moment left_since store shards
shard_flushes_are_quiet {D} state honest moment left_since store shards old new now s was v st seen is_up up_then same none me over = (
  record { there = seen.there; me = me ∙ seen.me; at = here s now.nodes v },
  record {
    stands = shard_flushes_stand store shards (stops state honest store shards old) (stops state honest store shards new) now (behind_shard s now.nodes v) s st flush image;
    moves = [];
    machine = refl;
    quiet = All-nil (IsQuiet (MayRise shards (IsHorizonIn store shards (stops state honest store shards old) now.nodes) now));
    node = shard s;
    others = flush.others;
    called = inr (inr (inl (record { durable = was.durable; staged = was.staged; records = v.durable; was = seen.at; now = is_flushed; stand_for = same })));
    open_writes = record { open_writes = refl; given = refl };
  },
)
  where
    is_flushed : (behind_shard s now.nodes v).at (shard s) ≡ up v.durable []
    is_flushed = here s now.nodes v ∙ ap (λ (l : List Record). up v.durable l) none

    flush : FlushesShard s (stops state honest store shards old) (stops state honest store shards new) now.nodes (behind_shard s now.nodes v)
    flush = record {
      durable = was.durable;
      staged = was.staged;
      records = v.durable;
      was = seen.at;
      stand_for = same;
      others = record { others = elsewhere s now.nodes v; open_writes = λ ne. refl; given = λ ne. refl };
      same = λ n rs ne. left_elsewhere state honest moment left_since store shards old new s v.a v.b over n rs ne;
      here = λ rs is. inr (subst (StandFor (shard s) (was.durable ++ was.staged)) (sym ((left_durable state honest moment left_since store shards old new s v up_then over rs).0 is)) same);
      ended = inr (is_flushed, left_durable state honest moment left_since store shards old new s v up_then over);
    }

    image : IsShardImage (shard_node store shards s) (was.durable ++ was.staged)
    image = subst (λ (i : Identity). IsShardImage i (was.durable ++ was.staged)) seen.me is_up.image
