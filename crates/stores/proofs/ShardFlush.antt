-- A shard of a store that stands is flushed.
use Rattle.std.proofs.Common.{◌≡◌, ◌⊎◌, ◌↔◌, inl, inr, ⊎_elim, ℕ, ◌≤◌, List, [], ◌∷◌, ◌++◌, Contains, refl, sym, ◌∙◌, ap, subst, arith}
use Rattle.std.proofs.lemmas.List.Elements.{Contains-append_right}
use Rattle.stores.proofs.Words.{Decision, Dropped, Epoch, FlushesShard, Horizon, Identity, IsShardImage, Learned, MayCome, Moment, NodeName, NodeState, Nodes, Prepare, Record, ShardState, StandFor, Stands, down, empty_shard, refused, shard, shard_from, shard_from-append, shard_node, staged_of, up}
use Rattle.records.specs.Replays.{shard_state, shard_step}
use Rattle.records.specs.declared.record.Record.TheVariants.{Checkpoint}
use Rattle.records.specs.Replays.{MayComeInside}
use Rattle.records.specs.declared.mark.Inside.{Inside}
use Rattle.replay.proofs.States.{image_keeps}
use Rattle.stores.specs.FlushLaws.{ShardFlushesStand}
use Rattle.stores.proofs.Places.{IsInPlace, alike_place, still_in_place}
use Rattle.stores.proofs.ShardChanges.{ChangesShard, IsUpWith, changed_stands, up_as}

-- records without an opening leave the epoch as it is
pub epoch_stays : (s : ShardState) (rs : List Record) → ((a b c d : ℕ) → Contains rs (Epoch a b c d) → ⊥) → (shard_from s rs).epoch ≡ s.epoch
unfolding shard_step
epoch_stays s [] none = refl
epoch_stays s (Prepare v ∷ rs) none = epoch_stays (shard_step s (Prepare v)) rs (λ a b c d has. none a b c d (Contains-append_right (Prepare v ∷ []) rs (Epoch a b c d) has))
epoch_stays s (Learned to placed_ids ∷ rs) none = epoch_stays (shard_step s (Learned to placed_ids)) rs (λ a b c d has. none a b c d (Contains-append_right (Learned to placed_ids ∷ []) rs (Epoch a b c d) has))
epoch_stays s (Dropped id ∷ rs) none = epoch_stays (shard_step s (Dropped id)) rs (λ a b c d has. none a b c d (Contains-append_right (Dropped id ∷ []) rs (Epoch a b c d) has))
epoch_stays s (Epoch e f g h ∷ rs) none = absurd (none e f g h (0, omega arith, refl))
epoch_stays s (Decision place v ∷ rs) none = epoch_stays (shard_step s (Decision place v)) rs (λ a b c d has. none a b c d (Contains-append_right (Decision place v ∷ []) rs (Epoch a b c d) has))
epoch_stays s (Checkpoint mark ∷ rs) none = epoch_stays (shard_step s (Checkpoint mark)) rs (λ a b c d has. none a b c d (Contains-append_right (Checkpoint mark ∷ []) rs (Epoch a b c d) has))
epoch_stays s (Horizon place ∷ rs) none = epoch_stays (shard_step s (Horizon place)) rs (λ a b c d has. none a b c d (Contains-append_right (Horizon place ∷ []) rs (Epoch a b c d) has))

-- no record of a shard takes back what was learned
learned_on : (me : Identity) (s : ShardState) (r : Record) → MayCome me s r → s.learned ≤ (shard_step s r).learned
unfolding shard_step
learned_on me s (Prepare w) may = omega arith
learned_on me s (Learned to placed_ids) may = may.on
learned_on me s (Dropped id) may = omega arith
learned_on me s (Epoch epoch store shards node) may = omega arith
learned_on me s (Decision place w) may = absurd may
learned_on me s (Horizon place) may = omega arith
learned_on me s (Checkpoint mark) may = absurd may

learned_inside : (me : Identity) (i : Inside) (s : ShardState) (r : Record) → MayComeInside me i s r → s.learned ≤ (shard_step s r).learned
unfolding shard_step
learned_inside me i s (Prepare w) may = omega arith
learned_inside me i s (Learned to placed_ids) may = may.may.on
learned_inside me i s (Dropped id) may = absurd may
learned_inside me i s (Epoch epoch store shards node) may = omega arith
learned_inside me i s (Decision place w) may = absurd may
learned_inside me i s (Horizon place) may = omega arith
learned_inside me i s (Checkpoint mark) may = omega arith

pub learned_more : (me : Identity) (before rs : List Record) → IsShardImage me (before ++ rs) → (shard_state before).learned ≤ (shard_state (before ++ rs)).learned
unfolding shard_step
learned_more me before rs image =
    let low = (shard_state before).learned in
    image_keeps me (λ (s : ShardState). low ≤ s.learned) (λ s r le may. let on = learned_on me s r may in omega (arith, le, on)) (λ i s r le may. let on = learned_inside me i s r may in omega (arith, le, on)) (λ s mark le. le)
    before rs image.each (omega arith)

module _ (store shards : ℕ) (left after : NodeName → List Record → Type 0) (now : Moment) (next : Nodes) (s : ℕ) (stands : Stands store shards left now) (flush : FlushesShard s left after now.nodes next)
    (image : IsShardImage (shard_node store shards s) (flush.durable ++ flush.staged)) where
  abbrev whole : List Record
  whole = flush.durable ++ flush.staged

  durable_left : left (shard s) flush.durable
  durable_left = (stands.nodes.durable (shard s) flush.durable flush.staged flush.durable flush.was).1 refl

  same_epoch : (shard_state whole).epoch ≡ (shard_state flush.durable).epoch
  unfolding shard_state
  same_epoch =
      ap (λ (m : ShardState). m.epoch) (shard_from-append empty_shard flush.durable flush.staged)
      ∙ epoch_stays (shard_from empty_shard flush.durable) flush.staged (λ a b c d has. stands.nodes.no_opening (shard s) flush.durable flush.staged a b c d flush.was has)

  in_place : (rs : List Record) → (rs ≡ flush.durable) ⊎ StandFor (shard s) whole rs → IsInPlace store shards left now.nodes s rs
  in_place rs (inl plain) = still_in_place store shards left now.nodes s rs (flush.durable, durable_left, inl plain)
  in_place rs (inr same) = (whole, (flush.durable, durable_left, inr (ap (λ (n : NodeState). flush.durable ++ staged_of n) (sym flush.was))), alike_place store shards s whole rs same)

  no_less : (rs : List Record) → (rs ≡ flush.durable) ⊎ StandFor (shard s) whole rs
      → (old : List Record) × left (shard s) old × ((shard_state old).epoch ≤ (shard_state rs).epoch) × ((shard_state old).learned ≤ (shard_state rs).learned)
  no_less rs (inl plain) = (rs, subst (left (shard s)) (sym plain) durable_left, omega arith, omega arith)
  no_less rs (inr same) =
      let e = same.0.epoch in
      let was = same_epoch in
      let l = same.0.learned in
      let more = learned_more (shard_node store shards s) flush.durable flush.staged image in
      (flush.durable, durable_left, omega (arith, e, was), omega (arith, l, more))

  it_is_up : (here : (rs : List Record) → after (shard s) rs ↔ (rs ≡ flush.records)) → IsUpWith store shards s left after now next flush.records []
  it_is_up here = record {
    none_staged = refl;
    here = here;
    opened = (let e = flush.stand_for.0.epoch in let was = same_epoch in let old = stands.nodes.shard_opened s flush.durable flush.staged flush.was in omega (arith, e, was, old));
    knew = inl (shard_state whole, record { durable = flush.durable; staged = flush.staged; is_up = flush.was; replayed = refl }, flush.stand_for.0.in_doubt, flush.stand_for.0.epoch);
  }

  changes : ChangesShard store shards s left after now next
  changes = record {
    stands = stands;
    others = flush.others;
    same = flush.same;
    here = λ rs is. in_place rs (flush.here rs is);
    no_less = λ rs is. no_less rs (flush.here rs is);
    up_with = λ d g is. ⊎_elim
        (λ gone. let both : up d g ≡ down = sym is ∙ gone in absurd cc)
        (λ ok. up_as store shards s left after now next flush.records ok.0 (it_is_up ok.1) d g is)
        flush.ended;
    sound = λ e is. ⊎_elim
        (λ gone. let both : refused e ≡ down = sym is ∙ gone in absurd cc)
        (λ ok. let both : refused e ≡ up flush.records [] = sym is ∙ ok.0 in absurd cc)
        flush.ended;
  }

pub shard_flushes_stand : (store shards : ℕ) (left after : NodeName → List Record → Type 0) → ShardFlushesStand store shards left after
shard_flushes_stand store shards left after now next s stands flush image = changed_stands store shards s left after now next (changes store shards left after now next s stands flush image)
