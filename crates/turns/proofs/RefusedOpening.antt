-- The opening of a shard of a store that stands is refused.
use Rattle.std.proofs.Common.{◌≡◌, ◌⊎◌, inl, inr, ⊎_elim, ℕ, ◌≤◌, List, [], ◌∷◌, ◌++◌, refl, sym, ◌∙◌, ap, subst, arith}
use Rattle.stores.proofs.ShardChanges.{ChangesShard, changed_stands}
use Rattle.stores.proofs.ShardOpening.{opened_epoch, same_learned}
use Rattle.stores.proofs.ShardStages.{is_shard}
use Rattle.turns.proofs.Words.{Epoch, IsHorizonIn, IsOfRefusedOpening, IsReopenedShard, Moment, NodeName, Nodes, Record, Refusal, Restarts, Stands, came_up, refused, refuses, shard, shard_state, up, with_nodes}
use Rattle.turns.specs.RestartLaws.{RefusedShardsStand, RefusesShard, ShardOpeningsRestart}
use Rattle.turns.proofs.StopInside.{left_or_opened}

module _ (store shards : ℕ) (left after : NodeName → List Record → Type 0) (now : Moment) (next : Nodes) (s : ℕ) (e : Refusal) (stands : Stands store shards left now) (why : IsOfRefusedOpening e)
    (refuses_it : RefusesShard store shards s left after e now.nodes next) where
  no_less : (rs : List Record) → left (shard s) rs ⊎ IsReopenedShard store shards s left rs
      → (old : List Record) × left (shard s) old × ((shard_state old).epoch ≤ (shard_state rs).epoch) × ((shard_state old).learned ≤ (shard_state rs).learned)
  no_less rs (inl was) = (rs, was, omega arith, omega arith)
  no_less rs (inr re) =
      let e = ap (λ (l : List Record). (shard_state l).epoch) re.is ∙ opened_epoch store shards s re.found re.epoch re.image in
      let l = ap (λ (l : List Record). (shard_state l).learned) re.is ∙ same_learned store shards s re.found re.epoch re.image in
      (re.found, re.was_left, omega (arith, e), omega (arith, l))

  changes : ChangesShard store shards s left after now next
  changes = record {
    stands = stands;
    others = refuses_it.others;
    same = refuses_it.same;
    here = λ rs is. left_or_opened store shards left now.nodes s rs (⊎_elim (λ was. inl (rs, was, inl refl)) (λ re. inr re) (refuses_it.here rs is));
    no_less = λ rs is. no_less rs (refuses_it.here rs is);
    up_with = λ d g is. let both : refused e ≡ up d g = sym refuses_it.now ∙ is in absurd cc;
    sound = λ f is. let both : refused e ≡ refused f = sym refuses_it.now ∙ is in let one : e ≡ f = cc in subst IsOfRefusedOpening one why;
  }

  refused_step : Restarts shards (IsHorizonIn store shards left now.nodes) now (shard s) (refuses e ∷ []) (with_nodes now next)
  refused_step = record {
    moves = [];
    machine = refl;
    allowed = (refl, refl);
    others = refuses_it.others;
    told_before = refl;
    named = refl;
    tells = (refuses e, refl, (refuses_it.now, why));
  }

pub refused_shards_stand : (store shards : ℕ) (left after : NodeName → List Record → Type 0) → RefusedShardsStand store shards left after
refused_shards_stand store shards left after now next s e stands why refuses_it = (
  changed_stands store shards s left after now next (changes store shards left after now next s e stands why refuses_it),
  refused_step store shards left after now next s e stands why refuses_it,
)

pub shard_openings_restart : (store shards : ℕ) (left after : NodeName → List Record → Type 0) → ShardOpeningsRestart store shards left after
shard_openings_restart store shards left after now next s opens = record {
  moves = [];
  machine = refl;
  allowed = (refl, refl);
  others = opens.others;
  told_before = refl;
  named = refl;
  tells = (came_up, refl, ((opens.found ++ Epoch opens.epoch store shards s ∷ [], opens.now), λ is. let e : 1 ≡ 0 = ap is_shard is in absurd (omega (arith, e))));
}
