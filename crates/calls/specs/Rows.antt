-- The versions that a node reports.
use denote.Ref.{Bor}
use Rattle.std.specs.Prelude.{◌≡◌, ◌⊎◌, ◌↔◌, true, Result, Err, IfOk, IfErr, IsErrOf}
use Rattle.std.specs.Global.{Vec}
use Rattle.refusal.specs.declared.refusal.Refusal.{Refusal}
use Rattle.refusal.specs.declared.refusal.Refusal.TheVariants.{BadRequest, Down, NoMemory}
use Rattle.records.specs.Replays.{ShardState}
use Rattle.tuples.specs.declared.tuple.Tuple.{Tuple}
use Rattle.tuples.specs.declared.version.Version.{Version}
use Rattle.versions.specs.Alike.{AreAlike, of_tuple}
use Rattle.versions.specs.Rows.{AreRows}
use Rattle.versions.specs.Walks.{Rise}
use Rattle.device.specs.Device.{State}
use Rattle.shard.specs.Shards.{IsUp, ShardView, memory}
use Rattle.calls.specs.Views.{NodeView, coordinator, shard, refused}

module _ {D : Type 0} (state : D → State) (honest : D → Type 0) where
  -- a shard reports what it has learned
  pub record TellsRows (v : ShardView D) (r : Result (Vec Version) Refusal) : Type 0 where
    pub ok : IsUp state honest v → IfOk r (λ rows. AreRows (memory v).rows rows.items)
    pub down : IsErrOf r Down ↔ (v.is_down ≡ true)
    pub err : IfErr r (λ e. (e ≡ Down) ⊎ (e ≡ NoMemory))

  -- A coordinator has none, and a node whose opening was refused answers that refusal.
  abbrev pub RowsOf : NodeView D → Result (Vec Version) Refusal → Type 0
  RowsOf (coordinator v) r = r ≡ Err BadRequest
  RowsOf (shard v) r = TellsRows v r
  RowsOf (refused e a b) r = r ≡ Err e

  -- a shard shows what it has in memory, in which the places of each tuple rise
  pub record ShowsKnown (v : ShardView D) (r : Result (Bor ShardState) Refusal) : Type 0 where
    pub ok : IsUp state honest v → IfOk r (λ known. AreAlike known.now.rows (memory v).rows)
    pub rise : IfOk r (λ known. (t : Tuple) → Rise (of_tuple t known.now.rows))
    pub down : IsErrOf r Down ↔ (v.is_down ≡ true)
    pub err : IfErr r (λ e. e ≡ Down)

  -- the same for any node, as for the versions
  abbrev pub KnownOf : NodeView D → Result (Bor ShardState) Refusal → Type 0
  KnownOf (coordinator v) r = r ≡ Err BadRequest
  KnownOf (shard v) r = ShowsKnown v r
  KnownOf (refused e a b) r = r ≡ Err e
