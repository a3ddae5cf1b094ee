-- The ids of the writes in doubt are ids that a coordinator gives.
use Rattle.std.proofs.Common.{◌≡◌, ⊎_elim, List, [], ◌∷◌, Some, sym, ◌∙◌, subst, arith}
use Rattle.std.specs.List.{AllByRecursion}
use Rattle.tuples.specs.declared.entry.Entry.{Entry}
use Rattle.tuples.specs.declared.entry.WriteId.{WriteId}
use Rattle.records.specs.Format.{IsWriteId}
use Rattle.records.specs.declared.mark.Inside.{Inside}
use Rattle.records.specs.declared.record.PlacedId.{PlacedId}
use Rattle.records.specs.declared.record.Record.{Record}
use Rattle.records.specs.declared.record.Record.TheVariants.{Prepare, Learned, Dropped, Epoch, Decision, Horizon, Checkpoint}
use Rattle.records.specs.Replays.{ArePrepared, Identity, IsShardImage, MayCome, MayComeInside, ShardState, find_in_doubt, shard_state, shard_step, without}
use Rattle.replay.proofs.Doubts.{cases_id, find_put}
use Rattle.replay.proofs.States.{image_keeps}
use Rattle.shard.proofs.Waiting.{still_placed_ids, still_without}

abbrev pub AllGiven : List Entry → Type 0
AllGiven ws = (id : WriteId) (p : Entry) → find_in_doubt id ws ≡ Some p → IsWriteId id

pub given_placed_ids : (placed_ids : List PlacedId) (ws : List Entry) → AllGiven ws → ArePrepared placed_ids ws → AllByRecursion (λ (p : PlacedId). IsWriteId p.id) placed_ids
given_placed_ids [] ws given prepared = tt
given_placed_ids (p ∷ placed_ids) ws given prepared =
    (given p.id prepared.0.0 prepared.0.1, given_placed_ids placed_ids (without p.id ws) (λ id q is. given id q (still_without id p.id ws q is)) prepared.1)

given_step : (me : Identity) (s : ShardState) (r : Record) → AllGiven s.in_doubt → MayCome me s r → AllGiven (shard_step s r).in_doubt
unfolding shard_step
given_step me s (Prepare w) given may id p is = ⊎_elim
    (λ (same : w.id ≡ id).
    let own : IsWriteId w.id = record {
      epoch = may.some_epoch;
      epoch_fits = omega (arith, may.epoch);
      number = may.some_number;
      number_fits = omega (arith, may.number);
    } in subst IsWriteId same own)
    (λ ne. given id p (sym (find_put id s.in_doubt w ne) ∙ is))
    (cases_id w.id id)
given_step me s (Learned to placed_ids) given may id p is = given id p (still_placed_ids id placed_ids s.in_doubt p is)
given_step me s (Dropped other) given may id p is = given id p (still_without id other s.in_doubt p is)
given_step me s (Epoch epoch store shards node) given may id p is = given id p is
given_step me s (Decision place w) given may id p is = absurd may
given_step me s (Checkpoint mark) given may id p is = absurd may
given_step me s (Horizon place) given may id p is = given id p is

given_inside : (me : Identity) (i : Inside) (s : ShardState) (r : Record) → AllGiven s.in_doubt → MayComeInside me i s r → AllGiven (shard_step s r).in_doubt
unfolding shard_step
given_inside me i s (Prepare w) given may = given_step me s (Prepare w) given may.may
given_inside me i s (Learned to placed_ids) given may = given_step me s (Learned to placed_ids) given may.may
given_inside me i s (Dropped id) given may = absurd may
given_inside me i s (Epoch epoch store shards node) given may = given
given_inside me i s (Decision place w) given may = absurd may
given_inside me i s (Horizon place) given may = given
given_inside me i s (Checkpoint mark) given may = given

pub given_image : (me : Identity) (rs : List Record) → IsShardImage me rs → AllGiven (shard_state rs).in_doubt
unfolding shard_state shard_step
given_image me rs image =
    image_keeps me (λ (s : ShardState). AllGiven s.in_doubt) (λ s r given may. given_step me s r given may) (λ i s r given may. given_inside me i s r given may) (λ s mark given. given) [] rs image.each (λ id p is. absurd cc)
