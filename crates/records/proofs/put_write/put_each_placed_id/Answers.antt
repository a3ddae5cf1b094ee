use Rattle.std.proofs.lemmas.Result.{err_from_is_err_and}
use Rattle.records.specs.declared.record.PlacedId.{PlacedId}
use Rattle.records.specs.Format.{placed_id_bytes}
use Rattle.records.proofs.Putting.{stop_at}
use Rattle.records.proofs.put_write.put_each_placed_id.Goals as goal

abbrev no_placed_id : PlacedId
no_placed_id = record { id = record { epoch = 0; number = 0 }; place = 0 }

pub returns-in_err-put_placed_id : goal.returns-in_err-put_placed_id
returns-in_err-put_placed_id c =
    let p = err_from_is_err_and c.from_residual.result c.from_residual.ensures.1 in
    rw p.1 (stop_at placed_id_bytes c.args.out.now c.loop-placed_id.out c.put_placed_id.new.out c.args.placed_ids.now c.loop-placed_id.placed_id-index no_placed_id c.loop-placed_id-test.true c.loop-placed_id.invariant c.in_err-put_placed_id.ensures)
