use Rattle.std.proofs.Common.{◌++◌, ◌∷◌, [], false}
use Rattle.records.specs.Format.{batch_bytes}
use Rattle.journal.proofs.Flushes.{records_any_moment, records_ok}
use Rattle.journal.proofs.Joined.{batches-push}
use Rattle.journal.proofs.journal.append_batch.Goals as goal

pub returns-in_err-append_to-clause-any_moment : goal.returns-in_err-append_to-clause-any_moment
returns-in_err-append_to-clause-any_moment g c = λ durable hon has.
    let r = c.requires.rest hon in
    let log = c.args.log.now.device in
    let here = g.met.D.Device.reads_left log hon r.up in
    records_any_moment g.D.Device.state g.D.Device.moment g.D.Device.left_since log c.append_to.new.log.device r here (batch_bytes false c.args.staged.now) c.args.staged.now c.append_to.ensures.read durable has (c.append_to.ensures.any_moment r.bodies hon r.has)

pub returns-clause-any_moment : goal.returns-clause-any_moment
returns-clause-any_moment g c = λ durable hon has.
    let r = c.requires.rest hon in
    let log = c.args.log.now.device in
    let here = g.met.D.Device.reads_left log hon r.up in
    records_any_moment g.D.Device.state g.D.Device.moment g.D.Device.left_since log c.append_to.new.log.device r here (batch_bytes false c.args.staged.now) c.args.staged.now c.append_to.ensures.read durable has (c.append_to.ensures.any_moment r.bodies hon r.has)

pub returns-clause-ok : goal.returns-clause-ok
returns-clause-ok g c = λ durable hon has.
    let r = c.requires.rest hon in
    let log = c.args.log.now.device in
    let here = g.met.D.Device.reads_left log hon r.up in
    records_ok g.D.Device.state g.D.Device.moment g.D.Device.left_since log c.append_to.new.log.device r here (batch_bytes false c.args.staged.now) c.args.staged.now c.append_to.ensures.read durable has (c.in_ok-append_to.ensures.ok r.bodies hon r.has)

pub returns-clause-rest : goal.returns-clause-rest
returns-clause-rest g c = λ hon.
    let r = c.requires.rest hon in
    let body = batch_bytes false c.args.staged.now in
    record {
      bodies = r.bodies ++ body ∷ [];
      rs = r.rs ++ c.args.staged.now;
      has = c.in_ok-append_to.ensures.ok r.bodies hon r.has;
      read = batches-push r.bodies body r.rs c.args.staged.now r.read c.append_to.ensures.read;
      up = c.in_ok-append_to.ensures.up hon;
    }
