use Rattle.std.proofs.Common.{◌≡◌, ◌+◌, ◌*◌, length, rules, sym, subst, IfErr, Result, Ok, Err}
use Rattle.std.proofs.lemmas.Result.{on_ok_weaker}
use Rattle.dumping.specs.Dumped.{IsTextOver, Leaves, dump_text}
use Rattle.dumping.proofs.over_devices.dump_over.Goals as goal

err_then : {T E : Type 0} {P Q : E → Type 0} (r : Result T E) → ((e : E) → P e → Q e) → IfErr r P → IfErr r Q
err_then (Ok x) f p = tt
err_then (Err e) f p = f e p

pub returns-in-Ok-clause-ok : goal.returns-in-Ok-clause-ok
returns-in-Ok-clause-ok g c =
    let it = c.in-Ok.ensures in
    let law = c.dumps_are_snapshots.ensures in
    let count : length c.args.devices.items ≡ 2 * (c.args.shards + 1) = search rules in
    let text_is : c.deref.result.now ≡ dump_text c.args.store it.2 it.3 = search rules in
    let text : IsTextOver g.D.Device.state g.D.Device.honest g.D.Device.moment g.D.Device.left_since c.args.store c.args.shards c.args.devices.items c.args.at c.deref.result.now = record {
      opened = it.0;
      is_opened = it.4;
      of_one_moment = it.5;
      place = it.2;
      rows = it.3;
      new = it.1;
      dumps = it.6;
      text_is = text_is;
      snapshot = λ any m ids rests told. law c.args.store c.args.shards any c.args.devices.items c.args.at it.0 it.2 it.3 it.1 m ids c.count-count.ensures.whole.some c.count-count.ensures.whole.few count rests told it.4 it.6;
    } in
    on_ok_weaker c.write.result (λ appends. (c.deref.result.now, text, appends)) c.write.ensures.ok

pub returns-in-Ok-clause-err : goal.returns-in-Ok-clause-err
returns-in-Ok-clause-err g c =
    let it = c.in-Ok.ensures in
    let law = c.dumps_are_snapshots.ensures in
    let count : length c.args.devices.items ≡ 2 * (c.args.shards + 1) = search rules in
    let text_is : c.deref.result.now ≡ dump_text c.args.store it.2 it.3 = search rules in
    let text : IsTextOver g.D.Device.state g.D.Device.honest g.D.Device.moment g.D.Device.left_since c.args.store c.args.shards c.args.devices.items c.args.at c.deref.result.now = record {
      opened = it.0;
      is_opened = it.4;
      of_one_moment = it.5;
      place = it.2;
      rows = it.3;
      new = it.1;
      dumps = it.6;
      text_is = text_is;
      snapshot = λ any m ids rests told. law c.args.store c.args.shards any c.args.devices.items c.args.at it.0 it.2 it.3 it.1 m ids c.count-count.ensures.whole.some c.count-count.ensures.whole.few count rests told it.4 it.6;
    } in
    err_then c.write.result
    (λ fault h. subst (Leaves g.D.Device.state g.D.Device.honest g.D.Device.moment g.D.Device.left_since c.args.store c.args.shards c.args.devices.items c.args.at (g.W.Write.contents c.args.output.now) (g.W.Write.contents c.write.new.output))
    (sym h.0) (c.deref.result.now, text, h.1)) c.write.ensures.err
