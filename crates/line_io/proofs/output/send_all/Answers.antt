use Rattle.std.proofs.Common.{arith}
use Rattle.line_io.proofs.Writing.{broke_off, fits, stood_still, wrote_more}
use Rattle.tuples.proofs.Options.{on_err}
use Rattle.line_io.proofs.output.send_all.Goals as goal

pub returns-in-Ok-eq0-clause-err : goal.returns-in-Ok-eq0-clause-err
returns-in-Ok-eq0-clause-err g c = stood_still (g.W.Write.contents c.args.output.now) (g.W.Write.contents c.loop-done.output) (g.W.Write.contents c.write_part.new.self) c.args.bytes.now c.loop-done.done c.in-Ok-eq0.field-0 _ (omega arith) c.loop-done.invariant.1 c.in-Ok-eq0.ensures.bytes

pub returns-in-Err-clause-err : goal.returns-in-Err-clause-err
returns-in-Err-clause-err g c = broke_off (g.W.Write.contents c.args.output.now) (g.W.Write.contents c.loop-done.output) (g.W.Write.contents c.write_part.new.self) c.args.bytes.now c.loop-done.done c.loop-done.invariant.1 c.in-Err.ensures.bytes

pub loop-done-preserved : goal.loop-done-preserved
loop-done-preserved g c = (
  fits c.args.bytes.now c.loop-done.done c.in-Ok.count c.loop-done.invariant.0 c.in-Ok.ensures.bound,
  wrote_more (g.W.Write.contents c.args.output.now) (g.W.Write.contents c.loop-done.output) (g.W.Write.contents c.write_part.new.self) c.args.bytes.now c.loop-done.done c.in-Ok.count c.loop-done.invariant.1 c.in-Ok.ensures.bytes,
)

pub returns-clause-err : goal.returns-clause-err
returns-clause-err g c =
    on_err c.flush_all.result
    (broke_off (g.W.Write.contents c.args.output.now) (g.W.Write.contents c.loop-done.output) (g.W.Write.contents c.flush_all.new.self) c.args.bytes.now c.loop-done.done c.loop-done.invariant.1 c.flush_all.ensures.bytes)
