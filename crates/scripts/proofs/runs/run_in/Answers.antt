use Rattle.std.proofs.Common.{subst}
use Rattle.std.proofs.lemmas.Result.{on_ok_weaker, on_err_weaker}
use Rattle.line_io.specs.Blocks.{HasTaken, unread}
use Rattle.line_io.specs.declared.input.Ending.{Ending}
use Rattle.line_io.specs.declared.input.Ending.TheVariants.{Feed, Input}
use Rattle.scripts.proofs.RunLemmas.{broke_ending, broke_here, broke_reading, broke_telling, ran, run_more}
use Rattle.scripts.proofs.runs.run_in.Goals as goal
use Rattle.tuples.proofs.Options.{on_err}

pub returns-in_err-take_line-clause-err : goal.returns-in_err-take_line-clause-err
returns-in_err-take_line-clause-err g c =
    let out1 = g.W.Write.contents c.loop.output in
    let bytes = unread c.loop.room.block in
    on_err c.from_residual.result
    (broke_reading g.S.Store.takes g.S.Store.nexts g.S.Store.shows g.S.Store.sets g.S.Store.reshards g.S.Store.shards_of (g.R.Read.remaining c.args.input.now) (g.R.Read.remaining c.loop.input) (g.R.Read.remaining c.take_line.new.input)
    (g.W.Write.contents c.args.output.now) out1 out1 c.args.script.now c.loop.script c.loop.script bytes bytes c.loop.room.line c.loop.invariant c.in_err-take_line.ensures.err)

pub returns-in-Input-clause-ok : goal.returns-in-Input-clause-ok
returns-in-Input-clause-ok g c =
    let in1 = g.R.Read.remaining c.loop.input in
    let in2 = g.R.Read.remaining c.take_line.new.input in
    let bytes = unread c.loop.room.block in
    let new = unread c.take_line.new.block in
    let line = c.take_line.new.line in
    let t : HasTaken Input in1 in2 bytes new line = subst (λ (e : Ending). HasTaken e in1 in2 bytes new line) c.in-Input.is c.in_ok-take_line.ensures.ok in
    on_ok_weaker c.finish.result
    (λ h. ran g.S.Store.takes g.S.Store.nexts g.S.Store.shows g.S.Store.sets g.S.Store.reshards g.S.Store.shards_of (g.R.Read.remaining c.args.input.now) in1 in2 (g.W.Write.contents c.args.output.now) (g.W.Write.contents c.loop.output)
    (g.W.Write.contents c.finish.new.output) c.args.script.now c.loop.script c.finish.new.script bytes new line c.loop.invariant t (h t.bytes t.held))
    c.finish.ensures.ok

pub returns-in-Input-clause-err : goal.returns-in-Input-clause-err
returns-in-Input-clause-err g c =
    let in1 = g.R.Read.remaining c.loop.input in
    let in2 = g.R.Read.remaining c.take_line.new.input in
    let bytes = unread c.loop.room.block in
    let new = unread c.take_line.new.block in
    let line = c.take_line.new.line in
    let t : HasTaken Input in1 in2 bytes new line = subst (λ (e : Ending). HasTaken e in1 in2 bytes new line) c.in-Input.is c.in_ok-take_line.ensures.ok in
    on_err_weaker c.finish.result
    (λ h. broke_ending g.S.Store.takes g.S.Store.nexts g.S.Store.shows g.S.Store.sets g.S.Store.reshards g.S.Store.shards_of (g.R.Read.remaining c.args.input.now) in1 in2 (g.W.Write.contents c.args.output.now) (g.W.Write.contents c.loop.output)
    (g.W.Write.contents c.finish.new.output) c.args.script.now c.loop.script c.finish.new.script bytes new line c.loop.invariant t (h t.bytes t.held))
    c.finish.ensures.err

pub returns-in_err-tell-in-Feed-clause-err : goal.returns-in_err-tell-in-Feed-clause-err
returns-in_err-tell-in-Feed-clause-err g c =
    let in1 = g.R.Read.remaining c.loop.input in
    let in2 = g.R.Read.remaining c.take_line.new.input in
    let bytes = unread c.loop.room.block in
    let new = unread c.take_line.new.block in
    let line = c.take_line.new.line in
    let t : HasTaken Feed in1 in2 bytes new line = subst (λ (e : Ending). HasTaken e in1 in2 bytes new line) c.in-Feed.is c.in_ok-take_line.ensures.ok in
    on_err c.from_residual-in_err-tell-in-Feed.result
    (broke_telling g.S.Store.takes g.S.Store.nexts g.S.Store.shows g.S.Store.sets g.S.Store.reshards g.S.Store.shards_of (g.R.Read.remaining c.args.input.now) in1 in2 (g.W.Write.contents c.args.output.now) (g.W.Write.contents c.loop.output)
    (g.W.Write.contents c.tell.new.output) c.args.script.now c.loop.script c.tell.new.script bytes new line c.loop.invariant t (c.in_err-tell-in-Feed.ensures.err t.bytes t.held))

pub loop-preserved : goal.loop-preserved
loop-preserved g c =
    let in1 = g.R.Read.remaining c.loop.input in
    let in2 = g.R.Read.remaining c.take_line.new.input in
    let bytes = unread c.loop.room.block in
    let new = unread c.take_line.new.block in
    let line = c.take_line.new.line in
    let t : HasTaken Feed in1 in2 bytes new line = subst (λ (e : Ending). HasTaken e in1 in2 bytes new line) c.in-Feed.is c.in_ok-take_line.ensures.ok in
    run_more g.S.Store.takes g.S.Store.nexts g.S.Store.shows g.S.Store.sets g.S.Store.reshards g.S.Store.shards_of (g.R.Read.remaining c.args.input.now) in1 in2 (g.W.Write.contents c.args.output.now) (g.W.Write.contents c.loop.output)
    (g.W.Write.contents c.tell.new.output) c.args.script.now c.loop.script c.tell.new.script bytes new line c.loop.invariant t (c.in_ok-tell-in-Feed.ensures.ok t.bytes t.held)

pub returns-clause-err : goal.returns-clause-err
returns-clause-err g c =
    broke_here g.S.Store.takes g.S.Store.nexts g.S.Store.shows g.S.Store.sets g.S.Store.reshards g.S.Store.shards_of (g.R.Read.remaining c.args.input.now) (g.R.Read.remaining c.loop.input) (g.W.Write.contents c.args.output.now) (g.W.Write.contents c.loop.output)
    c.args.script.now c.loop.script (unread c.loop.room.block) c.loop.invariant
