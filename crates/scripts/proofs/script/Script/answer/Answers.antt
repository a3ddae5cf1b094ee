use Rattle.std.proofs.Common.{inl, inr, refl}
use Rattle.script_text.specs.PrintedTexts.{refusal_line}
use Rattle.scripts.proofs.Among.{among}
use Rattle.scripts.proofs.script.Script.answer.Goals as goal

pub try_out-requires-clause-among : goal.try_out-requires-clause-among
try_out-requires-clause-among g c = among c.args.self.now.id (g.S.Store.shards_of c.args.self.now.running.store) c.args.self.now.running.names c.args.line.now c.in-Ok.command c.in-Ok.ensures.ok

pub returns-in-Err : goal.returns-in-Err
returns-in-Err g c = (refusal_line c.in-Err.refusal, (refl, inr (c.in-Err.refusal, c.in-Err.ensures.err, refl, refl)), c.refuse.ensures)

pub returns-in-Ok : goal.returns-in-Ok
returns-in-Ok g c =
    let told = c.try_out.ensures.told in
    (told.0, (c.try_out.ensures.same, inl (c.in-Ok.command, c.in-Ok.ensures.ok, told.1)), told.2)
