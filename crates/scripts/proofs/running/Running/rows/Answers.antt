use Rattle.std.proofs.Common.{◌<◌, ◌+◌, Err, arith, length, refl, subst, vec_capacity, vec_len}
use Rattle.std.proofs.lemmas.Result.{on_err_weaker}
use Rattle.script_text.specs.PrintedTexts.{refusal_line}
use Rattle.scripts.specs.Scripts.{RunningView}
use Rattle.scripts.proofs.running.Running.rows.Goals as goal

pub returns-in-Err-clause-refused : goal.returns-in-Err-clause-refused
returns-in-Err-clause-refused g c =
    let text = refusal_line c.in-Err.refusal in
    let shown = subst (λ (r : RunningView g.row.S.Denot). g.S.Store.shows r.store c.args.shard (Err c.in-Err.refusal)) c.self.view_is c.in-Err.ensures in
    let Full : Type 0 = vec_capacity c.args.out.now < vec_len c.args.out.now + length text in
    on_err_weaker {P = Full} c.write_to-in-Err.result (λ full. (text, (Err c.in-Err.refusal, shown, refl), omega (arith, full, c.requires.room))) c.write_to-in-Err.ensures.memory
