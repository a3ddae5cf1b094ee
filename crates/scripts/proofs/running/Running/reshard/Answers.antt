use Rattle.std.proofs.Common.{◌<◌, ◌+◌, arith, length, vec_capacity, vec_len}
use Rattle.std.proofs.lemmas.Result.{on_err_weaker}
use Rattle.scripts.specs.Scripts.{resharded_text}
use Rattle.scripts.proofs.Carried.{resharded_short}
use Rattle.scripts.proofs.running.Running.reshard.Goals as goal

pub returns-clause-never : goal.returns-clause-never
returns-clause-never g c =
    let short = resharded_short c.reshard-told.result in
    let Full : Type 0 = vec_capacity c.args.out.now < vec_len c.args.out.now + length (resharded_text c.reshard-told.result) in
    on_err_weaker {P = Full} c.print_resharded.result (λ full. absurd (omega (arith, full, short, c.requires.room))) c.print_resharded.ensures.memory
