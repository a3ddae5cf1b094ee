use Rattle.std.proofs.Common.{◌≤◌, length, sym, ap, ◌∙◌, arith}
use Rattle.std.proofs.lemmas.List.{drop_all}
use Rattle.versions.proofs.Histories.{there_is_touched, touched}
use Rattle.versions.proofs.history.is_touched_at.Goals as goal

pub returns-clause-there : goal.returns-clause-there
returns-clause-there g c t =
    let all : length c.args.rows.now ≤ c.loop-row.row-index = omega arith in
    sym (there_is_touched c.args.place t c.args.rows.now ∙ c.loop-row.invariant.0 ∙ ap (touched c.args.place c.loop-row.there) (drop_all _ _ all))
