use Rattle.std.proofs.Common.{sym, ◌∙◌}
use Rattle.versions.specs.Kept.{lent_rows}
use Rattle.versions.specs.Rows.{listed}
use Rattle.versions.proofs.Selected.{there_by_rows}
use Rattle.versions.proofs.uncounted.is_there.Goals as goal

pub returns : goal.returns
returns g c =
    c.is_there_at.ensures.there c.args.tuple.now ∙ sym (there_by_rows c.args.tuple.now (lent_rows c.rows_of.result) (listed c.args.table.now.entries) c.args.place c.rows_of.ensures.versions)
