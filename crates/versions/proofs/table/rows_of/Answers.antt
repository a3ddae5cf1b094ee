use Rattle.std.proofs.Common.{◌≡◌, None, sym, ap, ◌∙◌, rules}
use Rattle.versions.specs.Kept.{lent_rows}
use Rattle.versions.specs.Rows.{found, rows_in, versions_of}
use Rattle.versions.proofs.Tables.{of_listed}
use Rattle.versions.proofs.table.rows_of.Goals as goal

pub returns-in-Some-clause-versions : goal.returns-in-Some-clause-versions
returns-in-Some-clause-versions c =
    let is : lent_rows c.lent.result ≡ rows_in (found c.args.tuple.now c.args.table.now.entries) = search rules in
    ap (versions_of c.args.tuple.now) is ∙ sym (of_listed c.args.tuple.now c.args.table.now.entries c.requires.in_order)

pub returns-in-None-clause-versions : goal.returns-in-None-clause-versions
returns-in-None-clause-versions c =
    let is : found c.args.tuple.now c.args.table.now.entries ≡ None = search rules in
    sym (of_listed c.args.tuple.now c.args.table.now.entries c.requires.in_order ∙ ap (λ o. versions_of c.args.tuple.now (rows_in o)) is)
