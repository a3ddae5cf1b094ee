use Rattle.std.proofs.Common.{rules}
use Rattle.std.proofs.lemmas.Fn.{filter_same}
use Rattle.versions.specs.Rows.{newest_under, rows_left, stays}
use Rattle.versions.proofs.history.collect.Goals as goal

pub returns : goal.returns
unfolding rows_left
returns c = filter_same _ (stays c.args.horizon (newest_under c.args.horizon c.args.rows.now.items)) _ (λ x b f' k. search rules) _ _ c.retain.ensures.filtered
