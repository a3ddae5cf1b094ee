use Rattle.std.proofs.Common.{List, ap, ◌∙◌}
use Rattle.tuples.specs.Versions.{there_at}
use Rattle.versions.specs.Rows.{versions_of}
use Rattle.versions.specs.declared.history.Row.{Row}
use Rattle.versions.proofs.history.is_there_at.Goals as goal

pub returns-clause-there : goal.returns-clause-there
returns-clause-there g c t = c.is_touched_at.ensures.there t ∙ ap (λ (l : List Row). there_at (versions_of t l) c.args.place t) c.as_slice.ensures
