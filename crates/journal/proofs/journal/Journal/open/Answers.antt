use Rattle.std.proofs.Common.{◌∙◌}
use Rattle.journal.proofs.journal.Journal.open.Goals as goal

pub into_journal-requires : goal.into_journal-requires
into_journal-requires g c = λ hon_a hon_b. (c.in-Ok-read_all.records.items, (c.in-Ok.ensures.ok (c.in-Ok.ensures.honest.0.1 hon_a) (c.in-Ok.ensures.honest.1.1 hon_b)).1 ∙ c.in-Ok-read_all.ensures.ok)
