use Rattle.std.proofs.Common.{◌∙◌, ap}
use Rattle.tuples.specs.declared.entry.Entry.{Entry}
use Rattle.tuples.specs.Limits.{max_changes, max_conditions}
use Rattle.records.proofs.Shares.{few_changes, few_conditions}
use Rattle.records.proofs.measure.prepare_len.Goals as goal

pub changes_len-requires : goal.changes_len-requires
changes_len-requires c =
    let own = c.changes.ensures ∙ ap (λ (e : Entry). e.changes) c.part_at-own.ensures in
    record { few = rw own (few_changes c.shards.result c.node.result c.args.write.now max_changes c.requires.few_changes) }

pub conditions_len-requires : goal.conditions_len-requires
conditions_len-requires c =
    let own = c.conditions.ensures ∙ ap (λ (e : Entry). e.conditions) c.part_at-own.ensures in
    record { few = rw own (few_conditions c.shards.result c.node.result c.args.write.now max_conditions c.requires.few_conditions) }
