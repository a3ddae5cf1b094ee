use Rattle.std.proofs.Common.{◌≡◌, ◌↔◌, [], IsTrue, subst}
use Rattle.tuples.specs.declared.entry.Entry.{Entry}
use Rattle.shard.proofs.Tested.{taken_part}
use Rattle.shard.proofs.learning.takes_part.Goals as goal

pub returns : goal.returns
returns c =
    let none = c.is_empty.result in
    taken_part c.args.me.shards c.args.me.node c.args.write.now none (subst (λ (p : Entry). IsTrue none ↔ ((p.changes ≡ []) × (p.conditions ≡ []))) c.own_part.ensures c.is_empty.ensures)
