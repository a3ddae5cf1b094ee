use Rattle.std.proofs.Common.{List, ◌||◌, ap, ◌∙◌}
use Rattle.tuples.specs.declared.entry.WriteId.{WriteId}
use Rattle.tuples.specs.Log.{same_id}
use Rattle.shard.specs.Keeping.{has_id}
use Rattle.shard.proofs.Ids.{has_put}
use Rattle.shard.proofs.write_ids.WriteIds.put.Goals as goal

pub returns-clause-ok : goal.returns-clause-ok
returns-clause-ok c = λ j.
    has_put c.args.id c.self.inside.ids.keys c.insert.new.self.keys (c.in_ok-insert.ensures.updates).0 j
    ∙ ap (λ (l : List WriteId). has_id j l || same_id c.args.id j) c.self.view_is
