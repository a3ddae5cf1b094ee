use Rattle.std.proofs.Common.{ap, sym, ◌∙◌}
use Rattle.shard.specs.Keeping.{has_id}
use Rattle.shard.proofs.Ids.{has_is}
use Rattle.shard.proofs.write_ids.WriteIds.has.Goals as goal

pub returns : goal.returns
returns c = c.contains.ensures ∙ sym (has_is c.args.id c.self.inside.ids.keys) ∙ ap (has_id c.args.id) c.self.view_is
