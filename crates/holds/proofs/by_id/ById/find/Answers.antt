use Rattle.std.proofs.Common.{◌∙◌, ap}
use Rattle.records.specs.Replays.{find_in_doubt}
use Rattle.holds.proofs.ById.{found_by_id, from_copied}
use Rattle.holds.proofs.by_id.ById.find.Goals as goal

pub returns : goal.returns
returns c =
    let id = c.args.id in
    from_copied c.get.result (find_in_doubt id c.args.self.now)
    (c.get.ensures.value ∙ found_by_id id c.self.inside.writes.entries c.self.invariant.own ∙ ap (find_in_doubt id) c.self.view_is)
