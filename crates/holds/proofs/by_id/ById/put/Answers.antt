use Rattle.std.proofs.Common.{◌∙◌, ap, subst, sym}
use Rattle.std.specs.Map.{values_of}
use Rattle.records.specs.Replays.{put}
use Rattle.holds.proofs.ById.{AreOwn, own_put, put_by_id}
use Rattle.holds.proofs.by_id.ById.put.Goals as goal

pub invariant_of-self : goal.invariant_of-self
invariant_of-self c = record {
  in_order = c.insert.ensures.ordered;
  own = subst AreOwn (sym c.in-Ok.ensures.entries) (own_put c.args.write c.self.inside.writes.entries c.self.invariant.own);
}

pub returns-in-Ok-clause-ok : goal.returns-in-Ok-clause-ok
returns-in-Ok-clause-ok c =
    ap values_of c.in-Ok.ensures.entries ∙ put_by_id c.args.write c.self.inside.writes.entries c.self.invariant.own ∙ ap (put c.args.write) c.self.view_is
