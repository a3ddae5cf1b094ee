use Rattle.std.proofs.Common.{◌∙◌, ap, subst, sym}
use Rattle.std.specs.Map.{values_of}
use Rattle.records.specs.Replays.{find_in_doubt, without}
use Rattle.holds.proofs.ById.{AreOwn, found_by_id, own_left, taken_by_id}
use Rattle.holds.proofs.by_id.ById.take_out.Goals as goal

pub invariant_of-self : goal.invariant_of-self
invariant_of-self c = record {
  in_order = c.remove.ensures.ordered;
  own = subst AreOwn (sym c.remove.ensures.entries) (own_left _ c.self.inside.writes.entries c.self.invariant.own);
}

pub returns-clause-found : goal.returns-clause-found
returns-clause-found c = c.remove.ensures.value ∙ found_by_id c.args.id c.self.inside.writes.entries c.self.invariant.own ∙ ap (find_in_doubt c.args.id) c.self.view_is

pub returns-clause-left : goal.returns-clause-left
returns-clause-left c =
    ap values_of c.remove.ensures.entries
    ∙ taken_by_id c.args.id c.self.inside.writes.entries c.self.invariant.in_order c.self.invariant.own
    ∙ ap (without c.args.id) c.self.view_is
