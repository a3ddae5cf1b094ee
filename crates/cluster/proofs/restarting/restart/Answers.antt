-- The node that stands where the name says is opened again, and put back there.
use Rattle.std.proofs.Common.{◌<◌, ◌∙◌, ℕ, List, Some, ap, set, subst}
use Rattle.std.specs.List.{insert}
use Rattle.calls.specs.Views.{NodeView}
use Rattle.cluster.specs.Nodes.{Reopened}
use Rattle.cluster.specs.Steps.{told_of_opening}
use Rattle.cluster.specs.Worlds.{node_at}
use Rattle.cluster.proofs.Answering.{there}
use Rattle.cluster.proofs.Places.{put_back}
use Rattle.cluster.proofs.Slots.{at_some}
use Rattle.cluster.proofs.restarting.restart.Goals as goal

pub returns-clause-restarts : goal.returns-clause-restarts
returns-clause-restarts g c =
    let old = c.args.nodes.now.items in
    let index = c.index_of-index.result in
    let is = c.reopen_node-node.result in
    let within = subst (λ (n : ℕ). index < n) (c.len.ensures ∙ c.args.nodes.now.ok.0) c.if-index-len.false in
    at_some (node_at old c.args.name) c.remove.result _ _ (there old c.args.name index c.remove.result c.index_of-index.ensures within c.remove.ensures.value) (record {
      is = is;
      reopened = subst (λ (d : g.row.D.Denot × g.row.D.Denot). Reopened g.D.Device.state g.D.Device.honest g.D.Device.moment g.D.Device.left_since c.args.store c.args.shards c.args.name d.0 d.1 is) c.into_devices-a.ensures c.reopen_node-node.ensures;
      new_is = c.put_back.ensures.items ∙ ap (λ (xs : List (NodeView g.row.D.Denot)). insert xs index is) c.remove.ensures.items ∙ put_back old index is within ∙ ap (λ (i : ℕ). set old i is) c.index_of-index.ensures;
      tells = ap Some (c.told_of-told.ensures ∙ ap told_of_opening c.refusal.ensures);
    })
