use Rattle.std.proofs.Common.{◌≡◌, ◌++◌, length, ℕ, List, [], Option, subst, sym, arith}
use mathlib.Core.List.{IsPrefix}
use Rattle.published.proofs.Prefixes.{prefix_more}
use Rattle.sides.proofs.Words.{behind_in, Entry, IsTiedThere, NodeView}
use Rattle.sides.proofs.LogJoins.{told_joins}
use Rattle.sides.proofs.joining.begin.Goals as goal

pub returns-clause-tied : goal.returns-clause-tied
returns-clause-tied g c may =
    let seen = g.B.Room.first in
    let heads = c.in-Some.heads in
    let it = told_joins g.D.Device.state g.D.Device.honest g.B.Room.store g.B.Room.shards c.args.node.now seen g.B.Room.low [] heads may c.in-Some.ensures.heads in
    let there = subst (λ (n : Option (NodeView g.row.D.Denot)). IsTiedThere g.D.Device.state g.D.Device.honest g.B.Room.store g.B.Room.shards n (seen ++ behind_in seen n) heads.horizon []) (sym c.ask_heads.ensures.same) it.tied in
    let counted = subst (λ (n : Option (NodeView g.row.D.Denot)). heads.kept ≡ length (seen ++ behind_in seen n)) (sym c.ask_heads.ensures.same) it.kept in
    let follows = c.begin_to.ensures.follows counted it.within (omega (arith)) in
    let listed = subst (λ (l : List Entry). IsTiedThere g.D.Device.state g.D.Device.honest g.B.Room.store g.B.Room.shards c.ask_heads.new.node l heads.horizon []) (sym follows.0) there in (
      subst (λ (n : ℕ). IsTiedThere g.D.Device.state g.D.Device.honest g.B.Room.store g.B.Room.shards c.ask_heads.new.node c.begin_to.new.log.seen n []) (sym follows.1) listed,
      subst (λ (l : List Entry). IsPrefix seen l) (sym follows.0) (prefix_more seen (behind_in seen c.ask_heads.new.node)),
      let raised = it.raised in omega (arith, follows.1, raised),
    )
