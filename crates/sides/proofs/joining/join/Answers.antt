use Rattle.std.proofs.Common.{◌≡◌, ◌++◌, length, ℕ, List, Option, subst, sym}
use Rattle.sides.proofs.Words.{behind_in, Entry, IsTiedThere, NodeView}
use Rattle.sides.proofs.LogJoins.{told_joins}
use Rattle.sides.proofs.joining.join.Goals as goal

pub returns-in-Some-clause-tied : goal.returns-in-Some-clause-tied
returns-in-Some-clause-tied g c tried may =
    let seen = c.args.log.now.seen in
    let heads = c.in-Some.heads in
    let it = told_joins g.D.Device.state g.D.Device.honest g.B.Room.store g.B.Room.shards c.args.node.now seen c.args.log.now.horizon tried heads may c.in-Some.ensures.heads in
    let there = subst (λ (n : Option (NodeView g.row.D.Denot)). IsTiedThere g.D.Device.state g.D.Device.honest g.B.Room.store g.B.Room.shards n (seen ++ behind_in seen n) heads.horizon tried) (sym c.ask_heads.ensures.same) it.tied in
    let counted = subst (λ (n : Option (NodeView g.row.D.Denot)). heads.kept ≡ length (seen ++ behind_in seen n)) (sym c.ask_heads.ensures.same) it.kept in
    let follows = c.join_to.ensures.follows counted it.within it.raised in
    let listed = subst (λ (l : List Entry). IsTiedThere g.D.Device.state g.D.Device.honest g.B.Room.store g.B.Room.shards c.ask_heads.new.node l heads.horizon tried) (sym follows.0) there in
    subst (λ (n : ℕ). IsTiedThere g.D.Device.state g.D.Device.honest g.B.Room.store g.B.Room.shards c.ask_heads.new.node c.join_to.new.log.seen n tried) (sym follows.1) listed
