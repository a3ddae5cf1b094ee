-- The catch-up is of the flow's shard, up to the kept place of the heads.
use Rattle.std.proofs.Common.{refl}
use Rattle.care_flow.proofs.Asking.{asks_on_its_way}
use Rattle.care_flow.proofs.learning.next.Goals as goal

pub returns-in-CatchUp-clause-asks : goal.returns-in-CatchUp-clause-asks
returns-in-CatchUp-clause-asks c =
    let v = c.in-CatchUp.catch_up in
    let r = c.next_call-call.result in
    let ensured = c.next_call-call.ensures in
    let own = rw c.in-CatchUp.is at c.requires in
    let asks = asks_on_its_way v c.args.shard c.in-CatchUp.heads.kept r.0 r.1 ensured.asks own.0 own.1 ensured.name in
    rw c.in-CatchUp.is (r.1, (v.from, v.flushed, asks), refl)
