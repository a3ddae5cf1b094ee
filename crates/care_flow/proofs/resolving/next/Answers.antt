-- The catch-up stays of its shard, up to its place.
use Rattle.std.proofs.Common.{refl}
use Rattle.care_flow.proofs.Asking.{asking_keeps, asks_on_its_way}
use Rattle.care_flow.proofs.resolving.next.Goals as goal

pub returns-in-CatchUp-clause-asks : goal.returns-in-CatchUp-clause-asks
returns-in-CatchUp-clause-asks c =
    let v = c.in-CatchUp.catch_up in
    let r = c.next_call-call.result in
    let ensured = c.next_call-call.ensures in
    let kept = asking_keeps v r.0 r.1 ensured.asks in
    let own = rw c.in-CatchUp.is at c.requires in
    let asks = asks_on_its_way v c.args.shard v.to r.0 r.1 ensured.asks own.0 refl ensured.name in
    rw c.in-CatchUp.is (own.1, (r.1, (v.from, v.flushed, asks), rw kept.1 refl))
