use Rattle.std.proofs.Common.{Err, ◌≡◌, ap}
use Rattle.std.proofs.lemmas.Result.{err_from_is_err_and}
use Rattle.refusal.specs.declared.refusal.Refusal.{Refusal}
use Rattle.refusal.specs.declared.refusal.Refusal.TheVariants.{Damaged}
use Rattle.journal.specs.Unread.{IsRead}
use Rattle.shard.proofs.Openings.{may_follow, nothing_read, one_replayed}
use Rattle.shard.proofs.opening.ShardKindNodeKind.replayed.Goals as goal

pub loop-replay-init : goal.loop-replay-init
loop-replay-init c = nothing_read c.args.me c.args.unread c.new-replay.result c.new-replay.ensures

pub loop-replay-preserved : goal.loop-replay-preserved
loop-replay-preserved c =
    let read : IsRead c.loop-replay.unread c.in-Some.record c.next.new.self = rw c.in-Some.is at c.in_ok-record.ensures.ok in
    one_replayed c.args.me c.args.unread.records c.loop-replay.unread c.loop-replay.replay c.loop-replay.invariant c.in-Some.record c.next.new.self read c.take.new.self c.in_ok-take.ensures.ok.0 c.in_ok-take.ensures.ok.1

pub returns-in_err-take-clause-damaged : goal.returns-in_err-take-clause-damaged
returns-in_err-take-clause-damaged c = λ is rs was image.
    let read : IsRead c.loop-replay.unread c.in-Some.record c.next.new.self = rw c.in-Some.is at c.in_ok-record.ensures.ok in
    let p = err_from_is_err_and c.from_residual-in_err-take.result c.from_residual-in_err-take.ensures.1 in
    let same : c.in_err-take.field-0.0 ≡ Damaged = (let e = rw (p.1, p.2) at is in cc) in
    c.in_err-take.ensures.damaged (ap (λ (e : Refusal). Err e) same)
    (may_follow c.args.me c.args.unread.records c.loop-replay.unread c.loop-replay.replay c.loop-replay.invariant c.in-Some.record c.next.new.self read rs was image)
