use Rattle.std.proofs.Common.{◌≡◌, false, cond, subst, rules}
use Rattle.tuples.specs.declared.tuple.Tuple.{Tuple}
use Rattle.versions.specs.Index.{Forgets}
use Rattle.versions.proofs.Index.{forgets_filtered}
use Rattle.versions.proofs.table.forget.Goals as goal

pub returns-in-Ok : goal.returns-in-Ok
returns-in-Ok c =
    let named : c.in-Ok.named ≡ c.args.tuple.now = search rules in
    subst (λ (t : Tuple). Forgets t c.args.users.now.keys c.remove.new.self.keys) named (c.remove.ensures.updates).0

pub returns-in-Err : goal.returns-in-Err
returns-in-Err c = forgets_filtered c.args.tuple.now c.args.users.now.keys c.leave_out.new.users.keys c.leave_out.ensures
