use Rattle.std.proofs.Common.{◌≡◌, subst}
use Rattle.std.specs.Prelude.{IfOk}
use Rattle.records.specs.Replays.{ShardState}
use Rattle.holds.specs.Holds.{ids}
use Rattle.replay.proofs.memory.Memory.ids_in_doubt.Goals as goal

pub returns-clause-exact : goal.returns-clause-exact
returns-clause-exact c =
    let P : ShardState → Type 0 = λ s. IfOk c.in_doubt.result (λ v. v.items ≡ ids s.in_doubt) in
    subst P c.self.view_is c.in_doubt.ensures.exact
