-- The catch-up stays of its shard, up to its place.
use Rattle.std.proofs.Common.{◌≡◌, None, false, arith, ap, refl}
use Rattle.std.proofs.lemmas.Grind.{common_steps}
use Rattle.names.specs.declared.call_name.CallName.TheVariants.{Learned}
use Rattle.catch_up.specs.declared.caught.Progress.TheVariants.{Refused}
use Rattle.care_flow.specs.ResolvePhases.{view_of}
use Rattle.care_flow.proofs.Naming.{whichever_next}
use Rattle.care_flow.proofs.resolving.caught_up.Goals as goal

pub returns-in-Next-clause-kept : goal.returns-in-Next-clause-kept
returns-in-Next-clause-kept c =
    let next : c.in-Next.catch_up.to ≡ c.args.call.held.to = grind (arith, common_steps) in
    let own : c.in-Next.catch_up.shard ≡ c.args.shard = grind (arith, common_steps) in
    (own, rw next c.requires.committed)

-- the refusal is that of the catch-up, whichever of its calls was out
pub returns-in-Refused-clause-gives : goal.returns-in-Refused-clause-gives
returns-in-Refused-clause-gives c =
    let refused = Refused c.in-Refused.refusal in
    let gives = whichever_next c.args.call Learned None false c.args.reply refused (rw c.in-Refused.is at c.give.ensures) in
    (refl, (refused, rw c.requires.shard at gives, ap (view_of c.args.findings.now) c.refused.ensures))
