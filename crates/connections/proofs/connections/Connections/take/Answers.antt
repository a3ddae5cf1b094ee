use Rattle.std.proofs.Common.{Option, None, Some, subst}
use Rattle.std.specs.Prelude.{IfNone}
use Rattle.connections.specs.Ends.{IsWhole, Taking}
use Rattle.connections.specs.Numbers.{IsEach}
use Rattle.connections.proofs.Keeping.{all_taken, learns, takes}
use Rattle.connections.proofs.connections.Connections.take.Goals as goal

pub pop_as-requires-clause-rule : goal.pop_as-requires-clause-rule
pop_as-requires-clause-rule g c = (takes _ _ c.worker.invariant.0, learns _ _)

where_none : {T : Type 0} (r : Option T) (P : Type 0) → P → IfNone r P
where_none None P p = p
where_none (Some x) P p = tt

pub returns-in_err-numbered-clause-each : goal.returns-in_err-numbered-clause-each
returns-in_err-numbered-clause-each g c =
    let held = c.in_err-numbered.ensures.rule.1 in
    where_none c.from_residual.result _ (λ put. subst (λ (w : Taking). IsWhole w put → IsEach put w.taken) c.worker.view_is (all_taken c.worker.inside.pass.me.0.client held.0 put held.1 held.2))
