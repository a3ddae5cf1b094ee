-- The first userset is met.
use Rattle.std.proofs.Common.{List, ◌++◌, sym, subst}
use Rattle.tuples.specs.declared.object.Userset.{Userset}
use Rattle.answer_flow.specs.Walking.{IsWalk}
use Rattle.answer_flow.proofs.MetLists.{first_met}
use Rattle.answer_flow.proofs.walk.Walk.new.Goals as goal

pub invariant_of-result : goal.invariant_of-result
invariant_of-result c =
    let met = first_met c.new-met.result.keys c.new-waiting.result.items c.args.userset.now c.meet.new.met.keys c.meet.new.waiting.items c.new-met.ensures.empty c.new-waiting.ensures.items c.in_ok-meet.ensures in
    rw (c.in_ok-new.ensures.ok)
    (subst (λ (xs : List Userset). IsWalk c.meet.new.met.keys (xs ++ c.meet.new.waiting.items)) (sym c.new.ensures.items) met.0)
