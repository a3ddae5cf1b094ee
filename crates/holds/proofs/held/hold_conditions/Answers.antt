use Rattle.std.proofs.Common.{◌||◌, Bool, ap, ◌∙◌}
use Rattle.tuples.specs.declared.change.Condition.{Condition}
use Rattle.holds.specs.Holds.{is_in}
use Rattle.holds.proofs.Named.{has_take}
use Rattle.holds.proofs.held.hold_conditions.Goals as goal

pub returns-in_err-hold_tuple-clause-others : goal.returns-in_err-hold_tuple-clause-others
returns-in_err-hold_tuple-clause-others c t none =
    c.in_err-hold_tuple.ensures.err t ∙ c.loop-condition.invariant t ∙ ap (λ (b : Bool). b || is_in c.args.held.now.keys t) (has_take (λ (x : Condition). x.tuple) t c.args.conditions.now c.loop-condition.condition-index none)
