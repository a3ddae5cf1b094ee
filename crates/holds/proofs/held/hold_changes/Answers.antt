use Rattle.std.proofs.Common.{◌||◌, Bool, ap, ◌∙◌}
use Rattle.tuples.specs.Changes.{tuple_of}
use Rattle.holds.specs.Holds.{is_in}
use Rattle.holds.proofs.Named.{has_take}
use Rattle.holds.proofs.held.hold_changes.Goals as goal

pub returns-in_err-hold_tuple-clause-others : goal.returns-in_err-hold_tuple-clause-others
returns-in_err-hold_tuple-clause-others c t none =
    c.in_err-hold_tuple.ensures.err t ∙ c.loop-change.invariant t ∙ ap (λ (b : Bool). b || is_in c.args.held.now.keys t) (has_take tuple_of t c.args.changes.now c.loop-change.change-index none)
