use Rattle.std.proofs.Common.{ap₂, ◌∙◌}
use Rattle.tuples.specs.Order.{name_cmp, tuple_cmp}
use Rattle.tuples.proofs.InOrder.{packing_cmp}
use Rattle.tuples.proofs.packed.PackedOrd.cmp.Goals as goal

pub returns : goal.returns
returns c = c.cmp.ensures ∙ ap₂ name_cmp c.self.invariant.same c.other.invariant.same ∙ packing_cmp _ _ c.self.invariant.spelled c.other.invariant.spelled ∙ ap₂ tuple_cmp c.self.view_is c.other.view_is
