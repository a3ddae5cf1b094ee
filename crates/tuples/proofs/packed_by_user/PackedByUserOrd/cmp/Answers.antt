use Rattle.std.proofs.Common.{ap₂, ◌∙◌}
use Rattle.tuples.specs.ByUser.{by_user_cmp}
use Rattle.tuples.specs.Order.{name_cmp}
use Rattle.tuples.proofs.InOrder.{by_user_packing_cmp}
use Rattle.tuples.proofs.packed_by_user.PackedByUserOrd.cmp.Goals as goal

pub returns : goal.returns
returns c = c.cmp.ensures ∙ ap₂ name_cmp c.self.invariant.same c.other.invariant.same ∙ by_user_packing_cmp _ _ c.self.invariant.spelled c.other.invariant.spelled ∙ ap₂ by_user_cmp c.self.view_is c.other.view_is
