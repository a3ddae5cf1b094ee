use Rattle.std.proofs.Common.{◌≡◌, ap, ap₂, ◌∙◌}
use Rattle.std.specs.Cmp.Lexicographic.{texts_ties}
use Rattle.std.specs.Ordering.{is_eq}
use Rattle.tuples.specs.ByUser.{by_user_cmp}
use Rattle.tuples.specs.Order.{name_cmp}
use Rattle.tuples.specs.Packing.{packing_by_user}
use Rattle.tuples.proofs.InOrder.{by_user_packing_cmp}
use Rattle.tuples.proofs.packed_by_user.PackedByUser.is.Goals as goal

pub returns : goal.returns
returns c =
    let own : c.as_bytes.result.now ≡ c.self.inside.text = c.as_bytes.ensures in
    let others : c.as_slice.result.now ≡ packing_by_user c.args.tuple.now = c.as_slice.ensures.value ∙ c.pack.ensures ∙ ap packing_by_user c.parts.ensures.value in
    c.eq.ensures ∙ texts_ties c.as_bytes.result.now c.as_slice.result.now
    ∙ ap is_eq (ap₂ name_cmp (own ∙ c.self.invariant.same) others
    ∙ by_user_packing_cmp _ c.args.tuple.now c.self.invariant.spelled c.parts.ensures.grammar
    ∙ ap (λ t. by_user_cmp t c.args.tuple.now) c.self.view_is)
