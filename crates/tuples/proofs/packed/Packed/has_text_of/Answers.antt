use Rattle.std.proofs.Common.{◌≡◌, ap, ap₂, ◌∙◌}
use Rattle.std.specs.Cmp.Lexicographic.{texts_ties}
use Rattle.std.specs.Ordering.{is_eq}
use Rattle.tuples.specs.Named.{named_tuple}
use Rattle.tuples.specs.Order.{name_cmp, tuple_cmp, tuple_eq}
use Rattle.tuples.specs.Packing.{packing}
use Rattle.tuples.proofs.InOrder.{packing_cmp}
use Rattle.tuples.proofs.packed.Packed.has_text_of.Goals as goal

pub returns : goal.returns
unfolding tuple_eq
returns c =
    let t = named_tuple c.args.tuple.now in
    let own : c.as_bytes.result.now ≡ c.self.inside.text = c.as_bytes.ensures in
    let others : c.as_slice.result.now ≡ packing t = c.as_slice.ensures.value ∙ c.pack.ensures in
    c.eq.ensures ∙ texts_ties c.as_bytes.result.now c.as_slice.result.now
    ∙ ap is_eq (ap₂ name_cmp (own ∙ c.self.invariant.same) others
    ∙ packing_cmp _ t c.self.invariant.spelled c.requires
    ∙ ap (λ u. tuple_cmp u t) c.self.view_is)
