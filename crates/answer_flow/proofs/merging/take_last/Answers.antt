-- Both lists end with one tuple.
use Rattle.std.proofs.Common.{◌≡◌, ◌-◌, ◌<◌, Some, length, slice_get, sym, ap, arith, ◌∙◌}
use Rattle.std.specs.Vec.{vec_len}
use Rattle.std.proofs.lemmas.Option.{slice_get_within}
use Rattle.answer_flow.proofs.MergedRows.{same_last}
use Rattle.answer_flow.proofs.merging.take_last.Goals as goal

pub returns : goal.returns
returns c =
    let last_left : slice_get c.args.left.now.items (length c.args.left.now.items - 1) ≡ Some c.in-Some.last_left.now = sym (rw (c.in-Some.is, c.deref.ensures.value) at c.last.ensures.value) in
    let last_right : slice_get c.args.right.now.items (length c.args.right.now.items - 1) ≡ Some c.in-Some-last.last_right.now = sym (rw (c.in-Some-last.is, c.deref-2.ensures.value) at c.last-2.ensures.value) in
    let some_left : 0 < vec_len c.args.left.now = omega (arith, slice_get_within c.args.left.now.items (length c.args.left.now.items - 1) c.in-Some.last_left.now last_left, c.deref.ensures.len, ap length c.deref.ensures.value) in
    let some_right : 0 < vec_len c.args.right.now = omega (arith, slice_get_within c.args.right.now.items (length c.args.right.now.items - 1) c.in-Some-last.last_right.now last_right, c.deref-2.ensures.len, ap length c.deref-2.ensures.value) in
    same_last c.args.left.now.items c.args.right.now.items c.pop-2.new.self.items c.pop-same.new.self.items c.in-Some.last_left.now c.in-Some-last.last_right.now c.pop-2.result c.pop-same.result
    last_left last_right c.pop-2.ensures.items c.pop-same.ensures.items (c.pop-2.ensures.variant.1 some_left) (c.pop-same.ensures.variant.1 some_right)
    (sym c.is_before.ensures ∙ c.if-is_before.false) (sym c.is_before-2.ensures ∙ c.if-is_before-2.false)
