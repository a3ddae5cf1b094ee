use Rattle.std.proofs.Common.{drop, sym, ap₂, ◌∙◌, arith, take_all, drop-drop, length-drop}
use Rattle.std.specs.Cmp.Lexicographic.{slice_cmp}
use Rattle.std.specs.Ordering.{nat_cmp}
use Rattle.tuples.proofs.Worded.{told, untold, from_place}
use Rattle.tuples.proofs.name.compare_padded.Goals as goal

pub returns-then-is_ne-2-clause-order : goal.returns-then-is_ne-2-clause-order
returns-then-is_ne-2-clause-order c =
    let a = c.args.a.now in
    let b = c.args.b.now in
    let second = from_place 8 22 a b _ c.told-a c.told-b c.compare_words-order-2.ensures in
    told 8 (drop 8 a) (drop 8 b) _ second (sym c.is_ne-2.ensures ∙ c.if-is_ne-2.true)
    ∙ untold 8 8 a b _ (omega arith) c.compare_words-order.ensures (sym c.is_ne.ensures ∙ c.if-is_ne.false)

pub returns-then-is_ne-3-clause-order : goal.returns-then-is_ne-3-clause-order
returns-then-is_ne-3-clause-order c =
    let a = c.args.a.now in
    let b = c.args.b.now in
    let second = from_place 8 22 a b _ c.told-a c.told-b c.compare_words-order-2.ensures in
    let third = from_place 16 14 a b _ c.told-a c.told-b c.compare_words-order-3.ensures in
    told 8 (drop 16 a) (drop 16 b) _ third (sym c.is_ne-3.ensures ∙ c.if-is_ne-3.true)
    ∙ sym (ap₂ (slice_cmp nat_cmp) (drop-drop 8 8 a) (drop-drop 8 8 b))
    ∙ untold 8 8 (drop 8 a) (drop 8 b) _ (omega arith) second (sym c.is_ne-2.ensures ∙ c.if-is_ne-2.false)
    ∙ untold 8 8 a b _ (omega arith) c.compare_words-order.ensures (sym c.is_ne.ensures ∙ c.if-is_ne.false)

pub returns-clause-order : goal.returns-clause-order
returns-clause-order c =
    let a = c.args.a.now in
    let b = c.args.b.now in
    let second = from_place 8 22 a b _ c.told-a c.told-b c.compare_words-order-2.ensures in
    let third = from_place 16 14 a b _ c.told-a c.told-b c.compare_words-order-3.ensures in
    let fourth = from_place 22 8 a b _ c.told-a c.told-b c.compare_words.ensures in
    fourth
    ∙ ap₂ (slice_cmp nat_cmp) (take_all 8 (drop 22 a) (omega (arith, length-drop 22 a, c.told-a))) (take_all 8 (drop 22 b) (omega (arith, length-drop 22 b, c.told-b)))
    ∙ sym (ap₂ (slice_cmp nat_cmp) (drop-drop 6 16 a) (drop-drop 6 16 b))
    ∙ untold 6 8 (drop 16 a) (drop 16 b) _ (omega arith) third (sym c.is_ne-3.ensures ∙ c.if-is_ne-3.false)
    ∙ sym (ap₂ (slice_cmp nat_cmp) (drop-drop 8 8 a) (drop-drop 8 8 b))
    ∙ untold 8 8 (drop 8 a) (drop 8 b) _ (omega arith) second (sym c.is_ne-2.ensures ∙ c.if-is_ne-2.false)
    ∙ untold 8 8 a b _ (omega arith) c.compare_words-order.ensures (sym c.is_ne.ensures ∙ c.if-is_ne.false)
