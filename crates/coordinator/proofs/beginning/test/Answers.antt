use Rattle.std.proofs.Common.{◌≡◌, ℕ, Some, length, get_or, slice_get, refl, sym, ◌∙◌, subst, arith, true, false}
use Rattle.std.proofs.lemmas.Option.{same_Some, slice_get-get_or, slice_get_read}
use borrow.Author.Count.{below_more}
use Rattle.tuples.specs.declared.change.Condition.{Condition}
use Rattle.coordinator.specs.Ranges.{IsBetween}
use Rattle.coordinator.proofs.beginning.test.Goals as goal

pub loop-condition-preserved : goal.loop-condition-preserved
loop-condition-preserved c =
    let conditions = c.args.conditions.now in
    let at = c.loop-condition.condition-index in
    let x = c.condition-item.result in
    let item : slice_get conditions at ≡ Some x = slice_get_read conditions (length conditions) at x refl c.loop-condition-test.true c.condition-item.is in
    let between : IsBetween c.args.horizon c.args.end x.want = record {
      above = λ is. absurd (let t : false ≡ true = c.if-is_below.ensures.1 is in cc);
      below = λ is. absurd (let t : false ≡ true = c.if-is_above.ensures.1 is in cc);
    } in
    λ i d lt there. below_more (λ (n : ℕ). (y : Condition) → slice_get conditions n ≡ Some y → IsBetween c.args.horizon c.args.end y.want) at
    (λ n before y is. c.loop-condition.invariant n y before is)
    (λ y is. subst (λ (z : Condition). IsBetween c.args.horizon c.args.end z.want) (same_Some x y (sym item ∙ is)) between)
    i lt d there

pub returns-clause-ok : goal.returns-clause-ok
returns-clause-ok c = λ k d lt.
    let end = c.loop-condition-test.false in
    c.loop-condition.invariant k (get_or c.args.conditions.now k d) (omega (arith, lt, end)) (slice_get-get_or c.args.conditions.now k d lt)
