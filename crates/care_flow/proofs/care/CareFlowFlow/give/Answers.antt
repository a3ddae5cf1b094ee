-- A care that has ended is seen as it was, with its end.
use Rattle.std.proofs.Common.{None, refl}
use Rattle.decisions.specs.Flows.{no_heads, nothing_raised}
use Rattle.care_flow.specs.Views.{over}
use Rattle.care_flow.specs.declared.care.CareFlow.TheVariants.{Flush, Learn, Resolve, Raise, Collect}
use Rattle.care_flow.proofs.care.CareFlowFlow.give.Goals as goal

pub returns-in-Flush-clause-gives : goal.returns-in-Flush-clause-gives
returns-in-Flush-clause-gives c =
    let end = c.give.result in
    let last = record c.in-Flush.call { seen = over tt end } in
    rw c.in-Flush.is (Flush last, ((refl, refl, (end, c.give.ensures, refl)), (end, refl)), record { unnamed = refl; over = refl; end_is = refl; each = tt })

pub returns-in-Ended-clause-gives : goal.returns-in-Ended-clause-gives
returns-in-Ended-clause-gives c =
    let end = c.in-Ended.end in
    let last = record c.in-Learn.call { seen = over no_heads end; next_name = None } in
    rw c.in-Learn.is (Learn last, ((refl, c.in-Ended.ensures.makes), (end, refl)), record { unnamed = refl; over = refl; end_is = refl; each = tt })

pub returns-in-Ended-give-clause-gives : goal.returns-in-Ended-give-clause-gives
returns-in-Ended-give-clause-gives c =
    let end = c.in-Ended-give.end in
    let (doubts, holds, answered, each) = c.in-Ended-give.ensures in
    let last = record c.in-Resolve.call { doubts = doubts; seen = over holds end; next_name = None } in
    rw c.in-Resolve.is (Resolve last, ((refl, answered), (end, refl)), record { unnamed = refl; over = refl; end_is = refl; each = each })

pub returns-in-Ended-give-2-clause-gives : goal.returns-in-Ended-give-2-clause-gives
returns-in-Ended-give-2-clause-gives c =
    let end = c.in-Ended-give-2.end in
    let last = record c.in-Raise.call { seen = over nothing_raised end; next_name = None } in
    rw c.in-Raise.is (Raise last, ((refl, refl, c.in-Ended-give-2.ensures), (end, refl)), record { unnamed = refl; over = refl; end_is = refl; each = tt })

pub returns-in-Ended-give-3-clause-gives : goal.returns-in-Ended-give-3-clause-gives
returns-in-Ended-give-3-clause-gives c =
    let end = c.in-Ended-give-3.end in
    let last = record c.in-Collect.call { seen = over no_heads end } in
    rw c.in-Collect.is (Collect last, ((refl, c.in-Ended-give-3.ensures), (end, refl)), record { unnamed = refl; over = refl; end_is = refl; each = tt })
