-- It ends with what it found.
use Rattle.std.proofs.Common.{None}
use Rattle.care_flow.specs.ResolvePhases.{holding}
use Rattle.care_flow.proofs.Found.{all_are_found}
use Rattle.care_flow.proofs.resolving.ResolveCall.give.Goals as goal

pub returns-in-Ended-Ok : goal.returns-in-Ended-Ok
returns-in-Ended-Ok c =
    let f = c.give.new.findings in
    let gives = rw c.in-Ended-Ok.field-0-is at c.in-Ended-Ok.ensures.gives in
    let each = all_are_found f.doubts.items f.found.items f.so_far (rw c.in-Ended-Ok.field-0-is at c.in-Ended-Ok.ensures.kept) in
    rw (← c.self.view_is) (f.doubts.items, holding f None None, gives, each)

pub returns-in-Ended-Err : goal.returns-in-Ended-Err
returns-in-Ended-Err c =
    let f = c.give.new.findings in
    let gives = rw c.in-Ended-Err.field-0-is at c.in-Ended-Err.ensures.gives in
    rw (← c.self.view_is, c.in-Ended-Err.field-0-is) (f.doubts.items, holding f None None, gives, tt)
