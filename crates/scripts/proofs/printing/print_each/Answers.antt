use Rattle.std.proofs.Common.{ap, arith, length, take}
use Rattle.std.specs.List.{flat_map}
use Rattle.std.proofs.lemmas.List.{length-append}
use Rattle.care_flow.specs.declared.end.Resolved.TheVariants.{Committed}
use Rattle.scripts.specs.Telling.{resolved_text}
use Rattle.scripts.proofs.Rooms.{part_fits}
use Rattle.scripts.proofs.printing.print_each.Goals as goal
use Rattle.tuples.proofs.Options.{on_err}

pub returns-in_err-print_resolved-clause-memory : goal.returns-in_err-print_resolved-clause-memory
returns-in_err-print_resolved-clause-memory c =
    let full = c.in_err-print_resolved.ensures.memory in
    let before = c.loop-resolved.invariant in
    let so_far = flat_map resolved_text (take c.loop-resolved.resolved-index c.args.found.now) in
    let now = ap length before.0 in
    let grown = length-append c.args.out.now.items so_far in
    let fits = part_fits resolved_text c.args.found.now c.loop-resolved.resolved-index (Committed (record { epoch = 0; number = 0 }) 0) c.loop-resolved-test.true in
    on_err c.from_residual.result (omega (arith, full, before.1, now, grown, fits, c.loop-resolved.out.ok.0, c.args.out.now.ok.0))
