use Rattle.std.proofs.Common.{◌≡◌, ◌≤◌, ◌++◌, take, vec_capacity}
use Rattle.std.specs.List.{flat_map}
use Rattle.scripts.specs.Telling.{resolved_text}
use Rattle.scripts.proofs.printing.print_each.Given as goal

abbrev pub invariant-loop-resolved : goal.invariant-loop-resolved
invariant-loop-resolved l = (l.out.items ≡ l.fn.out.items ++ flat_map resolved_text (take l.resolved-index l.found)) × (vec_capacity l.fn.out ≤ vec_capacity l.out)
