-- As many values are held as were found.
use Rattle.std.proofs.Common.{◌≡◌, None, map, length, slice_get, refl, sym}
use Rattle.std.proofs.lemmas.List.{length-map}
use Rattle.care_flow.specs.Ends.{resolved_value}
use Rattle.care_flow.proofs.resolving.go_on.Goals as goal

pub returns-in-None-clause-goes : goal.returns-in-None-clause-goes
returns-in-None-clause-goes c = λ doubts h are is.
    let f = c.args.findings.now in
    let none : slice_get f.doubts.items (length (map resolved_value f.found.items)) ≡ None = rw length-map (sym (rw c.in-None.is at c.next.ensures)) in
    rw (are, is, none) (f.found, refl, refl)
