use Rattle.std.proofs.Common.{inl, ◌⊎◌, inr, Result, Ok, Err}
use Rattle.std.specs.Prelude.{OnErr, OnOk}
use Rattle.scripts.proofs.serving.run_out.Goals as goal

either : {T E : Type 0} {P Q : Type 0} (r : Result T E) → OnOk r P → OnErr r Q → P ⊎ Q
either (Ok x) p q = inl p
either (Err e) p q = inr q

pub returns-in-Err-clause-refused : goal.returns-in-Err-clause-refused
returns-in-Err-clause-refused g c = inl (c.go.new.store, c.in-Err.ensures.left, either c.cancel.result c.cancel.ensures.cancels c.cancel.ensures.left)
